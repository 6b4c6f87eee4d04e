-- Trees each of whose leaves passes a test.
use Rattle.std.proofs.Common.{◌≡◌, refl, Bool, true, ◌&&◌, Option}
use Rattle.std.proofs.lemmas.Bool.{and_parts}
use Rattle.cedar_language.specs.Uid.{Text}
use Rattle.cedar_language.specs.Tree.{Variable, SlotId, Operator, MakeSet, MakeRecord, Call, Tree, Lit, Var, Slot, Unknown, If, And, Or, Apply, Trees, no_trees, a_tree, ValueType}
use Rattle.cedar_language.specs.Facts.{Facts}
use Rattle.cedar_language.specs.Restricted.{is_restricted, are_restricted, is_projectable, are_projectable}
use Rattle.cedar_partial_evaluation.specs.Partial.{ResidualTree, LeafAnswers, residual_answer}
use Rattle.cedar_partial_evaluation.specs.Unknowns.{LeafTests, EachLeaf, EachLeafOf, of_unknowns, EachUnknown, EachUnknownOf}
use Rattle.cedar_partial_evaluation.specs.Mentions.{mentions_only, all_mention_only}

-- a test that each leaf passes
module _ (test : LeafTests) (variable : (v : Variable) → test.variable v) (slot : (s : SlotId) → test.slot s)
    (unknown : (n : Text) (ty : Option ValueType) → test.unknown n ty) where
  mutual
    pub each_passes : (t : Tree) → EachLeaf test t
    each_passes (Lit l) = tt
    each_passes (Var v) = variable v
    each_passes (Slot s) = slot s
    each_passes (Unknown n ty) = unknown n ty
    each_passes (If t y n) = (each_passes t, each_passes y, each_passes n)
    each_passes (And l r) = (each_passes l, each_passes r)
    each_passes (Or l r) = (each_passes l, each_passes r)
    each_passes (Apply op ts) = all_pass ts

    pub all_pass : (ts : Trees) → EachLeafOf test ts
    all_pass no_trees = tt
    all_pass (a_tree t ts) = (each_passes t, all_pass ts)

-- nothing is tested
abbrev pub any : LeafTests
any = of_unknowns (λ n ty. Unit {0})

pub each_any : (t : Tree) → EachLeaf any t
each_any t = each_passes any (λ v. tt) (λ s. tt) (λ n ty. tt) t

-- what passes one test passes a weaker one
module _ (strong weak : LeafTests) (variable : (v : Variable) → strong.variable v → weak.variable v) (slot : (s : SlotId) → strong.slot s → weak.slot s)
    (unknown : (n : Text) (ty : Option ValueType) → strong.unknown n ty → weak.unknown n ty) where
  mutual
    pub each_weaker : (t : Tree) → EachLeaf strong t → EachLeaf weak t
    each_weaker (Lit l) h = tt
    each_weaker (Var v) h = variable v h
    each_weaker (Slot s) h = slot s h
    each_weaker (Unknown n ty) h = unknown n ty h
    each_weaker (If t y n) (h, i, j) = (each_weaker t h, each_weaker y i, each_weaker n j)
    each_weaker (And l r) (h, i) = (each_weaker l h, each_weaker r i)
    each_weaker (Or l r) (h, i) = (each_weaker l h, each_weaker r i)
    each_weaker (Apply op ts) h = all_weaker ts h

    all_weaker : (ts : Trees) → EachLeafOf strong ts → EachLeafOf weak ts
    all_weaker no_trees h = tt
    all_weaker (a_tree t ts) (h, i) = (each_weaker t h, all_weaker ts i)

-- ---- trees that mention some leaves alone

abbrev pub mentioned_alone : (Variable → Bool) → Bool → LeafTests
mentioned_alone f slots = record { variable = λ v. f v ≡ true; slot = λ s. slots ≡ true; unknown = λ n ty. ⊥ }

module _ (f : Variable → Bool) (slots : Bool) where
  mutual
    pub mentioned : (t : Tree) → mentions_only f slots t ≡ true → EachLeaf (mentioned_alone f slots) t
    mentioned (Lit l) h = tt
    mentioned (Var v) h = h
    mentioned (Slot s) h = h
    mentioned (Unknown n ty) h = cc
    mentioned (If t y n) h =
        let (ht, rest) = and_parts (mentions_only f slots t) (mentions_only f slots y && mentions_only f slots n) h in
        let (hy, hn) = and_parts (mentions_only f slots y) (mentions_only f slots n) rest in
        (mentioned t ht, mentioned y hy, mentioned n hn)
    mentioned (And l r) h = let (hl, hr) = and_parts (mentions_only f slots l) (mentions_only f slots r) h in (mentioned l hl, mentioned r hr)
    mentioned (Or l r) h = let (hl, hr) = and_parts (mentions_only f slots l) (mentions_only f slots r) h in (mentioned l hl, mentioned r hr)
    mentioned (Apply op ts) h = all_mentioned ts h

    pub all_mentioned : (ts : Trees) → all_mention_only f slots ts ≡ true → EachLeafOf (mentioned_alone f slots) ts
    all_mentioned no_trees h = tt
    all_mentioned (a_tree t ts) h = let (ht, hts) = and_parts (mentions_only f slots t) (all_mention_only f slots ts) h in (mentioned t ht, all_mentioned ts hts)

-- ---- data: neither variables nor slots stand in it

-- an operator that is left as it is where some operands are left
abbrev pub Stays : Operator → Type 0
Stays op = (facts : Facts) (holds : LeafAnswers) (rs : Trees) → residual_answer facts holds op rs ≡ ResidualTree (Apply op rs)

pub data_in : (op : Operator) (ts : Trees) → is_restricted (Apply op ts) ≡ true → (are_restricted ts ≡ true) × Stays op
data_in MakeSet ts h = (h, λ facts holds rs. refl)
data_in (MakeRecord ks) ts h = (h, λ facts holds rs. refl)
data_in (Call f) ts h = (h, λ facts holds rs. refl)
data_in _ ts h = cc

pub plain_in : (op : Operator) (ts : Trees) → is_projectable (Apply op ts) ≡ true → (are_projectable ts ≡ true) × Stays op
plain_in MakeSet ts h = (h, λ facts holds rs. refl)
plain_in (MakeRecord ks) ts h = (h, λ facts holds rs. refl)
plain_in _ ts h = cc

abbrev pub of_data : (Text → Option ValueType → Type 0) → LeafTests
of_data Passes = record { variable = λ v. ⊥; slot = λ s. ⊥; unknown = Passes }

module _ (Passes : Text → Option ValueType → Type 0) where
  mutual
    pub data_passes : (t : Tree) → is_restricted t ≡ true → EachUnknown Passes t → EachLeaf (of_data Passes) t
    data_passes (Lit l) h given = tt
    data_passes (Unknown n ty) h given = given
    data_passes (Apply op ts) h given = all_data_pass ts (data_in op ts h).0 given
    data_passes _ h given = cc

    all_data_pass : (ts : Trees) → are_restricted ts ≡ true → EachUnknownOf Passes ts → EachLeafOf (of_data Passes) ts
    all_data_pass no_trees h given = tt
    all_data_pass (a_tree t ts) h (now, later) =
        let (ht, hts) = and_parts (is_restricted t) (are_restricted ts) h in
        (data_passes t ht now, all_data_pass ts hts later)
