-- What trees for values settle to, and what is settled where nothing is open.
use Rattle.std.proofs.Common.{◌≡◌, ◌≢◌, ℕ, Bool, true, false, not, cond, Option, Some, None, List, [], ◌∷◌, refl, sym, ◌∙◌, ap}
use Rattle.cedar_language.specs.Uid.{Text, Name, Uid}
use Rattle.cedar_language.specs.Tree.{Entity, Context, Var, GetAttr, HasAttr, Operator, Equal, Tree, Trees, no_trees, a_tree}
use Rattle.cedar_language.specs.Tree as tree
use Rattle.cedar_language.specs.Value.{Value, Plain, SetOf, RecordOf, ExtensionOf, Values, no_values, a_value, Outcome, Gives, Fails}
use Rattle.cedar_language.specs.Order.{same, same_text, same_name}
use Rattle.cedar_language.specs.Facts.{Facts}
use Rattle.cedar_language.specs.Constructing.{longs_of}
use Rattle.cedar_language.specs.Operators.{found}
use Rattle.cedar_partial_evaluation.specs.Settling.{Settling, Open, Errs, Is, Settlings, SomeOpen, SomeErrs, AllAre, kindless, and_more, LeafSettlings, or_entry, or_type, settled_in, all_settled_in}
use Rattle.cedar_partial_evaluation.specs.MadeAgain.{tree_of, trees_of, long_values, IsMadeAgain, AreMadeAgain}
use Rattle.cedar_partial_evaluation.specs.Partial.{answer_of, found_tree}
use Rattle.cedar_partial_evaluation.specs.Fair.{read}
use Rattle.cedar_language.proofs.Rising.{rising_same}
use Rattle.cedar_language.specs.OrderLaws.{same_is}
use Rattle.std.specs.Cmp.Lexicographic.{pointwise_decides, bytes_decides}
use Rattle.std.proofs.Common.{true≢false}

abbrev set_is : Values → Settling
set_is vs = Is (SetOf vs)

longs_are : (facts : Facts) (around : LeafSettlings) (bs : List ℕ) → all_settled_in facts around (longs_of bs) ≡ AllAre (long_values bs)
longs_are facts around [] = refl
longs_are facts around (b ∷ bs) = rw (longs_are facts around bs) refl

-- a value's tree has the value, whatever stands around
mutual
  pub tree_of_is : (facts : Facts) (around : LeafSettlings) (v : Value) → IsMadeAgain facts v → settled_in facts around (tree_of facts v) ≡ Is v
  tree_of_is facts around (Plain l) h = refl
  tree_of_is facts around (SetOf vs) h = rw (trees_of_are facts around vs h.1) (ap set_is (rising_same vs h.0))
  tree_of_is facts around (RecordOf ks vs) h = rw (trees_of_are facts around vs h) refl
  tree_of_is facts around (ExtensionOf e) h = rw (longs_are facts around e.key) (ap kindless h)

  pub trees_of_are : (facts : Facts) (around : LeafSettlings) (vs : Values) → AreMadeAgain facts vs → all_settled_in facts around (trees_of facts vs) ≡ AllAre vs
  trees_of_are facts around no_values h = refl
  trees_of_are facts around (a_value v vs) h = rw (tree_of_is facts around v h.0, trees_of_are facts around vs h.1) refl

-- ---- types settle what is open alone

pub type_closed : (op : Operator) (os : List (Option Name)) (x : Settling) → x ≢ Open → or_type op os x ≡ x
type_closed (tree.Is ty) (o ∷ []) Open n = absurd (n refl)
type_closed Equal (o ∷ p ∷ []) Open n = absurd (n refl)
type_closed op os x n = refl

pub type_errs : (op : Operator) (os : List (Option Name)) → or_type op os Errs ≡ Errs
type_errs op os = type_closed op os Errs (λ h. cc)

pub entry_errs : (around : LeafSettlings) (op : Operator) (ts : Trees) → or_entry around op ts Errs ≡ Errs
entry_errs around (GetAttr a) (a_tree (Var Context) no_trees) = refl
entry_errs around (HasAttr a) (a_tree (Var Context) no_trees) = refl
entry_errs around op ts = refl

pub applied_errs : (around : LeafSettlings) (op : Operator) (os : List (Option Name)) (ts : Trees) → or_type op os (or_entry around op ts Errs) ≡ Errs
applied_errs around op os ts = ap (or_type op os) (entry_errs around op ts) ∙ type_errs op os

pub never_open : (o : Outcome) → kindless o ≢ Open
never_open (Gives v) h = cc
never_open (Fails k) h = cc

pub type_meant : (op : Operator) (os : List (Option Name)) (o : Outcome) → or_type op os (kindless o) ≡ kindless o
type_meant op os o = type_closed op os (kindless o) (never_open o)

-- both operands of and_more are values where the whole is
pub more_are : (x : Settling) (xs : Settlings) (ws : Values) → and_more x xs ≡ AllAre ws →
    (v : Value) × (vs : Values) × (x ≡ Is v) × (xs ≡ AllAre vs) × (ws ≡ a_value v vs)
more_are x SomeErrs ws h = cc
more_are Errs SomeOpen ws h = cc
more_are Errs (AllAre vs) ws h = cc
more_are Open SomeOpen ws h = cc
more_are Open (AllAre vs) ws h = cc
more_are (Is v) SomeOpen ws h = cc
more_are (Is v) (AllAre vs) ws h = (v, vs, refl, refl, cc)

pub errs_more : (xs : Settlings) → and_more Errs xs ≡ SomeErrs
errs_more SomeErrs = refl
errs_more SomeOpen = refl
errs_more (AllAre vs) = refl

-- an entry is the first of the keys, or among the others
found_step : (facts : Facts) (around : LeafSettlings) (b : Bool) (s t : Tree) (o : Option Tree) (v : Value) (p : Option Value) →
    settled_in facts around s ≡ Is v →
    (o ≡ Some t → (w : Value) × (p ≡ Some w) × (settled_in facts around t ≡ Is w)) →
    cond b (Some s) o ≡ Some t → (w : Value) × (cond b (Some v) p ≡ Some w) × (settled_in facts around t ≡ Is w)
found_step facts around true s t o v p h f e = let q : s ≡ t = cc in (v, refl, rw q at h)
found_step facts around false s t o v p h f e = f e

not_found_step : (b : Bool) (s : Tree) (o : Option Tree) (v : Value) (p : Option Value) → (o ≡ None → p ≡ None) →
    cond b (Some s) o ≡ None → cond b (Some v) p ≡ None
not_found_step true s o v p f e = cc
not_found_step false s o v p f e = f e

pub kindless_answer : (facts : Facts) (around : LeafSettlings) (o : Outcome) → kindless o ≡ read facts around (answer_of o)
kindless_answer facts around (Gives v) = refl
kindless_answer facts around (Fails k) = refl

-- operands that are looked at as the entries of a record
pub found_is_at : (facts : Facts) (around : LeafSettlings) (ks : List Text) (ts : Trees) (vs : Values) (a : Text) (t : Tree) → all_settled_in facts around ts ≡ AllAre vs →
    found_tree ks ts a ≡ Some t → (v : Value) × (found ks vs a ≡ Some v) × (settled_in facts around t ≡ Is v)
found_is_at facts around [] ts vs a t h e = cc
found_is_at facts around (k ∷ ks) no_trees vs a t h e = cc
found_is_at facts around (k ∷ ks) (a_tree s ts) vs a t h e =
    let (v, ws, hs, hts, is) = more_are (settled_in facts around s) (all_settled_in facts around ts) vs h in
    rw is (found_step facts around (same_text k a) s t (found_tree ks ts a) v (found ks ws a) hs (found_is_at facts around ks ts ws a t hts) e)

pub not_found_is_at : (facts : Facts) (around : LeafSettlings) (ks : List Text) (ts : Trees) (vs : Values) (a : Text) → all_settled_in facts around ts ≡ AllAre vs →
    found_tree ks ts a ≡ None → found ks vs a ≡ None
not_found_is_at facts around [] ts vs a h e = refl
not_found_is_at facts around (k ∷ ks) no_trees no_values a h e = refl
not_found_is_at facts around (k ∷ ks) no_trees (a_value v vs) a h e = cc
not_found_is_at facts around (k ∷ ks) (a_tree s ts) vs a h e =
    let (v, ws, hs, hts, is) = more_are (settled_in facts around s) (all_settled_in facts around ts) vs h in
    rw is (not_found_step (same_text k a) s (found_tree ks ts a) v (found ks ws a) (not_found_is_at facts around ks ts ws a hts) e)

-- entities of different types are different
same_or : (b : Bool) (P : Type 0) → (b ≡ true → P) → (P → ⊥) → b ≡ false
same_or true P f g = absurd (g (f refl))
same_or false P f g = refl

abbrev uid_at : Value → Uid
uid_at (Plain (Entity u)) = u
uid_at _ = record { type_name = []; id = [] }

other_name : (x y : Name) → not (same_name x y) ≡ true → x ≢ y
other_name x y h e =
    let is : same_name x y ≡ true = (pointwise_decides bytes_decides x y).1 e in
    let no' : not (same_name x y) ≡ false = rw is refl in
    true≢false (sym h ∙ no')

pub other_type : (a b : Uid) (u w : Name) → a.type_name ≡ u → b.type_name ≡ w → not (same_name u w) ≡ true → same (Plain (Entity a)) (Plain (Entity b)) ≡ false
other_type a b u w e f h =
    same_or (same (Plain (Entity a)) (Plain (Entity b))) (a ≡ b)
    (λ i. ap uid_at (same_is (Plain (Entity a)) (Plain (Entity b)) i))
    (λ i. other_name u w h (sym e ∙ ap (λ x. x.type_name) i ∙ f))
