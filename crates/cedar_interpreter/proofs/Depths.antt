-- How deep an evaluation nests: of what is known no deeper than the tree is high, nor of what is projected.
use Rattle.std.proofs.Common.{◌≡◌, ◌≤◌, ◌<◌, ℕ, suc, refl, sym, subst, arith, Bool, true, false}
use Rattle.std.specs.Prelude.{◌&&◌, Option, Some, None}
use Rattle.either.specs.declared.Either.{Either}
use Rattle.cedar_language.specs.Uid.{Text, Uid}
use Rattle.cedar_language.specs.Tree.{Variable, GetAttr, MakeSet, MakeRecord, Operator, Tree, Lit, Var, Slot, Unknown, If, And, Or, Apply, Trees, no_trees, a_tree}
use Rattle.cedar_language.specs.Value.{Value}
use Rattle.cedar_language.specs.Facts.{Facts}
use Rattle.cedar_language.specs.Height.{height, heights}
use Rattle.cedar_language.specs.Meaning.{slot_outcome}
use Rattle.cedar_language.specs.Restricted.{is_projectable, are_projectable}
use Rattle.cedar_partial_evaluation.specs.Leaves.{is_left, AreKnown, KnownIsNeverLeft}
use Rattle.cedar_partial_evaluation.specs.Mentions.{mentions_only, all_mention_only}
use Rattle.cedar_partial_evaluation.specs.Partial.{Answer, Evaluated, ResidualTree, Failed, answer_of, LeafAnswers, partial_in}
use Rattle.cedar_policy_parts.specs.Bindings.{Bindings}
use Rattle.cedar_extensions.specs.Answering.{FunctionAnswers}
use Rattle.cedar_interpreter.specs.Depths.{left_height, read_again, evaluation_depth, evaluation_depths}
use Rattle.cedar_interpreter.specs.Holding.{held_by, Knows, is_naming, is_evaluated, NestsBeyond}
use Rattle.cedar_interpreter.specs.Meeting.{part_answer}
use Rattle.cedar_interpreter.specs.Naming.{naming_in, naming_depth, naming_depths}
use Rattle.cedar_interpreter.proofs.Branches.{branch_low, behind_low}
use Rattle.cedar_interpreter.specs.declared.evaluator.Evaluator.{Evaluator}
use Rattle.cedar_lemmas.proofs.Booleans.{and_first as and_left, and_second as and_right}

-- ---- what is known

pub held_known : (b : Answer) → is_evaluated b ≡ true → is_left b ≡ false
held_known (Evaluated v) h = refl
held_known (ResidualTree r) h = cc
held_known (Failed k) h = cc

pub slot_known : (o : Option Uid) → is_left (answer_of (slot_outcome o)) ≡ false
slot_known (Some u) = refl
slot_known None = refl

nothing_left : (b : Answer) → is_left b ≡ false → left_height b ≡ 0
nothing_left (Evaluated v) h = refl
nothing_left (ResidualTree r) h = cc
nothing_left (Failed k) h = refl

module _ (law : KnownIsNeverLeft) (facts : Facts) (mentioned : Variable → Bool) (slots : Bool) (holds : LeafAnswers) (known : AreKnown mentioned slots holds) where
  nothing_again : (op : Operator) (ts : Trees) → all_mention_only mentioned slots ts ≡ true → read_again facts holds op ts ≡ 0
  nothing_again (GetAttr a) (a_tree t no_trees) m = nothing_left (partial_in facts holds t) (law facts mentioned slots holds known t (and_left _ _ m))
  nothing_again _ _ m = refl

  mutual
    -- the evaluation of a tree that mentions only what is known nests no deeper than the tree is high
    pub known_depth : (t : Tree) → mentions_only mentioned slots t ≡ true → evaluation_depth facts holds t ≤ height t
    known_depth (Lit l) m = omega arith
    known_depth (Var v) m = omega arith
    known_depth (Slot s) m = omega arith
    known_depth (Unknown n ty) m = omega arith
    known_depth (If t y n) m =
        omega (arith, known_depth t (and_left _ _ m), known_depth y (and_left _ _ (and_right _ _ m)), known_depth n (and_right _ _ (and_right _ _ m)), branch_low (partial_in facts holds t) (evaluation_depth facts holds y) (evaluation_depth facts holds n))
    known_depth (And l r) m = omega (arith, known_depth l (and_left _ _ m), known_depth r (and_right _ _ m), branch_low (partial_in facts holds l) (evaluation_depth facts holds r) 0)
    known_depth (Or l r) m = omega (arith, known_depth l (and_left _ _ m), known_depth r (and_right _ _ m), branch_low (partial_in facts holds l) 0 (evaluation_depth facts holds r))
    known_depth (Apply op ts) m = omega (arith, known_depths ts m, nothing_again op ts m)

    known_depths : (ts : Trees) → all_mention_only mentioned slots ts ≡ true → evaluation_depths facts holds ts ≤ heights ts
    known_depths no_trees m = omega arith
    known_depths (a_tree t ts) m = omega (arith, known_depth t (and_left _ _ m), known_depths ts (and_right _ _ m), behind_low (partial_in facts holds t) (evaluation_depths facts holds ts))

-- ---- what is projected

module _ (naming : Bool) (facts : Facts) (holds : LeafAnswers) where
  mutual
    pub projectable_depth : (t : Tree) → is_projectable t ≡ true → naming_depth naming facts holds t ≤ height t
    projectable_depth (Lit l) p = omega arith
    projectable_depth (Unknown n ty) p = omega arith
    projectable_depth (Var v) p = omega arith
    projectable_depth (Apply MakeSet ts) p = omega (arith, projectable_depths ts p)
    projectable_depth (Apply (MakeRecord ks) ts) p = omega (arith, projectable_depths ts p)
    projectable_depth t p = cc

    projectable_depths : (ts : Trees) → are_projectable ts ≡ true → naming_depths naming facts holds ts ≤ heights ts
    projectable_depths no_trees p = omega arith
    projectable_depths (a_tree t ts) p = omega (arith, projectable_depth t (and_left _ _ p), projectable_depths ts (and_right _ _ p), behind_low (naming_in naming facts holds t) (naming_depths naming facts holds ts))

-- an entry that is evaluated again, of what is left of what an attribute is read of
pub entry_deep : {F : Type 0} (answers : F → FunctionAnswers) (ev : Evaluator F) (slots : Bindings) (depth : ℕ) (a : Text) (of e : Tree) (part : Either Value Tree) (facts : Facts)
    → Knows answers ev facts → naming_in (is_naming answers ev) facts (held_by ev slots) of ≡ part_answer part → height e < left_height (part_answer part) → is_projectable e ≡ true
    → NestsBeyond answers ev slots depth e → suc depth < naming_depth (is_naming answers ev) facts (held_by ev slots) (Apply (GetAttr a) (a_tree of no_trees))
entry_deep answers ev slots depth a of e part facts has found low plain deep =
    let l : height e < left_height (naming_in (is_naming answers ev) facts (held_by ev slots) of) = subst (λ (b : Answer). height e < left_height b) (sym found) low in
    omega (arith, deep facts has, l, projectable_depth (is_naming answers ev) facts (held_by ev slots) e plain)
