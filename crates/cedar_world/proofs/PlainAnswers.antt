-- What is left calls no function for an unknown, where the tree calls none.
use Rattle.std.proofs.Common.{◌≡◌, Bool, true, false, ◌&&◌, ◌||◌, not, refl, sym, ◌∙◌, ap}
use Rattle.std.proofs.lemmas.Bool.{not-true}
use Rattle.cedar_language.specs.Uid.{Name}
use Rattle.cedar_language.specs.Tree.{Operator, Call, Tree, If, And, Or, Apply, Trees, no_trees, a_tree}
use Rattle.cedar_language.specs.Value.{Outcome, Gives, Fails}
use Rattle.cedar_language.specs.Order.{same_name}
use Rattle.cedar_language.specs.Operators as operators
use Rattle.cedar_partial_evaluation.specs.Partial.{Answer, ResidualTree, answer_of}
use Rattle.cedar_partial_evaluation.specs.ReadUnknowns.{unknown_function, is_unknown_call, calls_unknown, some_calls_unknown}
use Rattle.cedar_grammar.specs.Calls.{calls_none_but}
use Rattle.cedar_world.specs.Lookups.{calls_among, all_call_among}
use Rattle.cedar_world.specs.PlainAnswers.{IsPlainAnswer, PlainAnswers}
use Rattle.cedar_world.proofs.CallsLeft.{AnyKind, IsKept, kept}

-- names of other functions
abbrev is_other : Name → Bool
is_other name = not (same_name name unknown_function)

both_not : (a b c d : Bool) → a ≡ not b → c ≡ not d → (a && c) ≡ not (b || d)
both_not a true c d h k = rw h refl
both_not a false c d h k = rw h k

operator_same : (o : Operator) → calls_none_but is_other o ≡ not (is_unknown_call o)
operator_same (Call f) = refl
operator_same _ = refl

mutual
  tree_same : (t : Tree) → calls_among true is_other t ≡ not (calls_unknown t)
  tree_same (If t y n) = both_not _ _ _ _ (tree_same t) (both_not _ _ _ _ (tree_same y) (tree_same n))
  tree_same (And l r) = both_not _ _ _ _ (tree_same l) (tree_same r)
  tree_same (Or l r) = both_not _ _ _ _ (tree_same l) (tree_same r)
  tree_same (Apply o ts) = both_not _ _ _ _ (operator_same o) (trees_same ts)
  tree_same _ = refl

  trees_same : (ts : Trees) → all_call_among true is_other ts ≡ not (some_calls_unknown ts)
  trees_same no_trees = refl
  trees_same (a_tree t ts) = both_not _ _ _ _ (tree_same t) (trees_same ts)

to_plain : (p : Answer) → IsKept true is_other AnyKind p → IsPlainAnswer p
to_plain (ResidualTree t) h = not-true (calls_unknown t) (sym (tree_same t) ∙ h)
to_plain _ h = tt

of_plain : (p : Answer) → IsPlainAnswer p → IsKept true is_other AnyKind p
of_plain (ResidualTree t) h = tree_same t ∙ ap not h
of_plain _ h = tt

outcome_kept : (o : Outcome) → IsKept true is_other AnyKind (answer_of o)
outcome_kept (Gives v) = tt
outcome_kept (Fails k) = tt

pub plain_answers : PlainAnswers
plain_answers = λ facts holds leaves t h.
    to_plain _
    (kept true is_other AnyKind facts (record { constructs = refl; type_error = tt; no_attribute = tt; applied = λ o vs c. outcome_kept (operators.applied facts o vs) }) holds
    (record { variable = λ v. of_plain _ (leaves.variable v); unknown = λ n ty. of_plain _ (leaves.unknown n ty); slot = λ h s. of_plain _ (leaves.slot s) }) t (tree_same t ∙ ap not h))
