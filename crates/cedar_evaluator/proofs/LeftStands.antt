-- How what is left of a policy stands.
use Rattle.std.proofs.Common.{◌≡◌, refl, ap, true, false, List}
use Rattle.cedar_grammar.specs.Build.{Keyed}
use Rattle.cedar_grammar.specs.Policy.{condition}
use Rattle.cedar_language.specs.Answering.{Effect, Erring}
use Rattle.cedar_language.specs.Facts.{Facts}
use Rattle.cedar_language.specs.Tree.{Boolean, Long, String, Entity, Tree, Lit, Var, Slot, Unknown, If, And, Or, Apply}
use Rattle.cedar_language.specs.Uid.{Text}
use Rattle.cedar_language.specs.Value.{Plain, SetOf, RecordOf, ExtensionOf, Kind}
use Rattle.cedar_partial_evaluation.specs.Early.{standing_of_answer}
use Rattle.cedar_partial_evaluation.specs.Partial.{Answer, Evaluated, ResidualTree, Failed, LeafAnswers, last_answer, partial_in}
use Rattle.cedar_partial_evaluation.specs.Reauthorizing.{condition_again}
use Rattle.cedar_extensions.specs.Failures.{OfKind, LimitMet, MemoryRanOut}
use Rattle.cedar_evaluator.specs.Evaluations.{Found, Satisfied, Unsatisfied, Erred, Open, Finds}
use Rattle.cedar_evaluator.specs.Residuals.{clause_policy}
use Rattle.cedar_evaluator.proofs.Standings.{is_settled}
use Rattle.cedar_evaluator.proofs.Taken.{clause_of}

erring_again : (b : Answer) (k : Kind) → standing_of_answer b ≡ Erring k → condition_again b ≡ Lit (Boolean false)
erring_again (Evaluated (Plain (Boolean true))) k h = cc
erring_again (Evaluated (Plain (Boolean false))) k h = refl
erring_again (Evaluated (Plain (Long n))) k h = refl
erring_again (Evaluated (Plain (String s))) k h = refl
erring_again (Evaluated (Plain (Entity u))) k h = refl
erring_again (Evaluated (SetOf vs)) k h = refl
erring_again (Evaluated (RecordOf ks vs)) k h = refl
erring_again (Evaluated (ExtensionOf e)) k h = refl
erring_again (ResidualTree r) k h = cc
erring_again (Failed j) k h = refl

-- a condition is taken up as what was found of it says
pub again_is_clause : (b : Answer) (f : Found) → is_settled f ≡ true → Finds b f → condition_again b ≡ clause_of f
again_is_clause b Satisfied s h = ap condition_again h
again_is_clause b Unsatisfied s h = ap condition_again h
again_is_clause b (Erred (OfKind k)) s h = erring_again b k h
again_is_clause b (Erred LimitMet) s h = cc
again_is_clause b (Erred MemoryRanOut) s h = absurd h
again_is_clause b (Open r) s h = ap condition_again h

-- ---- policies of one clause

last_stands : (f : Tree → Tree) (a : Answer) → standing_of_answer (last_answer f a) ≡ standing_of_answer a
last_stands f (Evaluated (Plain (Boolean true))) = refl
last_stands f (Evaluated (Plain (Boolean false))) = refl
last_stands f (Evaluated (Plain (Long n))) = refl
last_stands f (Evaluated (Plain (String s))) = refl
last_stands f (Evaluated (Plain (Entity u))) = refl
last_stands f (Evaluated (SetOf vs)) = refl
last_stands f (Evaluated (RecordOf ks vs)) = refl
last_stands f (Evaluated (ExtensionOf e)) = refl
last_stands f (ResidualTree r) = refl
last_stands f (Failed k) = refl

module _ (effect : Effect) (annotations : List (Keyed Text)) where
  abbrev whole : Tree → Tree
  whole c = condition (clause_policy effect c annotations)

  -- such a policy stands as its clause
  pub clause_stands : (facts : Facts) (holds : LeafAnswers) (c : Tree) → standing_of_answer (partial_in facts holds (whole c)) ≡ standing_of_answer (partial_in facts holds c)
  clause_stands facts holds (Lit (Boolean b)) = refl
  clause_stands facts holds (Lit (Long n)) = refl
  clause_stands facts holds (Lit (String s)) = refl
  clause_stands facts holds (Lit (Entity u)) = refl
  clause_stands facts holds (Var v) = last_stands (And (Lit (Boolean true))) (partial_in facts holds (Var v))
  clause_stands facts holds (Slot s) = last_stands (And (Lit (Boolean true))) (partial_in facts holds (Slot s))
  clause_stands facts holds (Unknown n ty) = last_stands (And (Lit (Boolean true))) (partial_in facts holds (Unknown n ty))
  clause_stands facts holds (If t y n) = last_stands (And (Lit (Boolean true))) (partial_in facts holds (If t y n))
  clause_stands facts holds (And l r) = last_stands (And (Lit (Boolean true))) (partial_in facts holds (And l r))
  clause_stands facts holds (Or l r) = last_stands (And (Lit (Boolean true))) (partial_in facts holds (Or l r))
  clause_stands facts holds (Apply op ts) = last_stands (And (Lit (Boolean true))) (partial_in facts holds (Apply op ts))
