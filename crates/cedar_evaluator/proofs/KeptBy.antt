-- What is kept of a policy that an evaluator answered for, by what it answers over facts by which more may be known.
use Rattle.std.proofs.Common.{◌<◌, ◌≤◌, ℕ, Bool, subst}
use Rattle.std.specs.Prelude.{Result}
use Rattle.either.specs.declared.Either.{Either}
use Rattle.cedar_language.specs.Facts.{Facts}
use Rattle.cedar_partial_evaluation.specs.Partial.{LeafAnswers, partial_in}
use Rattle.cedar_partial_evaluation.specs.ReadUnknowns.{read_unknowns}
use Rattle.cedar_entities.specs.declared.store.Entities.{Entities}
use Rattle.cedar_extensions.specs.Answering.{FunctionAnswers}
use Rattle.cedar_extensions.specs.Table.{Table}
use Rattle.cedar_extensions.specs.declared.evaluation_error.EvaluationError.{EvaluationError}
use Rattle.cedar_operators.specs.Store.{HasFacts}
use Rattle.cedar_interpreter.specs.Depths.{evaluation_depth}
use Rattle.cedar_interpreter.specs.Holding.{held_by, Knows, Serves, ServesRead, is_naming, depth_of}
use Rattle.cedar_interpreter.specs.Meeting.{IsLimit}
use Rattle.cedar_interpreter.specs.Naming.{naming_depth}
use Rattle.cedar_interpreter.specs.declared.evaluator.Evaluator.{Evaluator}
use Rattle.cedar_policies.specs.Policies.{bindings_of}
use Rattle.cedar_policies.specs.declared.policies.Policy.{Policy}
use Rattle.cedar_policy_set.specs.Bounds.{policy_seen}
use Rattle.cedar_trees.specs.declared.expr.Expr.{Expr}
use Rattle.cedar_evaluator.specs.Asking.{Inquiry, IsEvaluatorOf}
use Rattle.cedar_evaluator.specs.Evaluating.{condition_of, JudgesAt, JudgesReadAt}
use Rattle.cedar_evaluator.specs.Evaluations.{IsKept, IsServed, IsServedRead}
use Rattle.cedar_evaluator.specs.Grouping.{kept_of, IsKeepable}
use Rattle.cedar_evaluator.proofs.Asked.{asked_plain}
use Rattle.cedar_evaluator.proofs.Deepening.{knows, deep_as, nests_as, deep_read_as}
use Rattle.cedar_evaluator.proofs.Kept.{is_kept}

module _
    {F : Type 0} (answers : F → FunctionAnswers) (ev : Evaluator F) (p : Policy)
    (answer : Result (Either Bool (Expr (Unit {0}))) EvaluationError) (IsKnown : Facts → Type 0)
    (found : (facts : Facts) → Serves answers ev facts (condition_of p) → IsKnown facts →
    JudgesAt (partial_in facts (held_by ev (bindings_of p)) (condition_of p)) answer)
    (limit : IsLimit answer → (facts : Facts) → Serves answers ev facts (condition_of p) → IsKnown facts →
    depth_of ev < evaluation_depth facts (held_by ev (bindings_of p)) (condition_of p))
    (named_limit : IsLimit answer → (facts : Facts) → Knows answers ev facts → IsKnown facts →
    depth_of ev < naming_depth (is_naming answers ev) facts (held_by ev (bindings_of p)) (condition_of p))
    (read : (facts : Facts) → ServesRead answers ev facts (condition_of p) → IsKnown facts →
    JudgesReadAt (partial_in facts (held_by ev (bindings_of p)) (read_unknowns (condition_of p))) answer)
    (read_limit : IsLimit answer → (facts : Facts) → ServesRead answers ev facts (condition_of p) → IsKnown facts →
    depth_of ev ≤ evaluation_depth facts (held_by ev (bindings_of p)) (read_unknowns (condition_of p)))
    (keepable : IsKeepable answer)
    (i : Inquiry) (store : Entities) (table : Table) (depth : ℕ) (is : IsEvaluatorOf answers i store table depth ev)
    (known : (facts : Facts) → HasFacts store facts → IsKnown facts) where
  serves : (facts : Facts) → IsServed i store table depth facts (condition_of p) → Serves answers ev facts (condition_of p)
  serves facts served = is.serves facts (condition_of p) served.entities served.functions served.names_nothing

  serves_read : (facts : Facts) → IsServedRead i store table depth facts (condition_of p) → ServesRead answers ev facts (condition_of p)
  serves_read facts served =
      is.reads facts (condition_of p) served.entities served.functions served.naming served.written (asked_plain i.request served.context)

  pub is_kept_by : IsKept i store table depth (policy_seen p) (kept_of p answer)
  is_kept_by =
      let bs = bindings_of p in
      let t = condition_of p in
      is_kept i store table depth p answer
      (λ facts served. subst (λ (h : LeafAnswers). JudgesAt (partial_in facts h t) answer) (is.holds bs)
      (found facts (serves facts served) (known facts served.entities)))
      (λ met facts served. deep_as answers i store table depth ev is facts bs t (limit met facts (serves facts served) (known facts served.entities)))
      (λ met facts has functions. nests_as answers i store table depth ev is facts bs t
      (named_limit met facts (knows answers i store table depth ev is facts has functions) (known facts has)))
      (λ facts served. subst (λ (h : LeafAnswers). JudgesReadAt (partial_in facts h (read_unknowns t)) answer) (is.holds bs)
      (read facts (serves_read facts served) (known facts served.entities)))
      (λ met facts served. deep_read_as answers i store table depth ev is facts bs t
      (read_limit met facts (serves_read facts served) (known facts served.entities)))
      keepable
