-- What is answered of a policy's condition, by the condition that was made and the entities of its slots.
use Rattle.std.proofs.Common.{◌≡◌, ℕ, ◌<◌, true, subst}
use Rattle.std.specs.Prelude.{⊤, Bool, Result}
use Rattle.either.specs.declared.Either.{Either}
use Rattle.cedar_language.specs.Facts.{Facts}
use Rattle.cedar_language.specs.Height.{height}
use Rattle.cedar_language.specs.Meaning.{meaning}
use Rattle.cedar_language.specs.Tree.{Tree}
use Rattle.cedar_language.specs.Value.{Value, Outcome}
use Rattle.cedar_partial_evaluation.specs.Partial.{Answer, partial_in}
use Rattle.cedar_partial_evaluation.specs.ReadUnknowns.{read_unknowns, UnknownsAreRead}
use Rattle.cedar_policy_parts.specs.Bindings.{Bindings}
use Rattle.cedar_trees.specs.declared.expr.Expr.{Expr}
use Rattle.cedar_restricted.specs.declared.partial_values.PartialValue.{PartialValue}
use Rattle.cedar_extensions.specs.Giving.{Gives}
use Rattle.cedar_extensions.specs.Answering.{FunctionAnswers}
use Rattle.cedar_extensions.specs.Holding.{are_named}
use Rattle.cedar_extensions.specs.Tables.{functions_in}
use Rattle.cedar_extensions.specs.declared.evaluation_error.EvaluationError.{EvaluationError}
use Rattle.cedar_interpreter.specs.Asking.{MeansTree}
use Rattle.cedar_interpreter.specs.Holding.{held_by, Knows, Serves, ServesRead, is_naming, Deep, NestsBeyond, IsDeepRead, depth_of}
use Rattle.cedar_interpreter.specs.Naming.{naming_in}
use Rattle.cedar_interpreter.specs.Meeting.{MeetsAt, ValueAt, IsLimit}
use Rattle.cedar_interpreter.specs.declared.evaluator.Evaluator.{Evaluator}
use Rattle.cedar_interpreter.proofs.Read.{read_answer}
use Rattle.cedar_evaluator.specs.Evaluating.{JudgesAt, JudgesReadAt, MeansStanding, StandsAt, StandsBy}
use Rattle.cedar_evaluator.proofs.ReadConditions.{judges_read}

-- the condition t that was made is the policy's, u, and so are the entities of its slots
module _ {F : Type 0} (answers : F → FunctionAnswers) (ev : Evaluator F) (t u : Tree) (is : t ≡ u) (bs cs : Bindings) (same : bs ≡ cs) where
  of_policy : (P : Tree → Bindings → Type 0) → P t bs → P u cs
  of_policy P h = subst (λ (b : Bindings). P u b) same (subst (λ (x : Tree). P x bs) is h)

  pub judged_so : (answer : Result PartialValue EvaluationError) (result : Result (Either Bool (Expr (Unit {0}))) EvaluationError)
      → ((facts : Facts) → Serves answers ev facts t → MeetsAt ⊤ (partial_in facts (held_by ev bs) t) answer)
      → ((b : Answer) → MeetsAt ⊤ b answer → JudgesAt b result)
      → (facts : Facts) → Serves answers ev facts u → JudgesAt (partial_in facts (held_by ev cs) u) result
  judged_so answer result found judged =
      of_policy (λ x b. (facts : Facts) → Serves answers ev facts x → JudgesAt (partial_in facts (held_by ev b) x) result)
      (λ facts serves. judged (partial_in facts (held_by ev bs) t) (found facts serves))

  pub limited_so : {X Y : Type 0} (answer : Result X EvaluationError) (result : Result Y EvaluationError) → (IsLimit answer → Deep answers ev bs (depth_of ev) t) → (IsLimit result → IsLimit answer) → IsLimit result → Deep answers ev cs (depth_of ev) u
  limited_so answer result deep met limit = of_policy (λ x b. Deep answers ev b (depth_of ev) x) (deep (met limit))

  pub limited_named_so : {X Y : Type 0} (answer : Result X EvaluationError) (result : Result Y EvaluationError) → (IsLimit answer → NestsBeyond answers ev bs (depth_of ev) t) → (IsLimit result → IsLimit answer) → IsLimit result → NestsBeyond answers ev cs (depth_of ev) u
  limited_named_so answer result deep met limit = of_policy (λ x b. NestsBeyond answers ev b (depth_of ev) x) (deep (met limit))

  pub meant_so : (answer : Result Value EvaluationError) (result : Result Bool EvaluationError)
      → ((facts : Facts) → Serves answers ev facts t → MeansTree facts (held_by ev bs) (depth_of ev) t answer)
      → ((depth high : ℕ) (meant : Outcome) → Gives (λ v. v) (depth < high) answer meant → StandsBy (depth < high) meant result)
      → (facts : Facts) → Serves answers ev facts u → MeansStanding facts (held_by ev cs) (depth_of ev) u result
  meant_so answer result means stands =
      of_policy (λ x b. (facts : Facts) → Serves answers ev facts x → MeansStanding facts (held_by ev b) (depth_of ev) x result)
      (λ facts serves known request holds. stands (depth_of ev) (height t) (meaning facts request t) (means facts serves known request holds))

  pub found_so : (answer : Result Value EvaluationError) (result : Result Bool EvaluationError)
      → ((facts : Facts) → Serves answers ev facts t → ValueAt ⊤ (partial_in facts (held_by ev bs) t) answer)
      → ((b : Answer) → ValueAt ⊤ b answer → StandsAt b result)
      → (facts : Facts) → Serves answers ev facts u → StandsAt (partial_in facts (held_by ev cs) u) result
  found_so answer result found stands =
      of_policy (λ x b. (facts : Facts) → Serves answers ev facts x → StandsAt (partial_in facts (held_by ev b) x) result)
      (λ facts serves. stands (partial_in facts (held_by ev bs) t) (found facts serves))

  -- ---- with unknowns in the places of calls

  pub judged_read_so : (unread : UnknownsAreRead) (named : are_named (functions_in ev.extensions.now) ≡ true) (answer : Result PartialValue EvaluationError) (result : Result (Either Bool (Expr (Unit {0}))) EvaluationError)
      → ((facts : Facts) → Knows answers ev facts → MeetsAt ⊤ (naming_in (is_naming answers ev) facts (held_by ev bs) t) answer)
      → ((b : Answer) → MeetsAt ⊤ b answer → JudgesAt b result)
      → (facts : Facts) → ServesRead answers ev facts u → JudgesReadAt (partial_in facts (held_by ev cs) (read_unknowns u)) result
  judged_read_so unread named answer result found judged =
      of_policy (λ x b. (facts : Facts) → ServesRead answers ev facts x → JudgesReadAt (partial_in facts (held_by ev b) (read_unknowns x)) result)
      (λ facts serves. judges_read (naming_in (is_naming answers ev) facts (held_by ev bs) t) _ result (read_answer answers unread ev bs 0 t named facts serves) (judged _ (found facts serves.knows)))

  pub found_read_so : (answer : Result Value EvaluationError) (result : Result Bool EvaluationError)
      → ((facts : Facts) → ServesRead answers ev facts t → ValueAt ⊤ (partial_in facts (held_by ev bs) (read_unknowns t)) answer)
      → ((b : Answer) → ValueAt ⊤ b answer → StandsAt b result)
      → (facts : Facts) → ServesRead answers ev facts u → StandsAt (partial_in facts (held_by ev cs) (read_unknowns u)) result
  found_read_so answer result found stands =
      of_policy (λ x b. (facts : Facts) → ServesRead answers ev facts x → StandsAt (partial_in facts (held_by ev b) (read_unknowns x)) result)
      (λ facts serves. stands (partial_in facts (held_by ev bs) (read_unknowns t)) (found facts serves))

  pub limited_read_so : {X Y : Type 0} (answer : Result X EvaluationError) (result : Result Y EvaluationError) → (IsLimit answer → IsDeepRead answers ev bs (depth_of ev) t) → (IsLimit result → IsLimit answer) → IsLimit result → IsDeepRead answers ev cs (depth_of ev) u
  limited_read_so answer result deep met limit = of_policy (λ x b. IsDeepRead answers ev b (depth_of ev) x) (deep (met limit))
