-- An evaluator that answers for what stands for the variables of a request answers for the request.
use Rattle.std.proofs.Common.{◌≡◌, ℕ, None, refl, subst}
use Rattle.std.specs.Prelude.{codes}
use Rattle.cedar_language.specs.Tree.{Variable, Principal, Action, Resource, Context}
use Rattle.cedar_language.specs.Uid.{Text}
use Rattle.cedar_partial_evaluation.specs.Partial.{Answer}
use Rattle.cedar_partial_evaluation.specs.Question.{Part, Given, Missing, part_held}
use Rattle.cedar_entities.specs.declared.store.Entities.{Entities}
use Rattle.cedar_extensions.specs.Answering.{FunctionAnswers}
use Rattle.cedar_extensions.specs.Table.{Table}
use Rattle.cedar_requests.specs.Holding.{RequestParts}
use Rattle.cedar_interpreter.specs.Asking.{answer_asked, nothing_told, AnswersFor}
use Rattle.cedar_interpreter.specs.Naming.{IsPlain}
use Rattle.cedar_interpreter.specs.declared.asking.AskedVariables.{AskedVariables}
use Rattle.cedar_interpreter.specs.declared.evaluator.Evaluator.{Evaluator}
use Rattle.cedar_evaluator.specs.Asking.{untold, variable_asked, StandFor, IsEvaluatorOf}

module _ (r : RequestParts) (asked : AskedVariables) (stand : StandFor r asked) where
  of_variable : (v : Variable) → answer_asked asked v ≡ variable_asked r v
  of_variable Principal = stand.principal
  of_variable Action = stand.action
  of_variable Resource = stand.resource
  of_variable Context = stand.context

  pub answers_request : {F : Type 0} (answers : F → FunctionAnswers) (entities : Entities) (table : Table) (depth : ℕ) (ev : Evaluator F) →
      AnswersFor answers (answer_asked asked) nothing_told entities table depth ev → IsEvaluatorOf answers (untold r) entities table depth ev
  answers_request answers entities table depth ev is =
      let same : answer_asked asked ≡ variable_asked r = λ i v. of_variable v i in
      subst (λ (variables : Variable → Answer). AnswersFor answers variables nothing_told entities table depth ev) same is

part_plain : (p : Part) (n : Text) → IsPlain (part_held p None n)
part_plain (Given u) n = tt
part_plain (Missing ty) n = refl

-- what stands for a variable other than the context calls nothing
pub asked_plain : (r : RequestParts) → IsPlain (variable_asked r Context) → (v : Variable) → IsPlain (variable_asked r v)
asked_plain r h Principal = part_plain r.principal (codes "principal")
asked_plain r h Action = part_plain r.action (codes "action")
asked_plain r h Resource = part_plain r.resource (codes "resource")
asked_plain r h Context = h
