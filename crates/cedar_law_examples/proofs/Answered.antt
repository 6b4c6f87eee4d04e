-- Requests without a context ask a question, and over no policies no limit is met: so the laws speak of what is answered.
use Rattle.std.proofs.Common.{◌≡◌, ◌∙◌, ◌&&◌, ℕ, Bool, List, [], ◌∷◌, Result, Ok, Err, IsErrAnd, None, true, false, refl, ap, sym, subst}
use Rattle.std.specs.Prelude.{⊤}
use Rattle.std.proofs.Math.Bool.{and-false}
use Rattle.cedar_language.specs.Value.{Kind}
use Rattle.cedar_language.specs.Facts.{Facts}
use Rattle.cedar_language.specs.Tree.{Tree}
use Rattle.cedar_partial_evaluation.specs.MadeAgain.{HoldsMade}
use Rattle.cedar_partial_evaluation.specs.Partial.{partial_in}
use Rattle.cedar_partial_evaluation.specs.Question.{NoContext}
use Rattle.cedar_partial_evaluation.specs.ReadUnknowns.{calls_unknown}
use Rattle.cedar_entities.specs.declared.store.Entities.{Entities}
use Rattle.cedar_extensions.specs.Failures.{failure_of}
use Rattle.cedar_extensions.specs.Giving.{FailsBy, GivesBy}
use Rattle.cedar_extensions.specs.Table.{Table}
use Rattle.cedar_extensions.specs.declared.evaluation_error.EvaluationError.{EvaluationError}
use Rattle.cedar_extensions.specs.declared.evaluation_error.EvaluationError.TheVariants.{Memory}
use Rattle.cedar_restricted.specs.declared.partial_values.PartialValue.{PartialValue}
use Rattle.cedar_policy_parts.specs.Bindings.{unbound}
use Rattle.cedar_requests.specs.Holding.{RequestParts}
use Rattle.cedar_interpreter.specs.Meeting.{MeetsAt}
use Rattle.cedar_interpreter.specs.Operating.{NamesNothing}
use Rattle.cedar_evaluator.specs.Asking.{Inquiry, untold, request_held}
use Rattle.cedar_evaluator.specs.Authorizing.{Responds}
use Rattle.cedar_evaluator.specs.Evaluations.{Kept, AreKept}
use Rattle.cedar_evaluator.specs.Expressions.{ResultAnswers, ExpressionsAnswerRequests}
use Rattle.cedar_evaluator.specs.Holding.{holding_in}
use Rattle.cedar_evaluator.specs.Known.{meets_limit}
use Rattle.cedar_evaluator.specs.Questions.{AsksContext, neither_given, Asks, ResponsesAnswerRequests}
use Rattle.cedar_evaluator.specs.Responses.{Holding, holding_of}
use Rattle.cedar_evaluator.specs.declared.partial_response.PartialResponse.{PartialResponse}
use Rattle.cedar_law_examples.specs.Answered.{question_of, AnswersNothing}

asks_nothing_of : (facts : Facts) (r : RequestParts) → r.context ≡ None → Asks facts (question_of r) r
asks_nothing_of facts r none = record { principal = refl; action = refl; resource = refl; context = subst (λ o. AsksContext facts NoContext o) (sym none) neither_given }

no_limit : (i : Inquiry) (store : Entities) (table : Table) (depth : ℕ) (ks : List Kept) → AreKept i store table depth [] ks → meets_limit (holding_of ks).errors ≡ false
no_limit i store table depth [] each = refl
no_limit i store table depth (k ∷ ks) each = absurd each

pub answers_nothing : ResponsesAnswerRequests → (facts : Facts) → HoldsMade facts → (r : RequestParts) → r.context ≡ None → (store : Entities) (table : Table) (depth : ℕ) (response : PartialResponse) →
    Responds (untold r) store table depth [] response → AnswersNothing r (holding_in response)
answers_nothing law facts good r none store table depth response responds =
    let within = ap (λ (h : Holding). meets_limit h.errors) responds.holds ∙ no_limit (untold r) store table depth responds.kept responds.each in
    (facts, law facts good (question_of r) r (asks_nothing_of facts r none) store table depth [] tt true response responds within)

pub answers_expression : ExpressionsAnswerRequests → (facts : Facts) → HoldsMade facts → (r : RequestParts) → r.context ≡ None → (t : Tree) (result : Result PartialValue EvaluationError) →
    MeetsAt ⊤ (partial_in facts (request_held (untold r) unbound) t) result → ResultAnswers facts (question_of r) unbound t (λ b. b) result
answers_expression law facts good r none t result meets =
    (law facts good (question_of r) r (asks_nothing_of facts r none) unbound (request_held (untold r) unbound) refl t result).found meets

-- without a call of `unknown` no table names one
pub names_nothing : (table : Table) (t : Tree) → calls_unknown t ≡ false → NamesNothing table t
names_nothing table t none = ap (λ b. table.has_unknown && b) none ∙ and-false table.has_unknown

-- want of memory says nothing
pub out_of_memory : {X : Type 0} (Is : X → Type 0) (Errs : Kind → Type 0) (deep : Type 0) (result : Result X EvaluationError) → IsErrAnd result (λ e. e ≡ Memory) → GivesBy Is Errs deep result
out_of_memory Is Errs deep (Ok x) h = absurd h
out_of_memory Is Errs deep (Err e) h = subst (λ e. FailsBy deep Errs (failure_of e)) (sym h) tt
