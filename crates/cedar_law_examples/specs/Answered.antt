-- What a response over no policies says, and what an expression comes to.
use Rattle.std.specs.Prelude.{[], Result}
use Rattle.cedar_language.specs.Facts.{Facts}
use Rattle.cedar_language.specs.Tree.{Tree}
use Rattle.cedar_partial_evaluation.specs.Question.{Question, NoContext}
use Rattle.cedar_extensions.specs.declared.evaluation_error.EvaluationError.{EvaluationError}
use Rattle.cedar_restricted.specs.declared.partial_values.PartialValue.{PartialValue}
use Rattle.cedar_policy_parts.specs.Bindings.{unbound}
use Rattle.cedar_requests.specs.Holding.{RequestParts}
use Rattle.cedar_evaluator.specs.Expressions.{ResultAnswers}
use Rattle.cedar_evaluator.specs.Questions.{AnswersQuestion}
use Rattle.cedar_evaluator.specs.Responses.{Holding}

-- the question of a request without a context
abbrev pub question_of : RequestParts → Question
question_of r = record { principal = r.principal; action = r.action; resource = r.resource; context = NoContext }

-- by the facts of some store, what is said of this question is fair and as sharp as what is settled, no policy being in force
abbrev pub AnswersNothing : RequestParts → Holding → Type 0
AnswersNothing r h = (facts : Facts) × AnswersQuestion facts (question_of r) [] h

-- and so is what an expression without slots comes to
abbrev pub AnswersExpression : RequestParts → Tree → Result PartialValue EvaluationError → Type 0
AnswersExpression r t result = (facts : Facts) × ResultAnswers facts (question_of r) unbound t (λ b. b) result
