-- The store's facts serve the expression, in which no call names an unknown.
use Rattle.std.proofs.Common.{◌∙◌, ap, subst}
use Rattle.std.specs.Prelude.{⊤}
use Rattle.cedar_partial_evaluation.specs.Partial.{partial_in}
use Rattle.cedar_extensions.specs.Table.{as_table}
use Rattle.cedar_trees.specs.Bare.{bare}
use Rattle.cedar_requests.specs.Holding.{request_parts}
use Rattle.cedar_interpreter.specs.Meeting.{MeetsAt}
use Rattle.cedar_evaluator.specs.Asking.{untold, request_held}
use Rattle.cedar_law_examples.proofs.Answered.{answers_expression, names_nothing, out_of_memory}
use Rattle.cedar_law_examples.proofs.proving.evaluate.Goals as goal

pub returns-in_err-evaluator : goal.returns-in_err-evaluator
returns-in_err-evaluator g c = (c.no_entities-entities.ensures.0, out_of_memory _ _ ⊤ c.from_residual.result c.from_residual.ensures.1)

pub returns : goal.returns
returns g c =
    let made = c.no_entities-entities.ensures in
    let ev = c.in_ok-evaluator.ensures in
    let r = request_parts c.args.request.now in
    let t = bare c.args.expr.now in
    let table = as_table g.F.ExtensionFunctionObject.answers c.args.extensions.now in
    let found = c.partial_interpret.ensures.found made.0 (ev.serves made.0 t made.1 made.2 (names_nothing table t c.requires.calls)) in
    let meets = subst (λ holds. MeetsAt ⊤ (partial_in made.0 holds t) c.partial_interpret.result) (ev.holds c.new-slots.result ∙ ap (request_held (untold r)) c.new-slots.ensures) found in
    (made.0, answers_expression c.expressions_answer_requests.ensures made.0 made.3 r c.requires.context t c.partial_interpret.result meets)
