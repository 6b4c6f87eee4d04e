use Rattle.std.proofs.Common.{codes, ap, ◌∙◌}
use Rattle.std.specs.FinMap as finite
use Rattle.std.proofs.lemmas.Result.{IfOk-weaker}
use Rattle.json.specs.Json.{array}
use Rattle.json.specs.Value.{value_view}
use Rattle.cedar_json.specs.Answers.{pair, strings, errors}
use Rattle.cedar_json.proofs.AnswerTexts.{told_errors}
use Rattle.cedar_json.proofs.answers.diagnostics_value.Goals as goal

pub returns : goal.returns
returns c =
    let told = c.as_slice-2 in
    let reason = c.in_ok-reason.ensures ∙ ap (λ ids. array (strings ids)) c.as_slice.ensures in
    let erring = c.in_ok-errors.ensures ∙ ap array (told_errors told.result.now told.ensures.kinds ∙ ap errors told.ensures.entries) in
    IfOk-weaker c.pair_value.result _ _
    (λ value e. e ∙ ap (λ j. pair (codes "reason") j (codes "errors") (value_view c.in_ok-errors.errors)) reason
    ∙ ap (pair (codes "reason") (array (strings (finite.keys c.args.answer.now.must))) (codes "errors")) erring) c.pair_value.ensures
