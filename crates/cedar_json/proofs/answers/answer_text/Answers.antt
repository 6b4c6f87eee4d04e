use Rattle.std.proofs.Common.{◌≤◌, Some, ap, sym, ◌∙◌, subst}
use Rattle.json.specs.Json.{document, max_depth}
use Rattle.json.specs.Tree.{depth, HasNumbers}
use Rattle.cedar_replies.specs.Replies.{answer_of}
use Rattle.cedar_json.proofs.AnswerTexts.{answer_numbers, answer_depth}
use Rattle.cedar_json.proofs.answers.answer_text.Goals as goal

pub to_vec-requires : goal.to_vec-requires
to_vec-requires c = subst HasNumbers (sym c.in_ok-value.ensures) (answer_numbers (answer_of c.args.answer.now))

pub returns : goal.returns
returns c =
    let low = subst (λ j. depth j ≤ max_depth) (sym c.in_ok-value.ensures) (answer_depth (answer_of c.args.answer.now)) in
    ap (λ v. document v.items) c.in-Ok.ensures.ok ∙ c.in_ok-bytes.ensures.reads_back low ∙ ap Some c.in_ok-value.ensures
