-- The line of an answer is a text.
use Rattle.std.proofs.Common.{◌≡◌, ◌∙◌, string_bytes}
use Rattle.std.proofs.lemmas.Result.{IfOk-weaker}
use Rattle.cedar_replies.specs.Replies.{answer_of}
use Rattle.cedar_world.specs.Lines.{answer_line, line_of}
use Rattle.cedar_authoring.proofs.explaining.answer_line.Goals as goal

pub returns-in-Ok : goal.returns-in-Ok
unfolding line_of
returns-in-Ok c =
    let is : c.in-Ok.line.now ≡ answer_line (answer_of c.args.answer) = c.in-Ok.ensures.cases.0 ∙ (c.as_slice.ensures.value ∙ c.in_ok-line.ensures) in
    IfOk-weaker c.from_str.result (λ line. string_bytes line ≡ c.in-Ok.line.now) (λ line. string_bytes line ≡ answer_line (answer_of c.args.answer)) (λ line same. same ∙ is) c.from_str.ensures.ok
