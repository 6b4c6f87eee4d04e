use Rattle.std.specs.Prelude.{string_bytes}
use Rattle.std.proofs.lemmas.Result.{err_from_is_err_and}
use Rattle.json.specs.Value.{value_view}
use Rattle.cedar_json.specs.Questions.{question_of}
use Rattle.cedar_json.specs.Said.{SaysQuestion, IsUnsaid}
use Rattle.cedar_json.proofs.Saying.{ok_of_text, err_of_text, question_unparsed}
use Rattle.cedar_json.proofs.reading.read_question.Goals as goal

pub returns-clause-said : goal.returns-clause-said
returns-clause-said c =
    ok_of_text (λ text json. SaysQuestion json (string_bytes text)) c.question_text.result c.args.json.now (value_view c.in_ok-value.value) c.in_ok-value.ensures.read.0
    c.question_text.ensures.said

pub returns-clause-unsaid : goal.returns-clause-unsaid
returns-clause-unsaid c =
    err_of_text (λ why json. IsUnsaid (question_of json) why) c.question_text.result c.args.json.now (value_view c.in_ok-value.value) c.in_ok-value.ensures.read.0
    c.question_text.ensures.unsaid

pub returns-in_err-value-clause-unsaid : goal.returns-in_err-value-clause-unsaid
returns-in_err-value-clause-unsaid c =
    let p = err_from_is_err_and c.from_residual.result c.from_residual.ensures.1 in
    rw (p.1, p.2) (question_unparsed c.args.json.now c.in_err-value.field-0.0 c.in_err-value.ensures.unread)
