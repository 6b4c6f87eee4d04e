use Rattle.std.specs.Prelude.{string_bytes}
use Rattle.std.proofs.lemmas.Result.{err_from_is_err_and}
use Rattle.json.specs.Value.{value_view}
use Rattle.cedar_json.proofs.Saying.{ok_of_text, err_of_text}
use Rattle.cedar_json_commands.specs.Verbs.{SaysAs, SaysNothingAs}
use Rattle.cedar_json_commands.proofs.Bodies.{nothing_unparsed}
use Rattle.cedar_json_commands.proofs.verbs.body_text.Goals as goal

pub returns-in_err-value-clause-unsaid : goal.returns-in_err-value-clause-unsaid
returns-in_err-value-clause-unsaid c =
    let p = err_from_is_err_and c.from_residual.result c.from_residual.ensures.1 in
    rw (p.1, p.2) (nothing_unparsed c.args.verb c.args.json.now c.in_err-value.field-0.0 c.in_err-value.ensures.unread)

pub returns-clause-said : goal.returns-clause-said
returns-clause-said c =
    ok_of_text (λ text json. SaysAs c.args.verb json (string_bytes text)) c.value_body.result c.args.json.now (value_view c.in_ok-value.value)
    c.in_ok-value.ensures.read.0 c.value_body.ensures.said

pub returns-clause-unsaid : goal.returns-clause-unsaid
returns-clause-unsaid c =
    err_of_text (λ why json. SaysNothingAs c.args.verb json why) c.value_body.result c.args.json.now (value_view c.in_ok-value.value)
    c.in_ok-value.ensures.read.0 c.value_body.ensures.unsaid
