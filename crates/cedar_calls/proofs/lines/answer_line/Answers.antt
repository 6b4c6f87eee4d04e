-- The body of a command is said by the text that it is printed as.
use Rattle.std.proofs.Common.{subst}
use Rattle.json.specs.Value.{value_view}
use Rattle.cedar_session.specs.Owning.{owned_world, owned_setting}
use Rattle.cedar_calls.specs.Lines.{IsCommandIn}
use Rattle.cedar_calls.proofs.Commanding.{command_step}
use Rattle.cedar_calls.proofs.lines.answer_line.Goals as goal

pub returns-in-Some-Json-clause-step : goal.returns-in-Some-Json-clause-step
returns-in-Some-Json-clause-step g c =
    command_step (owned_setting c.args.session.now) (owned_world c.args.session.now) c.args.line.now c.answer_value.result
    (owned_world c.answer_value.new.session) c.in-Some-Json.verb (value_view c.in-Ok.value) (value_view c.in-Some-Json.body.now)
    c.in-Ok.ensures.ok (subst (λ given. IsCommandIn (value_view c.in-Ok.value) given) c.in-Some-Json.field-0-is c.in-Some-Json.ensures)
    c.in-Ok.ensures.writable c.in-Ok.ensures.nests c.answer_value.ensures.step
