use Rattle.std.specs.Prelude.{string_bytes}
use Rattle.std.proofs.lemmas.Result.{err_from_is_err_and}
use Rattle.json.specs.Value.{value_view}
use Rattle.cedar_world.specs.Bodies.{uids_of}
use Rattle.cedar_json.specs.Entities.{parents_in}
use Rattle.cedar_json.proofs.Unique.{parents_unique}
use Rattle.cedar_json_commands.specs.Others.{named_entities_of}
use Rattle.cedar_json.specs.Said.{IsUnsaid}
use Rattle.cedar_json.proofs.Saying.{ok_of_text, err_of_text}
use Rattle.cedar_json_commands.specs.Said.{SaysBody}
use Rattle.cedar_json_commands.proofs.Saying.{body_unparsed}
use Rattle.cedar_json_commands.proofs.reading.read_named_entities.Goals as goal

pub returns-in_err-value-clause-unsaid : goal.returns-in_err-value-clause-unsaid
returns-in_err-value-clause-unsaid c =
    let p = err_from_is_err_and c.from_residual.result c.from_residual.ensures.1 in
    rw (p.1, p.2) (body_unparsed parents_in parents_unique c.args.json.now c.in_err-value.field-0.0 c.in_err-value.ensures.unread)

pub returns-clause-said : goal.returns-clause-said
returns-clause-said c =
    ok_of_text (λ text json. SaysBody named_entities_of uids_of json (string_bytes text)) c.named_entities_text.result c.args.json.now (value_view c.in_ok-value.value)
    c.in_ok-value.ensures.read.0 c.named_entities_text.ensures.said

pub returns-clause-unsaid : goal.returns-clause-unsaid
returns-clause-unsaid c =
    err_of_text (λ why json. IsUnsaid (named_entities_of json) why) c.named_entities_text.result c.args.json.now (value_view c.in_ok-value.value) c.in_ok-value.ensures.read.0
    c.named_entities_text.ensures.unsaid
