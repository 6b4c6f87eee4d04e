use Rattle.std.proofs.Common.{is_some, ap, sym, ◌∙◌}
use Rattle.json.specs.Value.{value_view, members_view}
use Rattle.cedar_json.specs.Entities.{fields_in, if_there}
use Rattle.cedar_json.proofs.Sound.{some_there, unique_under}
use Rattle.cedar_json.proofs.entities.has_fields.Goals as goal

pub returns-in-Some : goal.returns-in-Some
returns-in-Some c =
    let j = value_view c.in-Some.value.now in
    λ u. c.is_record.ensures (unique_under c.args.key.now (members_view c.args.members.now.items) j u.1 c.in-Some.ensures) ∙ sym (some_there fields_in j)
    ∙ ap (λ o. is_some (if_there fields_in o)) c.in-Some.ensures

pub returns-in-None : goal.returns-in-None
returns-in-None c = λ u. ap (λ o. is_some (if_there fields_in o)) c.in-None.ensures
