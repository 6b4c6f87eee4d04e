use Rattle.std.proofs.Common.{Some, is_some, ap}
use Rattle.json.specs.Find.{as_str}
use Rattle.json.specs.Value.{value_view, members_view}
use Rattle.cedar_world.specs.Bodies.{and_then}
use Rattle.cedar_json.specs.Entities.{under}
use Rattle.cedar_json.proofs.Paths.{tells_same}
use Rattle.cedar_json.proofs.Sound.{unique_under}
use Rattle.cedar_json_commands.specs.Links.{with_slots}
use Rattle.cedar_json_commands.proofs.links.write_link_under.Goals as goal

pub returns-in-Some-clause-told : goal.returns-in-Some-clause-told
returns-in-Some-clause-told c =
    let ms = members_view c.args.members.now.items in
    let a = and_then (under c.args.template.now ms) as_str in
    let b = and_then (under c.args.id.now ms) as_str in
    let j = value_view c.in-Some.value.now in
    λ u.
    tells_same c.write_link_with.result (with_slots a b (Some j)) (with_slots a b (under c.args.slots.now ms))
    (ap (λ o. is_some (with_slots a b o)) c.in-Some.ensures)
    (c.write_link_with.ensures.told (unique_under c.args.slots.now ms j u.1 c.in-Some.ensures))
