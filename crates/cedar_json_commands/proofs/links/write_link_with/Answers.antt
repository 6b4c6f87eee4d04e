use Rattle.std.proofs.Common.{◌≡◌, true, cond, ◌&&◌, is_some, Some, None, ap, sym, ◌∙◌, subst, arith}
use Rattle.json.specs.Find.{as_str}
use Rattle.json.specs.Json.{object}
use Rattle.json.specs.Strict.{HasUniqueKeys, keys}
use Rattle.json.specs.Value.{value_view, members_view}
use Rattle.json.proofs.Trees.{view-Object}
use Rattle.cedar_grammar.specs.Names.{are_distinct}
use Rattle.cedar_world.specs.Bodies.{and_then}
use Rattle.cedar_json.specs.Entities.{under}
use Rattle.cedar_json.proofs.Keys.{distinct_keys}
use Rattle.cedar_json.proofs.Paths.{tells_same}
use Rattle.cedar_json_commands.specs.Links.{link_by, with_slots}
use Rattle.cedar_json_commands.proofs.links.write_link_with.Goals as goal

pub returns-clause-told : goal.returns-clause-told
returns-clause-told c =
    let ms = members_view c.args.members.now.items in
    let a = and_then (under c.args.template.now ms) as_str in
    let b = and_then (under c.args.id.now ms) as_str in
    let slots = members_view c.in-Object.given.items in
    let j = value_view c.args.slots.now in
    let seen : j ≡ object slots = ap value_view c.in-Object.is ∙ view-Object c.in-Object.given in
    let yes : c.has_only.result ≡ true = grind arith in
    λ u.
    let mine = subst HasUniqueKeys seen u in
    tells_same c.write_link_by.result (link_by a b slots) (with_slots a b (Some j))
    (sym (ap (λ i. is_some (with_slots a b (Some i))) seen
    ∙ ap (λ w. is_some (cond (w && are_distinct (keys slots)) (link_by a b slots) None)) (sym c.has_only.ensures ∙ yes)
    ∙ ap (λ w. is_some (cond w (link_by a b slots) None)) (distinct_keys (keys slots) mine.0)))
    c.write_link_by.ensures.told
