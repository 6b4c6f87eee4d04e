use Rattle.std.proofs.Common.{◌≡◌, cond, is_some, None, ap, sym, ◌∙◌, subst}
use Rattle.json.specs.Json.{object}
use Rattle.json.specs.Strict.{HasUniqueKeys, keys}
use Rattle.json.specs.Value.{value_view, members_view}
use Rattle.json.proofs.Trees.{view-Object}
use Rattle.cedar_json.proofs.Keys.{distinct_keys}
use Rattle.cedar_json.proofs.Paths.{tells_same}
use Rattle.cedar_json_commands.specs.Links.{link_of_members, link_in}
use Rattle.cedar_json_commands.proofs.links.write_link.Goals as goal

pub returns-in-Object-clause-told : goal.returns-in-Object-clause-told
returns-in-Object-clause-told c =
    let ms = members_view c.in-Object.members.items in
    let j = value_view c.args.value.now in
    let seen : j ≡ object ms = ap value_view c.in-Object.is ∙ view-Object c.in-Object.members in
    λ u.
    let mine = subst HasUniqueKeys seen u in
    tells_same c.write_link_of.result (link_of_members ms) (link_in j)
    (sym (ap (λ i. is_some (link_in i)) seen ∙ ap (λ w. is_some (cond w (link_of_members ms) None)) (distinct_keys (keys ms) mine.0)))
    (c.write_link_of.ensures.told mine)
