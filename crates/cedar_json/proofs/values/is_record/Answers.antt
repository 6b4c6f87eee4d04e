use Rattle.std.proofs.Common.{◌≡◌, is_some, ap, sym, ◌∙◌, subst}
use Rattle.json.specs.Json.{array, object}
use Rattle.json.specs.Strict.{HasUniqueKeys}
use Rattle.json.specs.Value.{value_view, items_view, members_view}
use Rattle.json.proofs.Trees.{view-Array, view-Object}
use Rattle.cedar_world.specs.Bodies.{and_then, named_fields}
use Rattle.cedar_json.specs.Values.{datum}
use Rattle.cedar_json.proofs.Sound.{object_fields, array_none}
use Rattle.cedar_json.proofs.values.is_record.Goals as goal

pub returns-in-Object : goal.returns-in-Object
returns-in-Object c =
    let ms = c.in-Object.members.items in
    let seen : value_view c.args.value.now ≡ object (members_view ms) = ap value_view c.in-Object.is ∙ view-Object c.in-Object.members in
    λ u. c.are_entries.ensures (subst HasUniqueKeys seen u) ∙ sym (ap (λ j. is_some (and_then (datum j) named_fields)) seen ∙ object_fields ms)

pub returns-in-Array : goal.returns-in-Array
returns-in-Array c =
    let js = items_view c.in-Array._items.items in
    let seen : value_view c.args.value.now ≡ array js = ap value_view c.in-Array.is ∙ view-Array c.in-Array._items in
    λ u. sym (ap (λ j. is_some (and_then (datum j) named_fields)) seen ∙ array_none js)
