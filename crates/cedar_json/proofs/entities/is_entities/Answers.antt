use Rattle.std.proofs.Common.{◌≡◌, is_some, ap, sym, ◌∙◌, subst}
use Rattle.json.specs.Json.{array}
use Rattle.json.specs.Strict.{HasUniqueKeys}
use Rattle.json.specs.Value.{value_view, items_view}
use Rattle.json.proofs.Trees.{view-Array}
use Rattle.cedar_json.specs.Entities.{entities_in}
use Rattle.cedar_json.proofs.entities.is_entities.Goals as goal

pub returns-in-Array : goal.returns-in-Array
returns-in-Array c =
    let js = items_view c.in-Array.items.items in
    let seen : value_view c.args.value.now ≡ array js = ap value_view c.in-Array.is ∙ view-Array c.in-Array.items in
    λ u. c.are_bodies.ensures (subst HasUniqueKeys seen u) ∙ ap (λ j. is_some (entities_in j)) (sym seen)
