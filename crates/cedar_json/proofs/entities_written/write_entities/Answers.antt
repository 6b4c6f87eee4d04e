use Rattle.std.proofs.Common.{◌≡◌, [], ◌∷◌, ap, sym, ◌∙◌}
use Rattle.std.specs.Prelude.{string_bytes}
use Rattle.json.specs.Json.{array}
use Rattle.json.specs.Value.{value_view, items_view}
use Rattle.json.proofs.Trees.{view-Array}
use Rattle.cedar_json.specs.EntitiesWritten.{bodies_written, entities_written}
use Rattle.cedar_json.proofs.Appending.{pushed, on_grown, on_same}
use Rattle.cedar_json.proofs.entities_written.write_entities.Goals as goal

pub returns-in_ok-push-in-Array : goal.returns-in_ok-push-in-Array
returns-in_ok-push-in-Array c =
    let a = string_bytes c.args.out.now in
    let b = string_bytes c.push.new.self in
    let e = string_bytes c.write_bodies.new.out in
    let js = items_view c.in-Array.items.items in
    let seen : value_view c.args.value.now ≡ array js = ap value_view c.in-Array.is ∙ view-Array c.in-Array.items in
    on_same c.write_bodies.result a e (91 ∷ bodies_written js) (entities_written (value_view c.args.value.now)) (ap entities_written (sym seen))
    (on_grown c.write_bodies.result a b e (91 ∷ []) (bodies_written js) (pushed a b 91 c.in_ok-push-in-Array.ensures.bytes) c.write_bodies.ensures)
