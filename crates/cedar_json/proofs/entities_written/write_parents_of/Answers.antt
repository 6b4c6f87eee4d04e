use Rattle.std.proofs.Common.{◌≡◌, [], ◌∷◌, Some, ap, sym, ◌∙◌}
use Rattle.std.specs.Prelude.{string_bytes}
use Rattle.json.specs.Json.{array}
use Rattle.json.specs.Value.{value_view, items_view}
use Rattle.json.proofs.Trees.{view-Array}
use Rattle.cedar_json.specs.EntitiesWritten.{each_written, parents_written}
use Rattle.cedar_json.proofs.Appending.{pushed, on_grown, on_same}
use Rattle.cedar_json.proofs.entities_written.write_parents_of.Goals as goal

pub returns-in_ok-push-in-Array : goal.returns-in_ok-push-in-Array
returns-in_ok-push-in-Array c =
    let a = string_bytes c.args.out.now in
    let b = string_bytes c.push.new.self in
    let e = string_bytes c.write_entities_of.new.out in
    let js = items_view c.in-Array.items.items in
    let seen : value_view c.args.value.now ≡ array js = ap value_view c.in-Array.is ∙ view-Array c.in-Array.items in
    on_same c.write_entities_of.result a e (91 ∷ each_written js) (parents_written (Some (value_view c.args.value.now)))
    (ap (λ j. parents_written (Some j)) (sym seen))
    (on_grown c.write_entities_of.result a b e (91 ∷ []) (each_written js) (pushed a b 91 c.in_ok-push-in-Array.ensures.bytes) c.write_entities_of.ensures)
