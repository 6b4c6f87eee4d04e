use Rattle.std.proofs.Common.{◌≡◌, [], ◌∷◌, length, ap, sym, ◌∙◌, arith}
use Rattle.std.specs.Prelude.{string_bytes}
use Rattle.json.specs.Json.{object}
use Rattle.json.specs.Value.{value_view, members_view}
use Rattle.json.proofs.Trees.{view-Object}
use Rattle.cedar_json.specs.EntitiesWritten.{entity_written}
use Rattle.cedar_json.specs.Written.{uid_written}
use Rattle.cedar_json.proofs.Appending.{on_same}
use Rattle.cedar_json.proofs.Taken.{one_is, many_entity_written, one_entity_written}
use Rattle.cedar_json.proofs.entities_written.write_entity.Goals as goal

pub returns-then-len-ne1 : goal.returns-then-len-ne1
returns-then-len-ne1 c =
    let j = value_view c.args.value.now in
    let ms = c.in-Object.members.items in
    let seen : j ≡ object (members_view ms) = ap value_view c.in-Object.is ∙ view-Object c.in-Object.members in
    let other : length ms ≡ 1 → ⊥ = λ one. absurd (omega arith) in
    on_same c.write_uid.result (string_bytes c.args.out.now) (string_bytes c.write_uid.new.out) (uid_written j) (entity_written j)
    (sym (ap entity_written seen ∙ many_entity_written ms other ∙ ap uid_written (sym seen))) c.write_uid.ensures

pub returns : goal.returns
returns c =
    let j = value_view c.args.value.now in
    let ms = c.in-Object.members.items in
    let m = c.index.result.now in
    let seen : j ≡ object (members_view ms) = ap value_view c.in-Object.is ∙ view-Object c.in-Object.members in
    let one : length ms ≡ 1 = omega arith in
    let is : ms ≡ m ∷ [] = one_is ms m one c.index.ensures in
    on_same c.write_uid-2.result (string_bytes c.args.out.now) (string_bytes c.write_uid-2.new.out) (uid_written (value_view m.1)) (entity_written j)
    (sym (ap entity_written seen ∙ one_entity_written ms m is)) c.write_uid-2.ensures
