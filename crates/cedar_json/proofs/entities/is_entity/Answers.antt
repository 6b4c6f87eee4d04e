use Rattle.std.proofs.Common.{◌≡◌, true, false, is_some, [], ◌∷◌, length, ap, sym, ◌∙◌, arith}
use Rattle.std.specs.Prelude.{codes}
use Rattle.json.specs.Json.{object}
use Rattle.json.specs.Value.{value_view, members_view}
use Rattle.json.proofs.Trees.{view-Object}
use Rattle.cedar_grammar.specs.Names.{is_text}
use Rattle.cedar_json.specs.Entities.{entity_in}
use Rattle.cedar_json.specs.Values.{uid_in}
use Rattle.cedar_json.proofs.Taken.{one_is, many_entity, one_entity}
use Rattle.cedar_json.proofs.entities.is_entity.Goals as goal

pub returns-then-len-ne1 : goal.returns-then-len-ne1
returns-then-len-ne1 c =
    let ms = c.in-Object.members.items in
    let seen : value_view c.args.value.now ≡ object (members_view ms) = ap value_view c.in-Object.is ∙ view-Object c.in-Object.members in
    let other : length ms ≡ 1 → ⊥ = λ one. absurd (omega arith) in
    c.is_uid.ensures ∙ ap (λ j. is_some (uid_in j)) seen ∙ sym (ap (λ j. is_some (entity_in j)) seen ∙ ap is_some (many_entity ms other))

pub returns-then-ne : goal.returns-then-ne
returns-then-ne c =
    let ms = c.in-Object.members.items in
    let m = c.index-member.result.now in
    let seen : value_view c.args.value.now ≡ object (members_view ms) = ap value_view c.in-Object.is ∙ view-Object c.in-Object.members in
    let one : length ms ≡ 1 = omega arith in
    let is : ms ≡ m ∷ [] = one_is ms m one c.index-member.ensures in
    let other : is_text m.0.now (codes "__entity") ≡ false = grind arith in
    sym (ap (λ j. is_some (entity_in j)) seen ∙ ap is_some (one_entity ms m false is other))

pub returns : goal.returns
returns c =
    let ms = c.in-Object.members.items in
    let m = c.index-member.result.now in
    let seen : value_view c.args.value.now ≡ object (members_view ms) = ap value_view c.in-Object.is ∙ view-Object c.in-Object.members in
    let one : length ms ≡ 1 = omega arith in
    let is : ms ≡ m ∷ [] = one_is ms m one c.index-member.ensures in
    let same : is_text m.0.now (codes "__entity") ≡ true = grind arith in
    c.is_uid-2.ensures ∙ sym (ap (λ j. is_some (entity_in j)) seen ∙ ap is_some (one_entity ms m true is same))
