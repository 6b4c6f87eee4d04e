use Rattle.std.proofs.Common.{◌≡◌, true, false, [], ◌∷◌, length, ap, sym, ◌∙◌, arith}
use Rattle.std.specs.Prelude.{codes}
use Rattle.json.specs.Json.{object}
use Rattle.json.specs.Value.{value_view, members_view}
use Rattle.json.proofs.Trees.{view-Object}
use Rattle.cedar_grammar.specs.Names.{is_text}
use Rattle.cedar_json.proofs.Taken.{one_is}
use Rattle.cedar_json_commands.specs.PartialQuestions.{type_alone}
use Rattle.cedar_json_commands.proofs.Putting.{many_alone, one_alone}
use Rattle.cedar_json_commands.proofs.partial_questions.stated_type.Goals as goal

pub returns-then-len-ne1 : goal.returns-then-len-ne1
returns-then-len-ne1 c =
    let ms = c.in-Object.members.items in
    let seen : value_view c.args.value.now ≡ object (members_view ms) = ap value_view c.in-Object.is ∙ view-Object c.in-Object.members in
    let other : length ms ≡ 1 → ⊥ = λ one. absurd (omega arith) in
    sym (ap type_alone seen ∙ many_alone ms other)

pub returns-then-ne : goal.returns-then-ne
returns-then-ne c =
    let ms = c.in-Object.members.items in
    let m = c.index-member.result.now in
    let seen : value_view c.args.value.now ≡ object (members_view ms) = ap value_view c.in-Object.is ∙ view-Object c.in-Object.members in
    let one : length ms ≡ 1 = omega arith in
    let is : ms ≡ m ∷ [] = one_is ms m one c.index-member.ensures in
    let other : is_text m.0.now (codes "type") ≡ false = grind arith in
    sym (ap type_alone seen ∙ one_alone ms m false is other)

pub returns : goal.returns
returns c =
    let ms = c.in-Object.members.items in
    let m = c.index-member.result.now in
    let seen : value_view c.args.value.now ≡ object (members_view ms) = ap value_view c.in-Object.is ∙ view-Object c.in-Object.members in
    let one : length ms ≡ 1 = omega arith in
    let is : ms ≡ m ∷ [] = one_is ms m one c.index-member.ensures in
    let same : is_text m.0.now (codes "type") ≡ true = grind arith in
    c.as_str.ensures ∙ sym (ap type_alone seen ∙ one_alone ms m true is same)
