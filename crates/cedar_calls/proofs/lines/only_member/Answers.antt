use Rattle.std.proofs.Common.{◌≡◌, [], ◌∷◌, length, ap, sym, ◌∙◌, subst, arith}
use Rattle.json.specs.Json.{object}
use Rattle.json.specs.Value.{value_view, members_view}
use Rattle.json.proofs.Trees.{view-Object}
use Rattle.cedar_json.proofs.Taken.{one_is}
use Rattle.cedar_calls.specs.Lines.{IsNotSingle}
use Rattle.cedar_calls.proofs.Commanding.{not_one}
use Rattle.cedar_calls.proofs.lines.only_member.Goals as goal

pub returns-then-len-ne1 : goal.returns-then-len-ne1
returns-then-len-ne1 c =
    let ms = c.in-Object.members.items in
    let seen : value_view c.args.value.now ≡ object (members_view ms) = ap value_view c.in-Object.is ∙ view-Object c.in-Object.members in
    let other : length ms ≡ 1 → ⊥ = λ one. absurd (omega arith) in
    subst IsNotSingle (sym seen) (not_one ms other)

pub returns : goal.returns
returns c =
    let ms = c.in-Object.members.items in
    let m = c.index.result.now in
    let seen : value_view c.args.value.now ≡ object (members_view ms) = ap value_view c.in-Object.is ∙ view-Object c.in-Object.members in
    let one : length ms ≡ 1 = omega arith in
    let are : ms ≡ m ∷ [] = one_is ms m one c.index.ensures in
    seen ∙ ap (λ ns. object (members_view ns)) are
