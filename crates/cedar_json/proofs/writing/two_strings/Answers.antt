use Rattle.std.proofs.Common.{◌≡◌, [], ◌∷◌, length, ap, sym, ◌∙◌, subst, arith}
use Rattle.json.specs.Json.{object}
use Rattle.json.specs.Value.{value_view, members_view}
use Rattle.json.proofs.Trees.{view-Object}
use Rattle.cedar_json.specs.Parts.{IsNoPair}
use Rattle.cedar_json.proofs.Taken.{two_are, not_two, first_is_none, second_is_none, two_strings_are}
use Rattle.cedar_json.proofs.writing.two_strings.Goals as goal

pub returns-then-len-ne2 : goal.returns-then-len-ne2
returns-then-len-ne2 c =
    let ms = c.in-Object.members.items in
    let seen : value_view c.args.value.now ≡ object (members_view ms) = ap value_view c.in-Object.is ∙ view-Object c.in-Object.members in
    let other : length ms ≡ 2 → ⊥ = λ two. absurd (omega arith) in
    subst IsNoPair (sym seen) (not_two ms other)

pub returns-in_err-as_str : goal.returns-in_err-as_str
returns-in_err-as_str c =
    let ms = c.in-Object.members.items in
    let m = c.index.result.now in
    let n = c.index-2.result.now in
    let seen : value_view c.args.value.now ≡ object (members_view ms) = ap value_view c.in-Object.is ∙ view-Object c.in-Object.members in
    let two : length ms ≡ 2 = omega arith in
    let are : ms ≡ m ∷ n ∷ [] = two_are ms m n two c.index.ensures c.index-2.ensures in
    rw c.from_residual.ensures (subst IsNoPair (sym seen) (first_is_none ms m n are (sym c.in_err-as_str.ensures)))

pub returns-in_err-as_str-2 : goal.returns-in_err-as_str-2
returns-in_err-as_str-2 c =
    let ms = c.in-Object.members.items in
    let m = c.index.result.now in
    let n = c.index-2.result.now in
    let seen : value_view c.args.value.now ≡ object (members_view ms) = ap value_view c.in-Object.is ∙ view-Object c.in-Object.members in
    let two : length ms ≡ 2 = omega arith in
    let are : ms ≡ m ∷ n ∷ [] = two_are ms m n two c.index.ensures c.index-2.ensures in
    rw c.from_residual-in_err-as_str-2.ensures (subst IsNoPair (sym seen) (second_is_none ms m n are (sym c.in_err-as_str-2.ensures)))

pub returns : goal.returns
returns c =
    let ms = c.in-Object.members.items in
    let m = c.index.result.now in
    let n = c.index-2.result.now in
    let seen : value_view c.args.value.now ≡ object (members_view ms) = ap value_view c.in-Object.is ∙ view-Object c.in-Object.members in
    let two : length ms ≡ 2 = omega arith in
    let are : ms ≡ m ∷ n ∷ [] = two_are ms m n two c.index.ensures c.index-2.ensures in
    seen ∙ two_strings_are ms m n _ _ are c.in_ok-as_str.ensures c.in_ok-as_str-2.ensures
