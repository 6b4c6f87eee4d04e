use Rattle.std.proofs.Common.{◌≡◌, true, false, cond, ◌&&◌, is_some, None, ap, sym, ◌∙◌, subst, arith}
use Rattle.json.specs.Json.{object}
use Rattle.json.specs.Strict.{HasUniqueKeys, keys}
use Rattle.json.specs.Value.{value_view, members_view}
use Rattle.json.proofs.Trees.{view-Object}
use Rattle.cedar_grammar.specs.Names.{are_distinct}
use Rattle.cedar_json.specs.Entities.{body_of, body_in}
use Rattle.cedar_json.proofs.Keys.{distinct_keys}
use Rattle.cedar_json.proofs.entities.is_entity_body.Goals as goal

pub returns-then-not-has_only : goal.returns-then-not-has_only
returns-then-not-has_only c =
    let ms = members_view c.in-Object.members.items in
    let seen : value_view c.args.value.now ≡ object ms = ap value_view c.in-Object.is ∙ view-Object c.in-Object.members in
    let no : c.has_only.result ≡ false = grind arith in
    λ u. sym (ap (λ j. is_some (body_in j)) seen
    ∙ ap (λ b. is_some (cond (b && are_distinct (keys ms)) (body_of ms) None)) (sym c.has_only.ensures ∙ no))

pub returns : goal.returns
returns c =
    let ms = members_view c.in-Object.members.items in
    let seen : value_view c.args.value.now ≡ object ms = ap value_view c.in-Object.is ∙ view-Object c.in-Object.members in
    let yes : c.has_only.result ≡ true = grind arith in
    λ u.
    let mine = subst HasUniqueKeys seen u in
    c.is_body.ensures mine ∙ sym (ap (λ j. is_some (body_in j)) seen
    ∙ ap (λ b. is_some (cond (b && are_distinct (keys ms)) (body_of ms) None)) (sym c.has_only.ensures ∙ yes)
    ∙ ap (λ b. is_some (cond b (body_of ms) None)) (distinct_keys (keys ms) mine.0))
