use Rattle.std.proofs.Common.{◌≡◌, true, cond, ◌&&◌, is_some, None, ap, sym, ◌∙◌, subst, arith}
use Rattle.json.specs.Json.{object}
use Rattle.json.specs.Strict.{HasUniqueKeys, keys}
use Rattle.json.specs.Value.{value_view, members_view}
use Rattle.json.proofs.Trees.{view-Object}
use Rattle.cedar_grammar.specs.Names.{are_distinct}
use Rattle.cedar_json.proofs.Keys.{distinct_keys}
use Rattle.cedar_json.proofs.Paths.{tells_same}
use Rattle.cedar_json_commands.specs.PartialQuestions.{open_of, partial_question_in}
use Rattle.cedar_json_commands.proofs.partial_questions.write_partial_question.Goals as goal

pub returns-clause-told : goal.returns-clause-told
returns-clause-told c =
    let ms = members_view c.in-Object.members.items in
    let j = value_view c.args.value.now in
    let seen : j ≡ object ms = ap value_view c.in-Object.is ∙ view-Object c.in-Object.members in
    let yes : c.has_only.result ≡ true = grind arith in
    λ u.
    let mine = subst HasUniqueKeys seen u in
    tells_same c.write_open_question.result (open_of ms) (partial_question_in j)
    (sym (ap (λ i. is_some (partial_question_in i)) seen
    ∙ ap (λ b. is_some (cond (b && are_distinct (keys ms)) (open_of ms) None)) (sym c.has_only.ensures ∙ yes)
    ∙ ap (λ b. is_some (cond b (open_of ms) None)) (distinct_keys (keys ms) mine.0)))
    (c.write_open_question.ensures.told mine)
