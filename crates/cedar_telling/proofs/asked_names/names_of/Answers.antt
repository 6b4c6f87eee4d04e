-- The names of a question's parts, one after another.
use Rattle.std.proofs.Common.{◌∙◌, ◌&&◌, ◌||◌, ap, codes, List, map}
use Rattle.std.specs.List.{list_any}
use Rattle.cedar_telling.specs.Questions.{question_of}
use Rattle.cedar_language.specs.Uid.{Text}
use Rattle.cedar_world.specs.Asking.{Question}
use Rattle.cedar_world.specs.Orders.{text_eq}
use Rattle.cedar_world.specs.Question.{has_name, is_missing}
use Rattle.cedar_telling.proofs.Gathered.{regrouped}
use Rattle.cedar_telling.proofs.asked_names.names_of.Goals as goal

pub returns : goal.returns
returns c = λ n.
    let asked : Question = question_of c.args.asked.now in
    let none = ap (λ (names : List Text). list_any (text_eq n) names) (ap (map (λ n. n.now)) c.new-names.ensures.items) in
    c.in_ok-push_context.ensures n
    ∙ ap (λ b. b || has_name asked.context n)
    (c.in_ok-push_missing-3.ensures (text_eq n)
    ∙ ap (λ b. b || (is_missing asked.resource && text_eq n (codes "resource")))
    (c.in_ok-push_missing-2.ensures (text_eq n)
    ∙ ap (λ b. b || (is_missing asked.action && text_eq n (codes "action")))
    (c.in_ok-push_missing.ensures (text_eq n)
    ∙ ap (λ b. b || (is_missing asked.principal && text_eq n (codes "principal"))) none)))
    ∙ regrouped (is_missing asked.principal && text_eq n (codes "principal")) (is_missing asked.action && text_eq n (codes "action")) (is_missing asked.resource && text_eq n (codes "resource")) (has_name asked.context n)
