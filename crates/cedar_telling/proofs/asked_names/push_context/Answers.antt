-- The same names stand in a restricted tree as it is written and once its calls of `unknown` are named.
use Rattle.std.proofs.Common.{◌∙◌, ◌||◌, ap, map}
use Rattle.std.proofs.lemmas.Result.{on_ok_weaker}
use Rattle.std.specs.List.{list_any}
use Rattle.cedar_held.specs.Lent.{fields_in}
use Rattle.cedar_world.specs.Asking.{Entries}
use Rattle.cedar_world.specs.Orders.{text_eq}
use Rattle.cedar_world.specs.Question.{has_name}
use Rattle.cedar_telling.proofs.TellParts.{stands_in_context}
use Rattle.cedar_telling.proofs.asked_names.push_context.Goals as goal

pub returns-in-None : goal.returns-in-None
returns-in-None c = on_ok_weaker c.push_name.result (λ adds n.
    adds (text_eq n)
    ∙ ap (λ b. list_any (text_eq n) (map (λ n. n.now) c.args.names.now.items) || b) (ap (λ (e : Entries). has_name e n) c.in-None.ensures.context)) c.push_name.ensures

pub returns-in-Some : goal.returns-in-Some
returns-in-Some c = on_ok_weaker c.push_entries.result (λ adds n.
    adds (text_eq n)
    ∙ ap (λ b. list_any (text_eq n) (map (λ n. n.now) c.args.names.now.items) || b)
    (stands_in_context (text_eq n) (fields_in c.in-Some.entries.now) c.in-Some.ensures.restricted ∙ ap (λ (e : Entries). has_name e n) c.in-Some.ensures.context)) c.push_entries.ensures
