-- What is missing is wanted.
use Rattle.std.proofs.Common.{◌∙◌, ◌&&◌, ◌||◌, ap, sym, map}
use Rattle.std.proofs.lemmas.Result.{on_ok_weaker}
use Rattle.std.specs.List.{list_any}
use Rattle.cedar_requests.specs.Parts.{part_of}
use Rattle.cedar_world.specs.Question.{is_missing}
use Rattle.cedar_telling.proofs.asked_names.push_missing.Goals as goal

pub returns-in-Unknown : goal.returns-in-Unknown
returns-in-Unknown c = on_ok_weaker c.push_name.result (λ adds test.
    adds test
    ∙ ap (λ b. list_any test (map (λ n. n.now) c.args.names.now.items) || (b && test c.args.variable.now))
    (sym (ap (λ p. is_missing (part_of p)) c.in-Unknown.is))) c.push_name.ensures
