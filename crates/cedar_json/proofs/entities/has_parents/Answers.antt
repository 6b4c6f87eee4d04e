use Rattle.std.proofs.Common.{is_some, ap, sym, ◌∙◌}
use Rattle.json.specs.Value.{value_view}
use Rattle.cedar_json.specs.Entities.{parents_in, if_there}
use Rattle.cedar_json.proofs.Sound.{some_there}
use Rattle.cedar_json.proofs.entities.has_parents.Goals as goal

pub returns-in-Some : goal.returns-in-Some
returns-in-Some c = c.are_parents.ensures ∙ sym (some_there parents_in (value_view c.in-Some.value.now))
    ∙ ap (λ o. is_some (if_there parents_in o)) c.in-Some.ensures

pub returns-in-None : goal.returns-in-None
returns-in-None c = ap (λ o. is_some (if_there parents_in o)) c.in-None.ensures
