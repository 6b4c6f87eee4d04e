use Rattle.std.proofs.Common.{is_some, ap, ◌∙◌}
use Rattle.cedar_world.specs.Bodies.{and_then}
use Rattle.cedar_json.specs.Entities.{entity_in}
use Rattle.cedar_json.proofs.entities.has_uid.Goals as goal

pub returns-in-Some : goal.returns-in-Some
returns-in-Some c = c.is_entity.ensures ∙ ap (λ o. is_some (and_then o entity_in)) c.in-Some.ensures

pub returns-in-None : goal.returns-in-None
returns-in-None c = ap (λ o. is_some (and_then o entity_in)) c.in-None.ensures
