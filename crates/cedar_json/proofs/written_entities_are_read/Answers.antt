-- Each entity by its four parts.
use Rattle.std.proofs.Common.{Option, ap, ◌∙◌}
use Rattle.json.specs.Json.{Json}
use Rattle.cedar_world.specs.Bodies.{and_then}
use Rattle.cedar_json.specs.Entities.{entities_in}
use Rattle.cedar_json.proofs.EntityTexts.{entities_text}
use Rattle.cedar_json.proofs.written_entities_are_read.Goals as goal

pub returns : goal.returns
returns c =
    λ json text j es d a e u is. let body = entities_text j es text a e u is in (ap (λ (o : Option Json). and_then o entities_in) d ∙ e, body.0, body.1, body.2)
