-- By its principal, action, resource and context.
use Rattle.std.proofs.Common.{Option, ap, ◌∙◌}
use Rattle.json.specs.Json.{Json}
use Rattle.cedar_world.specs.Bodies.{and_then}
use Rattle.cedar_json.specs.Questions.{question_in}
use Rattle.cedar_json.proofs.QuestionTexts.{question_text}
use Rattle.cedar_json.proofs.written_questions_are_read.Goals as goal

pub returns : goal.returns
returns c =
    λ json text j q d a e u is. let body = question_text j q text a e u is in (ap (λ (o : Option Json). and_then o question_in) d ∙ e, body.0, body.1, body.2)
