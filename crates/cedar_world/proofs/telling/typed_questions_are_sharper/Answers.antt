use Rattle.cedar_world.proofs.TypedAnswers.{typed_questions_are_sharper as law}
use Rattle.cedar_world.proofs.telling.typed_questions_are_sharper.Goals as goal

pub returns : goal.returns
returns c = law c.rules_are_sharp.ensures
