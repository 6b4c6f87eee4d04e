-- By the evaluation of a context, which is what is held of it, and by a request for each known question.
use Rattle.cedar_telling.proofs.Asking.{questions_are_asked}
use Rattle.cedar_telling.proofs.questions_are_asked.Goals as goal

pub returns : goal.returns
returns c = questions_are_asked
