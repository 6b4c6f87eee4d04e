-- No construct of a tree brings in such a call, and what writes a value is none.
use Rattle.cedar_world.proofs.PlainAnswers.{plain_answers as law}
use Rattle.cedar_world.proofs.telling.plain_answers.Goals as goal

pub returns : goal.returns
returns c = law
