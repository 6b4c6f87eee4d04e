-- The last answer and the newer one both stay true, so does what they are joined to; and the newer one says what the last doesn't yet.
use Rattle.cedar_world.proofs.Later.{later_answers_stand as law}
use Rattle.cedar_world.proofs.telling.later_answers_stand.Goals as goal

pub returns : goal.returns
returns c = law
