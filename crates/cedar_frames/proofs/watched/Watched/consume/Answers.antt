-- What was shown is what stands next.
use Rattle.cedar_frames.proofs.Ahead.{shown_consumed}
use Rattle.cedar_frames.proofs.watched.Watched.consume.Goals as goal

pub returns-clause-bytes : goal.returns-clause-bytes
returns-clause-bytes g c = λ before ahead shown within. shown_consumed _ _ _ _ ahead c.args.amount within shown c.consume.ensures.bytes
