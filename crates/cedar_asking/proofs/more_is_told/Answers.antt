-- Values told besides others are told with these.
use Rattle.cedar_asking.proofs.MoreTold.{more_is_told as law}
use Rattle.cedar_asking.proofs.more_is_told.Goals as goal

pub returns : goal.returns
returns c = law
