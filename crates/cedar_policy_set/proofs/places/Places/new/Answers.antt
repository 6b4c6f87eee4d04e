-- Empty places tell of no ids.
use Rattle.std.proofs.Common.{refl}
use Rattle.cedar_policy_set.proofs.Telling.{told_nothing}
use Rattle.cedar_policy_set.proofs.places.Places.new.Goals as goal

pub returns : goal.returns
returns c = told_nothing _ refl c.new.ensures.empty
