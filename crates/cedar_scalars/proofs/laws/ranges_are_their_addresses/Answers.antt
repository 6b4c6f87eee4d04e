use Rattle.cedar_scalars.proofs.Nesting.{their_addresses}
use Rattle.cedar_scalars.proofs.laws.ranges_are_their_addresses.Goals as goal

pub returns : goal.returns
returns c = their_addresses
