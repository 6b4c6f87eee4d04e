use Rattle.cedar_scalars.proofs.RangeKeysRead.{range_key_read}
use Rattle.cedar_scalars.proofs.laws.range_keys_are_read.Goals as goal

pub returns : goal.returns
returns c = range_key_read
