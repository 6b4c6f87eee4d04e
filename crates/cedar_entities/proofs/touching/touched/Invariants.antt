use Rattle.cedar_entities.specs.Kept.{in_map}
use Rattle.cedar_entities.proofs.Gathering.{IsWalking}
use Rattle.cedar_entities.proofs.touching.touched.Given as goal

abbrev pub invariant-loop-uid : goal.invariant-loop-uid
invariant-loop-uid l = IsWalking (in_map l.map) l.edited.keys l.uids.items l.uid-iterator
