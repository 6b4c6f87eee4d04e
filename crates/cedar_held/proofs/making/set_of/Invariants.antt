use Rattle.std.proofs.Common.{drop}
use Rattle.cedar_held.proofs.Sets.{ArePutInto}
use Rattle.cedar_held.proofs.making.set_of.Given as goal

abbrev pub invariant-loop-uid : goal.invariant-loop-uid
invariant-loop-uid l = ArePutInto l.uids l.made.keys (drop l.uid-index l.uids)
