-- What was seen so far is reached, and there are at most as many as edges lead to.
use Rattle.std.proofs.Common.{◌+◌, ◌-◌, length}
use Rattle.cedar_validator_schema.proofs.Found.{all_targets, IsFound}
use Rattle.cedar_validator_schema.proofs.hierarchies.Hierarchy.reaches.Given as goal

abbrev pub invariant-loop-via : goal.invariant-loop-via
invariant-loop-via g l = record { found : IsFound g.K.PartialEq.eq g.K.Ord.cmp l.self l.from l.search }

abbrev pub decreases-loop-via : goal.decreases-loop-via
decreases-loop-via g l = (length (all_targets l.self.targets.entries) - length l.search.seen.keys) + length l.search.pending.items
