-- What is left stands under what is known.
use Rattle.std.proofs.Common.{length}
use Rattle.cedar_schema_faults.proofs.Repeating.{IsUnder}
use Rattle.cedar_schema_faults.proofs.repeats.repeated_errors.Given as goal

abbrev pub invariant-loop-key : goal.invariant-loop-key
invariant-loop-key g l = record { under : IsUnder g.K.Ord.cmp l.fn.keyed.items l.left.items l.seen l.errors.items }

abbrev pub decreases-loop-key : goal.decreases-loop-key
decreases-loop-key g l = length l.left.items
