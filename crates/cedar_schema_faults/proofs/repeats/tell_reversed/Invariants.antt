-- What is told, and what is left, is all.
use Rattle.std.proofs.Common.{◌≡◌, ◌++◌, length}
use Rattle.std.specs.Prelude.{reverse}
use Rattle.cedar_schema_faults.proofs.repeats.tell_reversed.Given as goal

abbrev pub invariant-loop-error : goal.invariant-loop-error
invariant-loop-error l = record { all : l.told.items ++ reverse l.left.items ≡ l.fn.told.items ++ reverse l.fn.errors.items }

abbrev pub decreases-loop-error : goal.decreases-loop-error
decreases-loop-error l = length l.left.items
