-- What was passed over is no literal.
use Rattle.std.proofs.Common.{◌≡◌, length}
use Rattle.std.specs.Slice.Iter.{iter_rest}
use Rattle.cedar_values.specs.LiteralsLeft.{literals_left}
use Rattle.cedar_values.proofs.values.literal_sets.LiteralsIterator.next.Given as goal

abbrev pub invariant-loop-value : goal.invariant-loop-value
invariant-loop-value l = literals_left l.initial.self ≡ literals_left l.self

abbrev pub decreases-loop-value : goal.decreases-loop-value
decreases-loop-value l = length (iter_rest l.self.values)
