-- As the functions: an extension with no ordered type left gives way to the next one.
use Rattle.std.proofs.Common.{◌≡◌, length}
use Rattle.std.specs.Slice.Iter.{iter_rest}
use Rattle.cedar_extensions.specs.Tables.{ordered_left}
use Rattle.cedar_extensions.proofs.iteration.OrderedTypesIterator.next.Given as goal

abbrev pub invariant-loop-name : goal.invariant-loop-name
invariant-loop-name g l = ordered_left l.initial.self ≡ ordered_left l.self

abbrev pub decreases-loop-name : goal.decreases-loop-name
decreases-loop-name g l = length (iter_rest l.self.extensions)
