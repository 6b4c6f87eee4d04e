-- An extension with no function left gives way to the next one: the functions that are left stay the same.
use Rattle.std.proofs.Common.{◌≡◌, length}
use Rattle.std.specs.Slice.Iter.{iter_rest}
use Rattle.cedar_extensions.specs.Tables.{functions_left}
use Rattle.cedar_extensions.proofs.iteration.FuncsIterator.next.Given as goal

abbrev pub invariant-loop-function : goal.invariant-loop-function
invariant-loop-function g l = functions_left l.initial.self ≡ functions_left l.self

abbrev pub decreases-loop-function : goal.decreases-loop-function
decreases-loop-function g l = length (iter_rest l.self.extensions)
