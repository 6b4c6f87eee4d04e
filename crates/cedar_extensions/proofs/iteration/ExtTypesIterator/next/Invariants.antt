-- A function that makes no extension type can be passed over.
use Rattle.std.proofs.Common.{◌≡◌, length}
use Rattle.cedar_extensions.specs.Tables.{functions_left, type_names_left}
use Rattle.cedar_extensions.proofs.iteration.ExtTypesIterator.next.Given as goal

abbrev pub invariant-loop-function : goal.invariant-loop-function
invariant-loop-function g l = type_names_left l.initial.self ≡ type_names_left l.self

abbrev pub decreases-loop-function : goal.decreases-loop-function
decreases-loop-function g l = length (functions_left l.self.functions)
