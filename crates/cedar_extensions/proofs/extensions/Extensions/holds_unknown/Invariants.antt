-- A function that isn't the built-in one can be passed over.
use Rattle.std.proofs.Common.{◌≡◌, length}
use Rattle.std.specs.List.{list_any}
use Rattle.cedar_extensions.specs.Functions.{is_unknown}
use Rattle.cedar_extensions.specs.Tables.{functions_left, holds_unknown}
use Rattle.cedar_extensions.proofs.extensions.Extensions.holds_unknown.Given as goal

-- it is held where one of the functions that are left is it
abbrev pub invariant-loop-function : goal.invariant-loop-function
invariant-loop-function g l = holds_unknown l.self ≡ list_any is_unknown (functions_left l.functions)

abbrev pub decreases-loop-function : goal.decreases-loop-function
decreases-loop-function g l = length (functions_left l.functions)
