use Rattle.std.proofs.Common.{◌≡◌, ◌++◌, map}
use Rattle.std.specs.List.{flat_map}
use Rattle.std.specs.Map.{keys_of}
use Rattle.cedar_extensions.specs.Functions.{function_name}
use Rattle.cedar_extensions.specs.Holding.{extension_functions}
use Rattle.cedar_extensions.specs.Making as making
use Rattle.cedar_extensions.specs.Tables.{functions_left}
use Rattle.cedar_extensions.proofs.making.names_taken.Given as goal

-- the names so far, and then those of the functions that are left
abbrev pub invariant-loop-function : goal.invariant-loop-function
invariant-loop-function g l =
    making.names_taken (flat_map extension_functions l.extensions)
    ≡ keys_of l.names.items ++ map function_name (functions_left l.function-iterator)
