use Rattle.std.proofs.Common.{◌≡◌, ◌++◌}
use Rattle.std.specs.List.{flat_map}
use Rattle.std.specs.Map.{keys_of}
use Rattle.cedar_extensions.specs.Holding.{extension_functions}
use Rattle.cedar_extensions.specs.Making as making
use Rattle.cedar_extensions.specs.Tables.{functions_left}
use Rattle.cedar_extensions.proofs.making.types_made.Given as goal

-- the types so far, and then those of the functions that are left
abbrev pub invariant-loop-function : goal.invariant-loop-function
invariant-loop-function g l =
    making.types_made (flat_map extension_functions l.extensions)
    ≡ keys_of l.names.items ++ making.types_made (functions_left l.function-iterator)
