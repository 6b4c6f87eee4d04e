-- Behind the given names stand those of the functions passed; with those to come they are all.
use Rattle.std.proofs.Common.{◌≡◌, ◌++◌, true}
use Rattle.cedar_grammar.specs.Functions.{function_names}
use Rattle.cedar_extensions.specs.Holding.{are_named}
use Rattle.cedar_extensions.specs.Tables.{functions_in, functions_left}
use Rattle.cedar_extensions.proofs.Defined.{callers}
use Rattle.cedar_parser.proofs.styles.with_functions.Given as goal

-- the names so far and those to come are all
abbrev pub invariant-loop-function : goal.invariant-loop-function
invariant-loop-function g l =
    (are_named (functions_left l.function-iterator) ≡ true)
    × (l.all.items ++ function_names (callers g.F.ExtensionFunctionObject.answers (functions_left l.function-iterator)) ≡ l.fn.names.items ++ function_names (callers g.F.ExtensionFunctionObject.answers (functions_in l.extensions)))
