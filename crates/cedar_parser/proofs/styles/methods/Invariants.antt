-- Only `unknown` is so named; the methods among the functions passed, and among those to come, are all.
use Rattle.std.proofs.Common.{◌≡◌, ◌++◌, true}
use Rattle.cedar_grammar.specs.Functions.{method_names}
use Rattle.cedar_extensions.specs.Holding.{are_named}
use Rattle.cedar_extensions.specs.Tables.{functions_in, functions_left}
use Rattle.cedar_extensions.proofs.Defined.{callers}
use Rattle.cedar_parser.proofs.styles.methods.Given as goal

-- the names so far and those to come are all
abbrev pub invariant-loop-function : goal.invariant-loop-function
invariant-loop-function g l =
    (are_named (functions_left l.function-iterator) ≡ true)
    × (l.methods.items ++ method_names (callers g.F.ExtensionFunctionObject.answers (functions_left l.function-iterator)) ≡ method_names (callers g.F.ExtensionFunctionObject.answers (functions_in l.extensions)))
