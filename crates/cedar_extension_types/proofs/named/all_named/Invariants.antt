use Rattle.std.proofs.Common.{◌≡◌, map, take}
use Rattle.cedar_extension_types.specs.Standard.{answers_beside}
use Rattle.cedar_extension_types.specs.Tables.{stated, standard_function}
use Rattle.cedar_extension_types.proofs.named.all_named.Given as goal

-- those so far are made
abbrev pub invariant-loop-function : goal.invariant-loop-function
invariant-loop-function g l =
    map (stated (answers_beside g.F.ExtensionFunctionObject.answers)) l.made.items ≡ map standard_function (take l.function-index l.functions)
