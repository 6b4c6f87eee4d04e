use Rattle.std.proofs.Common.{◌≡◌, map}
use Rattle.cedar_literals.specs.Types.{value_type_of}
use Rattle.cedar_typing.specs.Containers.{all_pass}
use Rattle.cedar_typechecker.specs.Types.{type_view}
use Rattle.cedar_typechecker.proofs.Called.{pass_left}
use Rattle.cedar_typechecker.proofs.calls.all_pass.Given as goal

abbrev pub invariant-loop-index : goal.invariant-loop-index
invariant-loop-index l =
    all_pass (map value_type_of l.parameters) (map type_view l.arguments) ≡ pass_left l.parameters l.arguments l.index
