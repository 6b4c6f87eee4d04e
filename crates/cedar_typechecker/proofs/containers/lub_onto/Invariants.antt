use Rattle.std.proofs.Common.{◌≡◌, map, length}
use Rattle.cedar_typechecker.specs.Types.{type_view}
use Rattle.cedar_typechecker.specs.Containers.{lub_onto}
use Rattle.cedar_typechecker.proofs.containers.lub_onto.Given as goal

abbrev pub invariant-loop-before : goal.invariant-loop-before
invariant-loop-before l =
    lub_onto (map type_view l.types.items) (type_view l.least) ≡ lub_onto (map type_view l.fn.types.items) (type_view l.fn.last)

abbrev pub decreases-loop-before : goal.decreases-loop-before
decreases-loop-before l = length l.types.items
