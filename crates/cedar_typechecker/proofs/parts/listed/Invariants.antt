-- The parts listed so far and those that are left are the parts of the expression.
use Rattle.std.proofs.Common.{◌≡◌, ◌++◌, map}
use Rattle.cedar_shapes.specs.Parts.{parts}
use Rattle.cedar_shapes.specs.PartsLeft.{parts_left}
use Rattle.cedar_trees.specs.Bare.{bare}
use Rattle.cedar_typechecker.proofs.parts.listed.Given as goal

abbrev pub invariant-loop-part : goal.invariant-loop-part
invariant-loop-part l =
    map (λ e. bare e.now) l.parts.items ++ parts_left l.part-iterator ≡ parts (bare l.expr)
