use Rattle.cedar_trees.specs.Bare.{bare}
use Rattle.cedar_shapes.specs.PositionsLeft.{unknowns_left}
use Rattle.cedar_substitution.specs.Typed.{mistyped_in}
use Rattle.cedar_requests.proofs.Mistyping.{IsSoFar}
use Rattle.cedar_requests.proofs.telling.mistyped.Given as goal

abbrev pub invariant-loop-unknown : goal.invariant-loop-unknown
invariant-loop-unknown l = IsSoFar l.told.entries (mistyped_in l.told.entries (bare l.expr)) (unknowns_left l.unknown-iterator) l.leftmost
