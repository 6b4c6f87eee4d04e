use Rattle.std.proofs.Common.{◌≡◌}
use Rattle.std.specs.Option.{option_map, option_or}
use Rattle.cedar_trees.specs.Bare.{bare}
use Rattle.cedar_shapes.specs.PositionsLeft.{unknowns_left}
use Rattle.cedar_substitution.specs.Typed.{types_apart, mistyped_among, mistyped_in}
use Rattle.cedar_substitution.proofs.told_values.mistyped.Given as goal

abbrev pub invariant-loop-unknown : goal.invariant-loop-unknown
invariant-loop-unknown g l = mistyped_in l.told.entries (bare l.expr) ≡ option_or (mistyped_among l.told.entries (unknowns_left l.unknown-iterator)) (option_map types_apart l.leftmost)
