use Rattle.std.proofs.Common.{◌≡◌, ◌++◌, map}
use Rattle.std.specs.List.{filter_map}
use Rattle.cedar_shapes.specs.Positions.{positions}
use Rattle.cedar_shapes.specs.PositionsLeft.{positions_left}
use Rattle.cedar_trees.specs.Bare.{bare}
use Rattle.cedar_authoring.specs.Awaiting.{name_standing}
use Rattle.cedar_authoring.proofs.awaiting.push_standing.Given as goal

abbrev pub invariant-loop-part : goal.invariant-loop-part
invariant-loop-part l = map (λ n. n.now) l.names.items ++ filter_map name_standing (positions_left l.part-iterator) ≡ map (λ n. n.now) l.fn.names.items ++ filter_map name_standing (positions (bare l.rest))
