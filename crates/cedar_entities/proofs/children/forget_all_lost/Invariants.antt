use Rattle.cedar_entities.specs.Kept.{in_map}
use Rattle.cedar_entities.specs.Children.{KnowsChildren}
use Rattle.cedar_entities.proofs.children.forget_all_lost.Given as goal

abbrev pub invariant-loop-edge : goal.invariant-loop-edge
invariant-loop-edge l = KnowsChildren (in_map l.map) l.fn.index → KnowsChildren (in_map l.map) l.index
