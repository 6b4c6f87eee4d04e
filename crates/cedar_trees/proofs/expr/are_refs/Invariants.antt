-- The items that were passed are entities, so those that are left decide.
use Rattle.std.proofs.Common.{◌≡◌, map, drop}
use Rattle.cedar_grammar.specs.Build.{trees}
use Rattle.cedar_trees.specs.Bare.{bare}
use Rattle.cedar_trees.specs.Shapes.{are_entities}
use Rattle.cedar_trees.proofs.expr.are_refs.Given as goal

abbrev pub invariant-loop-item : goal.invariant-loop-item
invariant-loop-item g l = are_entities (trees (map bare l.items)) ≡ are_entities (trees (map bare (drop l.item-index l.items)))
