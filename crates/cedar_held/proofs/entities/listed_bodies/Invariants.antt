-- What all items are read as begins with the bodies so far and goes on with those of the items to come.
use Rattle.std.proofs.Common.{◌≡◌, map, drop}
use Rattle.cedar_grammar.specs.Build.{trees}
use Rattle.cedar_trees.specs.Bare.{bare}
use Rattle.cedar_world.specs.Bodies.{each}
use Rattle.cedar_held.specs.Entities.{all_written, written_body}
use Rattle.cedar_held.proofs.ItemByItem.{after}
use Rattle.cedar_held.proofs.entities.listed_bodies.Given as goal

abbrev pub invariant-loop-item : goal.invariant-loop-item
invariant-loop-item l = each written_body (trees (map bare l.items)) ≡ after (all_written l.bodies) (each written_body (trees (map bare (drop l.item-index l.items))))
