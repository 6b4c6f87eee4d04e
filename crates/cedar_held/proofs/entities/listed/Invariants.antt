-- All items are read as the uids so far, and behind them what the items to come are read as.
use Rattle.std.proofs.Common.{◌≡◌, map, drop}
use Rattle.cedar_grammar.specs.Build.{trees}
use Rattle.cedar_trees.specs.Bare.{bare}
use Rattle.cedar_world.specs.Bodies.{each, entity_of}
use Rattle.cedar_held.proofs.ItemByItem.{after}
use Rattle.cedar_held.proofs.entities.listed.Given as goal

abbrev pub invariant-loop-item : goal.invariant-loop-item
invariant-loop-item l = each entity_of (trees (map bare l.items)) ≡ after l.uids.items (each entity_of (trees (map bare (drop l.item-index l.items))))
