-- The members that were passed are entities, so those that are left decide.
use Rattle.std.proofs.Common.{◌≡◌, map, drop}
use Rattle.cedar_grammar.specs.Build.{trees}
use Rattle.cedar_trees.specs.Bare.{bare}
use Rattle.cedar_trees.specs.Shapes.{are_entities}
use Rattle.cedar_interpreter.proofs.written_sets.are_entities.Given as goal

abbrev pub invariant-loop-member : goal.invariant-loop-member
invariant-loop-member l =
    are_entities (trees (map bare l.members)) ≡ are_entities (trees (map bare (drop l.member-index l.members)))
