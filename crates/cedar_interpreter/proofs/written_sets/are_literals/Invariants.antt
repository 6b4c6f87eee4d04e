-- The members that were passed are literals, so those that are left decide.
use Rattle.std.proofs.Common.{◌≡◌, map, drop}
use Rattle.cedar_grammar.specs.Build.{trees}
use Rattle.cedar_trees.specs.Bare.{bare}
use Rattle.cedar_interpreter.specs.Written.{are_literals}
use Rattle.cedar_interpreter.proofs.written_sets.are_literals.Given as goal

abbrev pub invariant-loop-member : goal.invariant-loop-member
invariant-loop-member l =
    are_literals (trees (map bare l.members)) ≡ are_literals (trees (map bare (drop l.member-index l.members)))
