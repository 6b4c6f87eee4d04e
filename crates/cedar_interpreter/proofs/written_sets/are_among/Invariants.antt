-- Each value that was passed is one of the literals, so those that are left decide.
use Rattle.std.proofs.Common.{◌≡◌, map, drop}
use Rattle.cedar_grammar.specs.Build.{trees}
use Rattle.cedar_trees.specs.Bare.{bare}
use Rattle.cedar_language.specs.Operators.{has_all}
use Rattle.cedar_language.specs.Order.{all_of}
use Rattle.cedar_interpreter.specs.Written.{literals_in}
use Rattle.cedar_interpreter.proofs.written_sets.are_among.Given as goal

abbrev pub invariant-loop-value : goal.invariant-loop-value
invariant-loop-value l =
    has_all (literals_in (trees (map bare l.literals))) (all_of l.values)
    ≡ has_all (literals_in (trees (map bare l.literals))) (all_of (drop l.value-index l.values))
