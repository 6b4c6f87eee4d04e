-- The set has each literal that was passed, so those that are left decide.
use Rattle.std.proofs.Common.{◌≡◌, map, drop}
use Rattle.cedar_grammar.specs.Build.{trees}
use Rattle.cedar_trees.specs.Bare.{bare}
use Rattle.cedar_language.specs.Operators.{has_all}
use Rattle.cedar_language.specs.Order.{all_of}
use Rattle.cedar_interpreter.specs.Written.{literals_in}
use Rattle.cedar_interpreter.proofs.written_sets.has_each.Given as goal

abbrev pub invariant-loop-literal : goal.invariant-loop-literal
invariant-loop-literal l =
    has_all (all_of l.set) (literals_in (trees (map bare l.literals)))
    ≡ has_all (all_of l.set) (literals_in (trees (map bare (drop l.literal-index l.literals))))
