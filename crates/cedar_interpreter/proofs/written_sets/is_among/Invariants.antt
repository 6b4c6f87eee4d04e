-- No literal that was passed is the value, so those that are left decide.
use Rattle.std.proofs.Common.{◌≡◌, map, drop}
use Rattle.cedar_grammar.specs.Build.{trees}
use Rattle.cedar_trees.specs.Bare.{bare}
use Rattle.cedar_language.specs.Operators.{has_member}
use Rattle.cedar_interpreter.specs.Glancing.{value_lent}
use Rattle.cedar_interpreter.specs.Written.{literals_in}
use Rattle.cedar_interpreter.proofs.written_sets.is_among.Given as goal

abbrev pub invariant-loop-literal : goal.invariant-loop-literal
invariant-loop-literal l =
    has_member (literals_in (trees (map bare l.literals))) (value_lent l.value)
    ≡ has_member (literals_in (trees (map bare (drop l.literal-index l.literals)))) (value_lent l.value)
