use Rattle.std.proofs.Common.{◌≡◌, map}
use Rattle.cedar_values.specs.Kinds.{plain_of}
use Rattle.cedar_values.proofs.values.Set.from_lits.Given as goal

abbrev pub invariant-loop-literal : goal.invariant-loop-literal
invariant-loop-literal l = l.values.items ≡ map plain_of l.yielded
