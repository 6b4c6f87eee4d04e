-- Each number that was passed over is bound.
use Rattle.cedar_policy_set.specs.Bounds.{entries_of}
use Rattle.cedar_policy_set.specs.Numbers.{BindsNumbers}
use Rattle.cedar_policy_set.proofs.numbers.counted.Given as goal

abbrev pub invariant-loop-number : goal.invariant-loop-number
invariant-loop-number l = BindsNumbers (entries_of l.bound) l.from l.number
