-- What counts stays bound, and each turn leaves fewer freed numbers.
use Rattle.std.proofs.Common.{length}
use Rattle.cedar_policy_set.specs.Bounds.{entries_of}
use Rattle.cedar_policy_set.specs.Numbers.{AreBound}
use Rattle.cedar_policy_set.proofs.numbers.Numbers.advance.Given as goal

abbrev pub invariant-loop : goal.invariant-loop
invariant-loop l = AreBound (entries_of l.bound) l.self

abbrev pub decreases-loop : goal.decreases-loop
decreases-loop l = length l.self.freed.keys
