-- What is covered stays so, and each turn leaves fewer positions.
use Rattle.std.proofs.Common.{length, ◌-◌}
use Rattle.cedar_policy_set.specs.ScopeFinding.{covered}
use Rattle.cedar_policy_set.specs.Bounds.{entries_of}
use Rattle.cedar_policy_set.specs.Scopes.{Covers}
use Rattle.cedar_policy_set.proofs.scopes.cover.Given as goal

abbrev pub invariant-loop-next : goal.invariant-loop-next
invariant-loop-next l = Covers (entries_of l.bound) l.scopes

abbrev pub decreases-loop-next : goal.decreases-loop-next
decreases-loop-next l = length l.bound - covered l.scopes
