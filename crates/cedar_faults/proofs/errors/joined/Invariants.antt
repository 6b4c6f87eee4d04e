-- The faults so far and those of the others that are left are all faults, in their order.
use Rattle.std.proofs.Common.{◌≡◌, ◌++◌, ◌∷◌}
use Rattle.cedar_faults.proofs.errors.joined.Given as goal

abbrev pub invariant-loop-other : goal.invariant-loop-other
invariant-loop-other l = l.tail.items ++ l.other-iterator.rest.items ≡ l.fn.faults.tail.items ++ (l.fn.others.head ∷ l.fn.others.tail.items)
