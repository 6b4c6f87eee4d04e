use Rattle.std.proofs.Common.{◌≡◌, ◌-◌, length}
use Rattle.cedar_closure.specs.Numbers.{IsSet}
use Rattle.cedar_closure.proofs.ordering.insert_without_cycles.Given as goal

abbrev pub invariant-loop-number : goal.invariant-loop-number
invariant-loop-number l = record {
  set : IsSet l.order;
  left : length l.left.items ≡ length l.sources;
  bound : length l.order.is_member.items ≡ length l.sources;
}

abbrev pub invariant-loop-taken : goal.invariant-loop-taken
invariant-loop-taken l = record {
  set : IsSet l.order;
  left : length l.left.items ≡ length l.sources;
  bound : length l.order.is_member.items ≡ length l.sources;
}

abbrev pub decreases-loop-taken : goal.decreases-loop-taken
decreases-loop-taken l = length l.sources - l.taken
