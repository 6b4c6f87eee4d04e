use Rattle.std.proofs.Common.{◌≡◌, List, ◌++◌, ℕ, length}
use Rattle.cedar_closure.specs.Numbers.{IsSet}
use Rattle.cedar_closure.proofs.ordering.insert_freed.Given as goal

abbrev pub invariant-loop-source : goal.invariant-loop-source
invariant-loop-source l = record {
  set : IsSet l.order;
  left : length l.left.items ≡ length l.fn.left.items;
  behind : (more : List ℕ) × (l.order.members.items ≡ l.fn.order.members.items ++ more);
  bound : length l.order.is_member.items ≡ length l.fn.order.is_member.items;
}
