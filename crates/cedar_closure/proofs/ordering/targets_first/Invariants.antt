use Rattle.std.proofs.Common.{◌≡◌, ◌<◌, ℕ, IsTrue, length, nat_eq}
use Rattle.std.specs.Set.{is_member}
use Rattle.cedar_closure.specs.Numbers.{IsSet}
use Rattle.cedar_closure.proofs.ordering.targets_first.Given as goal

abbrev pub invariant-loop-number : goal.invariant-loop-number
invariant-loop-number l = record {
  set : IsSet l.order;
  bound : length l.order.is_member.items ≡ l.count;
  taken : (q : ℕ) → q < l.number → IsTrue (is_member nat_eq l.order.members.items q);
}
