use Rattle.std.proofs.Common.{◌≡◌, ℕ, [], length}
use Rattle.cedar_closure.specs.Numbers.{AreWithin, numbers_at}
use Rattle.cedar_closure.proofs.ordering.sources_of_each.Given as goal

abbrev pub invariant-loop : goal.invariant-loop
invariant-loop l = record {
  counted : length l.sources.items ≡ l.counter;
  empty : (i : ℕ) → numbers_at l.sources.items i ≡ [];
}

abbrev pub invariant-loop-from : goal.invariant-loop-from
invariant-loop-from l = record {
  within : AreWithin l.sources.items;
  count : length l.sources.items ≡ l.count;
}
