use Rattle.std.proofs.Common.{◌≡◌, ℕ, true, false, drop, length, nat_eq, slice_index_or}
use Rattle.std.specs.Set.{is_member}
use Rattle.cedar_closure.proofs.numbers.NumberSet.clear.Given as goal

abbrev pub invariant-loop-index : goal.invariant-loop-index
invariant-loop-index l = record {
  left : (q : ℕ) → slice_index_or l.self.is_member.items q false ≡ true → is_member nat_eq (drop l.index l.fn.self.members.items) q ≡ true;
  members : l.self.members ≡ l.fn.self.members;
  bound : length l.self.is_member.items ≡ length l.fn.self.is_member.items;
}
