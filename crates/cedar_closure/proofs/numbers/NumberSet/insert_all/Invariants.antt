use Rattle.std.proofs.Common.{◌≡◌, List, ◌++◌, ℕ, drop, length, nat_eq}
use Rattle.cedar_closure.specs.Graph.{SameKeys}
use Rattle.cedar_closure.specs.Numbers.{IsSet}
use Rattle.cedar_closure.proofs.numbers.NumberSet.insert_all.Given as goal

abbrev pub invariant-loop-number : goal.invariant-loop-number
invariant-loop-number l = record {
  set : IsSet l.self;
  union : SameKeys nat_eq (l.fn.self.members.items ++ l.numbers) (l.self.members.items ++ drop l.number-index l.numbers);
  behind : (more : List ℕ) × (l.self.members.items ≡ l.fn.self.members.items ++ more);
  bound : length l.self.is_member.items ≡ length l.fn.self.is_member.items;
}
