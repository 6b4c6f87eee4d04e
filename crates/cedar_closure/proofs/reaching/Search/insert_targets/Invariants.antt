use Rattle.std.proofs.Common.{◌≡◌, ◌||◌, ℕ, IsTrue, drop, length, nat_eq}
use Rattle.std.specs.Set.{is_member}
use Rattle.cedar_closure.specs.Numbers.{IsSet, HasTarget}
use Rattle.cedar_closure.specs.Searching.{GoesOn}
use Rattle.cedar_closure.proofs.reaching.Search.insert_targets.Given as goal

abbrev pub invariant-loop-number : goal.invariant-loop-number
invariant-loop-number l = record {
  set : IsSet l.self.found;
  bound : length l.self.found.is_member.items ≡ length l.fn.self.found.is_member.items;
  found : (q : ℕ) → HasTarget l.rows.edges.now l.via q → IsTrue (is_member nat_eq l.self.found.members.items q || is_member nat_eq (drop l.number-index l.number-items) q);
  more : GoesOn l.rows.edges.now (λ a. a ≡ l.via) l.fn.self l.self;
}
