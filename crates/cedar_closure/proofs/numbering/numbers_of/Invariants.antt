use Rattle.std.proofs.Common.{◌≡◌, ◌||◌, List, ◌++◌, ℕ, ◌<◌, map, drop, length, nat_eq, IsTrue}
use Rattle.std.specs.Set.{is_member}
use Rattle.std.specs.Map.Iter.{deref}
use Rattle.cedar_closure.specs.Graph.{SameKeys}
use Rattle.cedar_closure.specs.Keys.{digest, IsFound}
use Rattle.cedar_closure.specs.Numbering.{is_numbered}
use Rattle.cedar_closure.proofs.numbering.numbers_of.Given as goal

abbrev pub invariant-loop-target : goal.invariant-loop-target
invariant-loop-target g l =
    let eq = g.K.PartialEq.eq in
    record {
      found : IsFound eq (λ x. digest (g.K.Hash.hash_input x)) l.keys.keys.items l.keys.numbers;
      numbers : (q : g.row.K.Denot) → (is_numbered eq l.keys.keys.items l.numbers.items q || is_member eq (map deref (drop l.target-index l.targets)) q) ≡ is_member eq (map deref l.targets) q;
      below : (i : ℕ) → IsTrue (is_member nat_eq l.numbers.items i) → i < length l.keys.keys.items;
      union : SameKeys eq (l.fn.keys.keys.items ++ map deref l.targets) (l.keys.keys.items ++ map deref (drop l.target-index l.targets));
      behind : (more : List g.row.K.Denot) × (l.keys.keys.items ≡ l.fn.keys.keys.items ++ more);
    }
