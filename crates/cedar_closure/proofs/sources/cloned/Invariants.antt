use Rattle.std.proofs.Common.{◌≡◌, ◌||◌, map, drop, length}
use Rattle.std.specs.Map.Iter.{deref}
use Rattle.std.specs.Set.{is_member}
use Rattle.cedar_closure.proofs.sources.cloned.Given as goal

-- those that are left are missing
abbrev pub invariant-loop-key : goal.invariant-loop-key
invariant-loop-key g l = record {
  members : (q : g.row.K.Denot) → (is_member g.K.PartialEq.eq l.all.items q || is_member g.K.PartialEq.eq (map deref (drop l.key-index l.keys)) q) ≡ is_member g.K.PartialEq.eq (map deref l.keys) q;
  len : length l.all.items ≡ l.key-index;
}
