-- Keys that are seen along edges.
use Rattle.std.specs.Prelude.{◌≡◌, ◌+◌, ◌&&◌, ◌||◌, Bool, not, List, [], length}
use Rattle.std.specs.declared.cmp.Ordering.{Ordering}
use Rattle.std.specs.Set.{is_member}
use Rattle.std.specs.BTreeSet.{contains, IsOrdered}
use Rattle.cedar_validator_schema.specs.declared.searches.Search.{Search}

abbrev pub seen_by : {K : Type 0} → (K → K → Ordering) → Search K → K → Bool
seen_by cmp s q = contains cmp s.seen q

-- nothing is seen
pub record IsNew {K : Type 0} (cmp : K → K → Ordering) (s : Search K) : Type 0 where
  pub seen : s.seen.keys ≡ []
  pub ordered : IsOrdered cmp s.seen
  pub pending : s.pending.items ≡ []

-- these keys are seen too, and the edges of those that weren't are still to be followed
pub record SeesMore {K : Type 0} (eq : K → K → Bool) (cmp : K → K → Ordering) (keys : List K) (old new : Search K) : Type 0 where
  pub seen : (q : K) → seen_by cmp new q ≡ (seen_by cmp old q || is_member eq keys q)
  pub pending : (q : K) → is_member eq new.pending.items q ≡ (is_member eq old.pending.items q || (is_member eq keys q && not (seen_by cmp old q)))
  pub ordered : IsOrdered cmp old.seen → IsOrdered cmp new.seen
  pub as_many : length new.pending.items + length old.seen.keys ≡ length old.pending.items + length new.seen.keys
