-- The edges of a graph, turned round.
use Rattle.std.specs.Prelude.{Bool, false, ℕ, List, ◌++◌, length, IsTrue, ◌≡◌, ◌<◌, ◌≤◌, ◌||◌}
use Rattle.std.specs.List.{IsDistinct}
use Rattle.std.specs.Option.{option_map_or}
use Rattle.std.specs.declared.cmp.Ordering.{Ordering}
use Rattle.std.specs.BTreeMap.{get}
use Rattle.std.specs.BTreeSet.{BTreeSet, contains}
use Rattle.std.specs.Borrow.{Bor}
use Rattle.std.specs.Set.{is_member}
use Rattle.cedar_language.specs.Facts.{Reaches}
use Rattle.cedar_closure.specs.declared.sources.Sources.{Sources}

module _ {K : Type 0} (cmp : K → K → Ordering) where
  -- whether an edge leads to the target from the source
  unfoldable pub has_source : Sources K → K → K → Bool
  has_source graph target source = option_map_or (λ sources. contains cmp sources source) (get cmp graph.by_target target) false

  -- an edge leads from the source to the target
  abbrev pub LeadsTo : Sources K → K → K → Type 0
  LeadsTo graph source target = IsTrue (has_source graph target source)

-- a key is one of the targets, or edges lead from it to one of them
pub data LeadsToOne {K : Type 0} (eq : K → K → Bool) (IsEdge : K → K → Type 0) (targets : List K) (q : K) : Type 0 where
  is_target : IsTrue (is_member eq targets q) → LeadsToOne eq IsEdge targets q
  reaches : (t : K) → IsTrue (is_member eq targets t) → Reaches IsEdge q t → LeadsToOne eq IsEdge targets q

-- there are more such keys than `most`: some of them, of which no two are equal
pub record AreMoreThan {K : Type 0} (eq : K → K → Bool) (most : ℕ) (Is : K → Type 0) : Type 0 where
  pub some : List K
  pub distinct : IsDistinct eq some
  pub more : most < length some
  pub each : (q : K) → IsTrue (is_member eq some q) → Is q

-- no key was found twice, and the set has just those that were found
pub record IsSeen {K : Type 0} (eq : K → K → Bool) (cmp : K → K → Ordering) (found : List K) (seen : BTreeSet (Bor K)) : Type 0 where
  pub distinct : IsDistinct eq found
  pub same : (q : Bor K) → contains (λ (x y : Bor K). cmp x.now y.now) seen q ≡ is_member eq found q.now

-- behind what was found come given keys alone, and all of them where no more are found than `most`
pub record Finds {K : Type 0} (eq : K → K → Bool) (most : ℕ) (given : K → Bool) (old new : List K) : Type 0 where
  pub more : List K
  pub behind : new ≡ old ++ more
  pub only : (q : K) → IsTrue (is_member eq new q) → IsTrue (is_member eq old q || given q)
  pub all : length new ≤ most → (q : K) → IsTrue (given q) → IsTrue (is_member eq new q)
