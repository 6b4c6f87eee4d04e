-- Searches that take rows whole.
use Rattle.std.specs.Prelude.{false, ℕ, List, length, IsTrue, ◌≡◌, ◌<◌, ◌≤◌, ◌+◌, ◌↔◌, ◌||◌, nat_eq, slice_index_or}
use Rattle.std.specs.Global.{Vec}
use Rattle.std.specs.Set.{is_member}
use Rattle.cedar_language.specs.Facts.{Reaches}
use Rattle.cedar_closure.specs.Numbers.{numbers_at, HasTarget, AreWithin}
use Rattle.cedar_closure.specs.declared.reaching.Rows.{Rows}
use Rattle.cedar_closure.specs.declared.reaching.Search.{Search}

-- a row that is known is all that its number reaches
pub record AreRows (rows : Rows) : Type 0 where
  pub within : AreWithin rows.edges.now
  pub marks : length rows.is_known.items ≡ length rows.edges.now
  pub below : (a : ℕ) → IsTrue (slice_index_or rows.is_known.items a false) → a < length rows.rows.items
  pub reached : (a : ℕ) → IsTrue (slice_index_or rows.is_known.items a false) → (b : ℕ) → IsTrue (is_member nat_eq (numbers_at rows.rows.items a) b) ↔ Reaches (HasTarget rows.edges.now) a b

-- a search finds more: only what is reached from certain numbers, and each edge from that leads to what is found unless it is still pending
pub record GoesOn (edges : List (Vec ℕ)) (IsFrom : ℕ → Type 0) (old new : Search) : Type 0 where
  pub kept : (q : ℕ) → IsTrue (is_member nat_eq old.found.members.items q) → IsTrue (is_member nat_eq new.found.members.items q)
  pub sound : (a q : ℕ) → IsFrom a → IsTrue (is_member nat_eq new.found.members.items q) → is_member nat_eq old.found.members.items q ≡ false → Reaches (HasTarget edges) a q
  pub closed : (m q : ℕ) → IsTrue (is_member nat_eq new.found.members.items m) → is_member nat_eq old.found.members.items m ≡ false → HasTarget edges m q
      → IsTrue (is_member nat_eq new.pending.items m || is_member nat_eq new.found.members.items q)
  pub waiting : (m : ℕ) → IsTrue (is_member nat_eq old.pending.items m) → IsTrue (is_member nat_eq new.pending.items m)
  pub waits : (m : ℕ) → IsTrue (is_member nat_eq new.pending.items m) → IsTrue (is_member nat_eq old.pending.items m || is_member nat_eq new.found.members.items m)
  pub fewer : length new.pending.items + length old.found.members.items ≤ length old.pending.items + length new.found.members.items
