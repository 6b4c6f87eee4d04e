-- At which positions places stand, where those that were taken out close up.
use Rattle.std.specs.Prelude.{ℕ, ◌+◌, ◌-◌, ◌<◌, ◌≤◌, List, length, count_by, nat_lt, if◌then◌else◌}
use Rattle.std.specs.List.{slice_index}

-- how many of these are below a place
abbrev pub count_below : List ℕ → ℕ → ℕ
count_below taken t = count_by (λ g. nat_lt g t) taken

-- the position at which a place stands: those before it that were taken out don't count
abbrev pub position_of : List ℕ → ℕ → ℕ
position_of taken t = t - count_below taken t

-- the position at which one stands once another is taken out: those behind that one move up
abbrev pub closed_up : ℕ → ℕ → ℕ
closed_up out p = if nat_lt out p then p - 1 else p

-- no place is taken out twice
abbrev pub AreTakenOnce : List ℕ → Type 0
AreTakenOnce taken = (t : ℕ) → count_below taken (t + 1) ≤ count_below taken t + 1

-- so many are below a place, and stand before the others
pub record AreBefore (taken : List ℕ) (t i : ℕ) : Type 0 where
  pub within : i ≤ length taken
  pub below : (k : ℕ) → k < i → slice_index taken k < t
  pub others : (k : ℕ) → i ≤ k → k < length taken → t ≤ slice_index taken k
