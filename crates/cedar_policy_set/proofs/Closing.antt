-- Where a place is taken out, those before it stay where they stand, and those behind it move up.
use Rattle.std.proofs.Common.{◌≡◌, ◌⊎◌, inl, inr, ℕ, suc, zero, ◌+◌, ◌-◌, ◌<◌, ◌≤◌, Bool, true, false, cond, List, [], ◌∷◌, length, ltb, lt-ltb, le-ltb, ltb-true, ltb-false, refl, sym, ap, subst, arith}
use Rattle.std.specs.Prelude.{insert, is_ok, if◌then◌else◌, Result, Ok, Err}
use Rattle.std.specs.List.Sorted.{IsNonDecreasing}
use Rattle.std.proofs.lemmas.List.Sums.{sum_by-cons}
use Rattle.std.proofs.lemmas.List.Sorted.{sum_by_pushed, IsPermutation-insert, IsNonDecreasingBy-insert}
use Rattle.std.proofs.lemmas.Grind.{get_or_default_zero}
use Rattle.cedar_policy_set.specs.ClosedPlaces.{count_below, position_of, closed_up, AreTakenOnce, AreBefore}

-- what one more adds
abbrev one_if : ℕ → ℕ → ℕ
one_if g t = cond (ltb g t) 1 0

one_below : (g t : ℕ) → g < t → one_if g t ≡ 1
one_below g t l = ap (λ b. cond b 1 0) (lt-ltb g t l)

none_below : (g t : ℕ) → t ≤ g → one_if g t ≡ 0
none_below g t l = ap (λ b. cond b 1 0) (le-ltb g t l)

-- one is below a place, or it isn't
either : (g t : ℕ) → ((g < t) × (one_if g t ≡ 1)) ⊎ ((t ≤ g) × (one_if g t ≡ 0))
either g t = by (ltb g t) refl
  where
    by : (b : Bool) → ltb g t ≡ b → ((g < t) × (one_if g t ≡ 1)) ⊎ ((t ≤ g) × (one_if g t ≡ 0))
    by true e = inl (ltb-true g t e, ap (λ b. cond b 1 0) e)
    by false e = inr (ltb-false g t e, ap (λ b. cond b 1 0) e)

counted : (g : ℕ) (gs : List ℕ) (t : ℕ) → count_below (g ∷ gs) t ≡ one_if g t + count_below gs t
counted g gs t = sum_by-cons (λ x. cond (ltb x t) 1 0) g gs

-- so many are below as stand before
pub counted_at : (gs : List ℕ) (t i : ℕ) → AreBefore gs t i → count_below gs t ≡ i
counted_at [] t i b = let within = b.within in omega arith
counted_at (g ∷ gs) t zero b =
    let first = none_below g t (b.others 0 (omega arith) (omega arith)) in
    let more = counted g gs t in
    let rest = counted_at gs t zero (record { within = omega arith; below = λ k l. absurd (let never : ⊥ = omega arith in never); others = λ k a l. b.others (suc k) (omega arith) (omega arith) }) in
    omega arith
counted_at (g ∷ gs) t (suc i) b =
    let within = b.within in
    let first = one_below g t (b.below 0 (omega arith)) in
    let more = counted g gs t in
    let rest = counted_at gs t i (record { within = omega arith; below = λ k l. b.below (suc k) (omega arith); others = λ k a l. b.others (suc k) (omega arith) (omega arith) }) in
    omega arith

-- more are below a later place, and never more than there are
one_more : (g s t : ℕ) → s ≤ t → one_if g s ≤ one_if g t
one_more g s t le = by (either g s) (either g t)
  where
    by : ((g < s) × (one_if g s ≡ 1)) ⊎ ((s ≤ g) × (one_if g s ≡ 0)) → ((g < t) × (one_if g t ≡ 1)) ⊎ ((t ≤ g) × (one_if g t ≡ 0)) → one_if g s ≤ one_if g t
    by (inl a) (inl b) = let (x, p) = a in let (y, q) = b in omega arith
    by (inl a) (inr b) = let (x, p) = a in let (y, q) = b in absurd (let never : ⊥ = omega arith in never)
    by (inr a) b = let (x, p) = a in omega arith

pub more_below : (gs : List ℕ) (s t : ℕ) → s ≤ t → count_below gs s ≤ count_below gs t
more_below [] s t le = omega arith
more_below (g ∷ gs) s t le =
    let a = counted g gs s in
    let b = counted g gs t in
    let one = one_more g s t le in
    let rest = more_below gs s t le in
    omega arith

at_most_one : (g t : ℕ) → one_if g t ≤ 1
at_most_one g t = by (either g t)
  where
    by : ((g < t) × (one_if g t ≡ 1)) ⊎ ((t ≤ g) × (one_if g t ≡ 0)) → one_if g t ≤ 1
    by (inl a) = let one = a.1 in omega arith
    by (inr a) = let none = a.1 in omega arith

pub most_below : (gs : List ℕ) (t : ℕ) → count_below gs t ≤ length gs
most_below [] t = omega arith
most_below (g ∷ gs) t =
    let one = at_most_one g t in
    let all = counted g gs t in
    let rest = most_below gs t in
    omega arith

-- taken out once each, no more of them are between two places than there is room for
pub no_more_between : (gs : List ℕ) → AreTakenOnce gs → (s n : ℕ) → count_below gs (s + n) ≤ count_below gs s + n
no_more_between gs once s zero =
    let here : count_below gs (s + zero) ≡ count_below gs s = ap (count_below gs) (omega arith) in
    omega arith
no_more_between gs once s (suc n) =
    let before = no_more_between gs once s n in
    let last = once (s + n) in
    let same : s + suc n ≡ s + n + 1 = omega arith in
    let here : count_below gs (s + suc n) ≡ count_below gs (s + n + 1) = ap (count_below gs) same in
    omega arith

no_more : (gs : List ℕ) → AreTakenOnce gs → (s t : ℕ) → s ≤ t → count_below gs t ≤ count_below gs s + (t - s)
no_more gs once s t le =
    let between = no_more_between gs once s (t - s) in
    let here : count_below gs t ≡ count_below gs (s + (t - s)) = ap (count_below gs) (omega arith) in
    omega arith

none_at_first : (gs : List ℕ) → count_below gs 0 ≡ 0
none_at_first [] = refl
none_at_first (g ∷ gs) =
    let one = none_below g 0 (omega arith) in
    let all = counted g gs 0 in
    let rest = none_at_first gs in
    omega arith

-- a place has no more below it than it tells
pub fewer_below : (gs : List ℕ) → AreTakenOnce gs → (t : ℕ) → count_below gs t ≤ t
fewer_below gs once t =
    let none = none_at_first gs in
    let most = no_more gs once 0 t (omega arith) in
    omega arith

-- ---- one more is taken out

pub counted_more : (gs : List ℕ) (i g t : ℕ) → count_below (insert gs i g) t ≡ one_if g t + count_below gs t
counted_more gs i g t = sum_by_pushed (λ x. cond (ltb x t) 1 0) g gs (insert gs i g) (IsPermutation-insert gs i g)

-- the place that stands at a position
pub record StandsAt (gs : List ℕ) (g p : ℕ) : Type 0 where
  pub here : position_of gs g ≡ p
  pub next : position_of gs (g + 1) ≡ p + 1

-- it is the last one that stands there or before
pub last_there : (gs : List ℕ) (g p : ℕ) → position_of gs g ≤ p → p < position_of gs (g + 1) → StandsAt gs g p
last_there gs g p here next =
    let up = more_below gs g (g + 1) (omega arith) in
    record { here = omega arith; next = omega arith }

-- behind all that were taken out
pub behind_all : (gs : List ℕ) (p : ℕ) → p < position_of gs (p + length gs + 1)
behind_all gs p = let most = most_below gs (p + length gs + 1) in omega arith

pub before_itself : (gs : List ℕ) (p : ℕ) → position_of gs p ≤ p
before_itself gs p = omega arith

module _ (gs : List ℕ) (once : AreTakenOnce gs) (g p : ℕ) (stands : StandsAt gs g p) where
  -- so it wasn't taken out
  is_there : count_below gs (g + 1) ≡ count_below gs g
  is_there =
      let here = stands.here in
      let next = stands.next in
      let up = more_below gs g (g + 1) (omega arith) in
      let up_once = once g in
      omega arith

  enough : p + count_below gs g ≡ g
  enough =
      let here = stands.here in
      let next = stands.next in
      let there = is_there in
      omega arith

  pub once_more : (i : ℕ) → AreTakenOnce (insert gs i g)
  once_more i t = by (either g t) (either g (t + 1))
    where
      by : ((g < t) × (one_if g t ≡ 1)) ⊎ ((t ≤ g) × (one_if g t ≡ 0)) → ((g < t + 1) × (one_if g (t + 1) ≡ 1)) ⊎ ((t + 1 ≤ g) × (one_if g (t + 1) ≡ 0)) → count_below (insert gs i g) (t + 1) ≤ count_below (insert gs i g) t + 1
      by (inl a) b = let p = a.1 in let l = a.0 in let q = one_below g (t + 1) (omega arith) in let c = counted_more gs i g t in let d = counted_more gs i g (t + 1) in let rest = once t in omega arith
      by (inr a) (inr b) = let p = a.1 in let q = b.1 in let c = counted_more gs i g t in let d = counted_more gs i g (t + 1) in let rest = once t in omega arith
      by (inr a) (inl b) =
          let p = a.1 in
          let q = b.1 in
          let l = a.0 in
          let m = b.0 in
          let same : t ≡ g = omega arith in
          let c = counted_more gs i g t in
          let d = counted_more gs i g (t + 1) in
          let there = is_there in
          let at_t : count_below gs t ≡ count_below gs g = ap (count_below gs) same in
          let at_next : count_below gs (t + 1) ≡ count_below gs (g + 1) = ap (λ u. count_below gs (u + 1)) same in
          omega arith

  pub closes : (i t : ℕ) → position_of (insert gs i g) t ≡ closed_up p (position_of gs t)
  closes i t = by (either g t)
    where
      by : ((g < t) × (one_if g t ≡ 1)) ⊎ ((t ≤ g) × (one_if g t ≡ 0)) → position_of (insert gs i g) t ≡ closed_up p (position_of gs t)
      by (inl a) =
          let l = a.0 in
          let q = a.1 in
          let more = counted_more gs i g t in
          let room = no_more gs once (g + 1) t (omega arith) in
          let there = is_there in
          let own = enough in
          let behind : p < position_of gs t = omega arith in
          let moved : closed_up p (position_of gs t) ≡ position_of gs t - 1 = ap (λ b. cond b (position_of gs t - 1) (position_of gs t)) (lt-ltb p (position_of gs t) behind) in
          omega arith
      by (inr a) =
          let l = a.0 in
          let q = a.1 in
          let more = counted_more gs i g t in
          let room = no_more gs once t g l in
          let own = enough in
          let before : position_of gs t ≤ p = omega arith in
          let stays : closed_up p (position_of gs t) ≡ position_of gs t = ap (λ b. cond b (position_of gs t - 1) (position_of gs t)) (le-ltb p (position_of gs t) before) in
          omega arith

-- in its place it leaves them rising
pub still_rising : (gs : List ℕ) (g i : ℕ) → IsNonDecreasing gs → AreBefore gs g i → IsNonDecreasing (insert gs i g)
still_rising gs g i rising before =
    IsNonDecreasingBy-insert (λ x. x) gs i g rising before.within
    (λ k d l. let below = before.below k l in let within = before.within in let here = get_or_default_zero gs k d (omega arith) in omega arith)
    (λ k d a l. let behind = before.others k a l in let here = get_or_default_zero gs k d l in omega arith)

-- what holds with one more and without it holds whether there was memory or not
pub after_insert : {E : Type 0} (P : List ℕ → Type 0) (r : Result (Unit {0}) E) (gs hs : List ℕ) (i g : ℕ) → hs ≡ (if is_ok r then insert gs i g else gs) → P gs → P (insert gs i g) → P hs
after_insert P (Ok a) gs hs i g is old new = subst P (sym is) new
after_insert P (Err e) gs hs i g is old new = subst P (sym is) old
