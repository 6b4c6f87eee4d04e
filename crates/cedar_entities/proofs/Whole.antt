-- That the ancestors kept are the parents and those kept of the parents says that they are what the parents reach: each
-- parent keeps fewer of them.
use Rattle.std.proofs.Common.{◌≡◌, ℕ, zero, suc, ◌+◌, ◌<◌, ◌≤◌, Bool, true, false, ◌||◌, cond, inl, inr, List, [], ◌∷◌, refl, sym, ap, ◌∙◌, IsTrue, true≢false, arith}
use Rattle.std.specs.FinSet as set
use Rattle.std.specs.List.{list_any}
use Rattle.std.proofs.lemmas.Bool.{or_cases}
use Rattle.cedar_language.specs.Uid.{Uid}
use Rattle.cedar_language.specs.Facts.{Reaches, edge, further}
use Rattle.cedar_language.specs.Order.{same_uid}
use Rattle.cedar_literals.specs.Laws.{same_uid_equiv}
use Rattle.cedar_entities.specs.Held.{parents_of, IsParent, IsAncestor}
use Rattle.cedar_entities.specs.Kept.{Lookup, held_in, kept_at, IsKept, KeepsAncestors, IsWhole}
use Rattle.cedar_entities.proofs.UidLemmas.{contains-items, uid_is}
use Rattle.std.proofs.lemmas.Bool.{or_right as or_else}

-- ---- how many of some uids pass a test

abbrev count : (Uid → Bool) → List Uid → ℕ
count p [] = 0
count p (u ∷ us) = cond (p u) 1 0 + count p us

one_more : (a b : Bool) (m n : ℕ) → (a ≡ true → b ≡ true) → m ≤ n → cond a 1 0 + m ≤ cond b 1 0 + n
one_more true true m n f h = omega arith
one_more true false m n f h = absurd (true≢false (sym (f refl)))
one_more false true m n f h = omega arith
one_more false false m n f h = omega arith

one_less : (a b : Bool) (m n : ℕ) → a ≡ false → b ≡ true → m ≤ n → cond a 1 0 + m < cond b 1 0 + n
one_less true b m n h k l = absurd (true≢false h)
one_less false false m n h k l = absurd (true≢false (sym k))
one_less false true m n h k l = omega arith

still_less : (a b : Bool) (m n : ℕ) → (a ≡ true → b ≡ true) → m < n → cond a 1 0 + m < cond b 1 0 + n
still_less true true m n f h = omega arith
still_less true false m n f h = absurd (true≢false (sym (f refl)))
still_less false true m n f h = omega arith
still_less false false m n f h = omega arith

no_more : (p q : Uid → Bool) → ((u : Uid) → p u ≡ true → q u ≡ true) → (us : List Uid) → count p us ≤ count q us
no_more p q on [] = omega arith
no_more p q on (u ∷ us) = one_more (p u) (q u) (count p us) (count q us) (on u) (no_more p q on us)

-- where one that is listed passes the second test alone, fewer pass the first
fewer : (p q : Uid → Bool) → ((u : Uid) → p u ≡ true → q u ≡ true) → (x : Uid) → p x ≡ false → q x ≡ true → (us : List Uid) → list_any (same_uid x) us ≡ true → count p us < count q us
fewer p q on x fails passes [] h = absurd (true≢false (sym h))
fewer p q on x fails passes (u ∷ us) h = elim (same_uid x u) as (λ b. same_uid x u ≡ b → (b || list_any (same_uid x) us) ≡ true → count p (u ∷ us) < count q (u ∷ us)) [
  | true ↦ λ e r. one_less (p u) (q u) (count p us) (count q us) (ap p (sym (uid_is x u e)) ∙ fails) (ap q (sym (uid_is x u e)) ∙ passes) (no_more p q on us)
  | false ↦ λ e r. still_less (p u) (q u) (count p us) (count q us) (on u) (fewer p q on x fails passes us r)
] refl h

-- ---- listed uids that pass a test

pub one_of : (p : Uid → Bool) (x : Uid) (us : List Uid) → list_any (same_uid x) us ≡ true → p x ≡ true → list_any p us ≡ true
one_of p x [] h k = absurd (true≢false (sym h))
one_of p x (u ∷ us) h k = elim (same_uid x u) as (λ b. same_uid x u ≡ b → (b || list_any (same_uid x) us) ≡ true → (p u || list_any p us) ≡ true) [
  | true ↦ λ e r. ap (λ b. b || list_any p us) (ap p (sym (uid_is x u e)) ∙ k)
  | false ↦ λ e r. or_else (p u) (list_any p us) (one_of p x us r k)
] refl h

pub which : (p : Uid → Bool) (us : List Uid) → list_any p us ≡ true → (x : Uid) × (list_any (same_uid x) us ≡ true) × (p x ≡ true)
which p [] h = absurd (true≢false (sym h))
which p (u ∷ us) h = elim (p u) as (λ b. p u ≡ b → (b || list_any p us) ≡ true → (x : Uid) × (list_any (same_uid x) (u ∷ us) ≡ true) × (p x ≡ true)) [
  | true ↦ λ e r. (u, ap (λ b. b || list_any (same_uid u) us) (same_uid_equiv.refl u), e)
  | false ↦ λ e r. let w = which p us r in (w.0, or_else (same_uid w.0 u) (list_any (same_uid w.0) us) w.1, w.2)
] refl h

module _ (found : Lookup) (whole : IsWhole found) where
  kept_on : {a b : Uid} → Reaches (IsParent (held_in found)) a b → IsKept found a b
  kept_on (edge {a = a} {b = b} h) = whole.0 a b h
  kept_on (further {a = a} {b = c} h r) = whole.1 a c _ h (kept_on r)

  abbrev parents : Uid → List Uid
  parents a = set.items (parents_of (held_in found a))

  -- one of the parents keeps what isn't a parent, and fewer of the uids than its child
  via : (us : List Uid) (a b : Uid) → ((q : Uid) → IsKept found a q → list_any (same_uid q) us ≡ true) → list_any (λ m. set.contains (kept_at found m) b) (parents a) ≡ true
      → (m : Uid) × IsParent (held_in found) a m × IsKept found m b × (count (set.contains (kept_at found m)) us < count (set.contains (kept_at found a)) us)
  via us a b within h =
      let w = which (λ m. set.contains (kept_at found m) b) (parents a) h in
      let p = contains-items (parents_of (held_in found a)) w.0 ∙ w.1 in (
        w.0,
        p,
        w.2,
        fewer (set.contains (kept_at found w.0)) (set.contains (kept_at found a)) (λ q k. whole.1 a w.0 q p k) w.0 (whole.3 w.0) (whole.0 a w.0 p) us (within w.0 (whole.0 a w.0 p)),
      )

  path : (us : List Uid) (n : ℕ) (a b : Uid) → ((q : Uid) → IsKept found a q → list_any (same_uid q) us ≡ true) → count (set.contains (kept_at found a)) us ≤ n → IsKept found a b → IsAncestor (held_in found) a b
  path us zero a b within small k = elim (or_cases (set.contains (parents_of (held_in found a)) b) (list_any (λ m. set.contains (kept_at found m) b) (parents a)) (whole.2 a b k)) [
    | inl p ↦ edge p
    | inr h ↦ let v = via us a b within h in let less = v.3 in absurd (omega arith)
  ]
  path us (suc n) a b within small k = elim (or_cases (set.contains (parents_of (held_in found a)) b) (list_any (λ m. set.contains (kept_at found m) b) (parents a)) (whole.2 a b k)) [
    | inl p ↦ edge p
    | inr h ↦ let v = via us a b within h in let less = v.3 in further v.1 (path us n v.0 b (λ q j. within q (whole.1 a v.0 q v.1 j)) (omega arith) v.2)
  ]

  pub kept_of_whole : KeepsAncestors found
  kept_of_whole = record {
    ancestors = λ a b. (
      λ k. path (set.items (kept_at found a)) (count (set.contains (kept_at found a)) (set.items (kept_at found a))) a b (λ q j. sym (contains-items (kept_at found a) q) ∙ j) (omega arith) k,
      kept_on,
    );
    acyclic = λ a r. true≢false (sym (kept_on r) ∙ whole.3 a);
  }

module _ (found : Lookup) (keeps : KeepsAncestors found) where
  first : {a b : Uid} → Reaches (IsParent (held_in found)) a b → IsTrue (set.contains (parents_of (held_in found a)) b || list_any (λ m. set.contains (kept_at found m) b) (set.items (parents_of (held_in found a))))
  first (edge {a = a} {b = b} h) = ap (λ x. x || list_any (λ m. set.contains (kept_at found m) b) (set.items (parents_of (held_in found a)))) h
  first (further {a = a} {b = c} {c = b} h r) =
      or_else (set.contains (parents_of (held_in found a)) b) (list_any (λ m. set.contains (kept_at found m) b) (set.items (parents_of (held_in found a))))
      (one_of (λ m. set.contains (kept_at found m) b) c (set.items (parents_of (held_in found a))) (sym (contains-items (parents_of (held_in found a)) c) ∙ h) ((keeps.ancestors c b).1 r))

  never : (b : Bool) → ¬ (b ≡ true) → b ≡ false
  never true h = absurd (h refl)
  never false h = refl

  pub whole_of_kept : IsWhole found
  whole_of_kept = (
    λ a b p. (keeps.ancestors a b).1 (edge p),
    λ a b c p k. (keeps.ancestors a c).1 (further p ((keeps.ancestors b c).0 k)),
    λ a b k. first ((keeps.ancestors a b).0 k),
    λ a. never (set.contains (kept_at found a) a) (λ k. keeps.acyclic a ((keeps.ancestors a a).0 k)),
  )
