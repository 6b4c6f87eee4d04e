-- Members that are looked up by their hashes.
use Rattle.std.proofs.Common.{◌≡◌, ◌≢◌, ◌∙◌, ◌+◌, ◌<◌, ℕ, zero, suc, List, [], ◌∷◌, length, get_or, Less, Equal, Greater, Err, inl, inr, sym, ap, arith}
use Rattle.std.proofs.lemmas.Bool.{cases_lt}
use Rattle.std.proofs.lemmas.Cmp.{nat_cmp_total, tied_itself}
use Rattle.std.proofs.lemmas.List.Sorted.{Contains-permutation, searchable_from_sorted}
use Rattle.std.specs.List.{Contains}
use Rattle.std.specs.List.Sorted.{IsBinarySearchResult}
use Rattle.std.specs.Ordering.{nat_cmp}
use Rattle.cedar_language.specs.Value.{Value}
use Rattle.cedar_values.specs.Lookups.{hash_of, places_from, PlacesMembers}
use Rattle.cedar_values.specs.declared.values.lookups.HashedPlace.{HashedPlace}

-- ---- the places of members

place : ℕ → Value → HashedPlace
place i v = record { hash = hash_of v; position = i }

has_place : (i : ℕ) (vs : List Value) (v : Value) → (k : ℕ) → k < length vs → get_or vs k v ≡ v → (j : ℕ) × Contains (places_from i vs) (place j v)
unfolding place
has_place i [] v k l e = absurd (omega (arith, l))
has_place i (w ∷ vs) v zero l e = (i, (0, omega arith, ap (place i) e))
has_place i (w ∷ vs) v (suc k) l e =
    let p = has_place (i + 1) vs v k (omega (arith, l)) e in
    (p.0, (suc p.1.0, omega (arith, p.1.1), p.1.2))

less_is_not : Less ≢ Equal
less_is_not e = cc

greater_is_not : Greater ≢ Equal
greater_is_not e = cc

-- where no place has the hash of a value, it is no member
pub no_hash : (ps : List HashedPlace) (vs : List Value) (v : Value) (i : ℕ) → PlacesMembers ps vs
    → IsBinarySearchResult (λ (p : HashedPlace). nat_cmp p.hash (hash_of v)) ps (Err i) → Contains vs v → ⊥
unfolding place
no_hash ps vs v i places parted m =
    let h = hash_of v in
    let there = has_place 0 vs v m.0 m.1 m.2 in
    let at = Contains-permutation (places_from 0 vs) ps (place there.0 v) places.each there.1 in
    let tied : nat_cmp (get_or ps at.0 (place there.0 v)).hash h ≡ Equal = ap (λ (p : HashedPlace). nat_cmp p.hash h) at.2 ∙ tied_itself nat_cmp_total h in
    let parts = parted (searchable_from_sorted nat_cmp_total (λ (p : HashedPlace). p.hash) ps h places.rising) in
    elim (cases_lt at.0 i) [
      | inl l ↦ less_is_not (sym (parts.0 at.0 (place there.0 v) (omega arith) l) ∙ tied)
      | inr g ↦ greater_is_not (sym (parts.1 at.0 (place there.0 v) g at.1) ∙ tied)
    ]
