-- What two parts give together.
use Rattle.std.proofs.Common.{◌≡◌, ◌+◌, ◌<◌, ℕ, List, [], ◌∷◌, ◌++◌, map, take, length, get_or, Option, Some, None, Result, Ok, Err, refl, sym, ap, ◌∙◌, subst}
use Rattle.std.proofs.lemmas.List.{map-append, take_more}
use Rattle.std.specs.Prelude.{IsErr, IsErrAnd}
use Rattle.cedar_grammar.specs.Steps.{◌>>=◌}
use Rattle.cedar_faults.specs.declared.errors.ConversionError.{ConversionError}
use Rattle.cedar_faults.specs.declared.errors.ConversionError.TheVariants as error
use Rattle.cedar_faults.specs.Reasons.{Reason, means_nothing, refused, out_of_memory, reason, IsFault, Gathers}
use Rattle.cedar_faults.specs.Flat.{Flat}
use Rattle.cedar_faults.specs.Converts.{Lacks, Finds}

-- both values, where both are there
abbrev pub paired : {V W : Type 0} → Option V → Option W → Option (V × W)
paired v w = v >>= λ x. w >>= λ y. Some (x, y)

pub no_first : {V W U : Type 0} (v : Option V) (w : Option W) (k : V → W → Option U) → v ≡ None → (v >>= λ x. w >>= λ y. k x y) ≡ None
no_first v w k is = ap (λ z. z >>= λ x. w >>= λ y. k x y) is

pub no_second : {V W U : Type 0} (v : Option V) (w : Option W) (k : V → W → Option U) → w ≡ None → (v >>= λ x. w >>= λ y. k x y) ≡ None
no_second None w k is = refl
no_second (Some x) w k is = ap (λ z. z >>= k x) is

-- what is made of both
pub no_pair : {V W U : Type 0} (v : Option V) (w : Option W) (k : V → W → Option U) → paired v w ≡ None → (v >>= λ x. w >>= λ y. k x y) ≡ None
no_pair None w k h = refl
no_pair (Some x) None k h = refl
no_pair (Some x) (Some y) k h = cc

at_pair : {V W U : Type 0} (k : V → W → Option U) (q r : V × W) → q ≡ r → k (q.0) (q.1) ≡ k (r.0) (r.1)
at_pair k q r e = ap (λ z. k (z.0) (z.1)) e

pub a_pair : {V W U : Type 0} (v : Option V) (w : Option W) (k : V → W → Option U) (p : V × W) → paired v w ≡ Some p → (v >>= λ x. w >>= λ y. k x y) ≡ k (p.0) (p.1)
a_pair None w k p h = cc
a_pair (Some x) None k p h = cc
a_pair (Some x) (Some y) k p h = let same : (x, y) ≡ p = cc in at_pair k (x, y) p same

module _ {B : Type 0} where
  pub lacks_more : {V W : Type 0} (r : Reason B) (v : Option V) (w : Option W) → (v ≡ None → w ≡ None) → Lacks r v → Lacks r w
  lacks_more means_nothing v w none h = none h
  lacks_more (refused b) v w none h = h
  lacks_more out_of_memory v w none h = tt

  -- faults where there is nothing to give
  pub faulty : {W : Type 0} (e : ConversionError B) (want : Option W) → IsFault e → want ≡ None → Lacks (reason e) want
  faulty (error.Faults fs) want h is = is
  faulty (error.Builder b) want h is = absurd h
  faulty error.Memory want h is = tt

  -- a failure that is handed on
  pub passed : {A W : Type 0} (seen : A → W) (r : Result A (ConversionError B)) (e : ConversionError B) (want : Option W) → IsErr r × IsErrAnd r (λ y. y ≡ e) → Lacks (reason e) want → Finds seen r want
  passed seen (Ok x) e want err h = absurd err.1
  passed seen (Err y) e want err h = subst (λ z. Lacks (reason z) want) (sym err.1) h

  lacks_both : {V W : Type 0} (r s t : Reason B) (v : Option V) (w : Option W) → Gathers r s t → Lacks r v → Lacks s w → Lacks t (paired v w)
  lacks_both r s out_of_memory v w g hv hw = tt
  lacks_both means_nothing s means_nothing v w g hv hw = no_first v w (λ x y. Some (x, y)) hv
  lacks_both (refused b) s means_nothing v w g hv hw = absurd hv
  lacks_both out_of_memory s means_nothing v w g hv hw = cc
  lacks_both means_nothing means_nothing (refused d) v w g hv hw = cc
  lacks_both means_nothing (refused c) (refused d) v w g hv hw = cc
  lacks_both means_nothing out_of_memory (refused d) v w g hv hw = cc
  lacks_both (refused b) s (refused d) v w g hv hw = hv
  lacks_both out_of_memory s (refused d) v w g hv hw = cc

  -- two parts give both, or what the failing ones fail by
  pub both_found : {A C V W : Type 0} (f : A → V) (g : C → W) (a : Result A (ConversionError B)) (c : Result C (ConversionError B)) (r : Result (A × C) (ConversionError B)) (v : Option V) (w : Option W)
      → Flat a c r → Finds f a v → Finds g c w → Finds (λ p. (f p.0, g p.1)) r (paired v w)
  both_found f g (Ok a) (Ok c) r v w flat hv hw =
      subst (λ z. Finds (λ p. (f p.0, g p.1)) z (paired v w)) (sym flat) (ap (λ z. z >>= λ x. w >>= λ y. Some (x, y)) hv ∙ ap (λ z. z >>= λ y. Some (f a, y)) hw)
  both_found f g (Ok a) (Err e) r v w flat hv hw =
      subst (λ z. Finds (λ p. (f p.0, g p.1)) z (paired v w)) (sym flat) (lacks_more (reason e) w (paired v w) (no_second v w (λ x y. Some (x, y))) hw)
  both_found f g (Err e) (Ok c) r v w flat hv hw =
      subst (λ z. Finds (λ p. (f p.0, g p.1)) z (paired v w)) (sym flat) (lacks_more (reason e) v (paired v w) (no_first v w (λ x y. Some (x, y))) hv)
  both_found f g (Err e) (Err d) (Ok p) v w flat hv hw = absurd flat
  both_found f g (Err e) (Err d) (Err b) v w flat hv hw = lacks_both (reason e) (reason d) (reason b) v w flat.0 hv hw

ap_first : {A C : Type 0} (p q : A × C) → p ≡ q → p.0 ≡ q.0
ap_first p q e = ap (λ z. z.0) e

ap_second : {A C : Type 0} (p q : A × C) → p ≡ q → p.1 ≡ q.1
ap_second p q e = ap (λ z. z.1) e

-- where both are given
pub flat_ok : {A C B : Type 0} (a : Result A (ConversionError B)) (c : Result C (ConversionError B)) (p : A × C) → Flat a c (Ok p) → (a ≡ Ok (p.0)) × (c ≡ Ok (p.1))
flat_ok (Ok a) (Ok c) p flat = let same : p ≡ (a, c) = cc in (ap (λ z. Ok z) (sym (ap_first p (a, c) same)), ap (λ z. Ok z) (sym (ap_second p (a, c) same)))
flat_ok (Ok a) (Err e) p flat = cc
flat_ok (Err e) (Ok c) p flat = cc
flat_ok (Err e) (Err d) p flat = absurd flat

-- ---- where a loop stands

pub seen_more : {A C : Type 0} (seen : A → C) (l l' : List A) (i : ℕ) (x : A) → l' ≡ l → i < length l' → x ≡ get_or l' i x → map seen (take (i + 1) l) ≡ map seen (take i l) ++ seen x ∷ []
seen_more seen l l' i x same lt is =
    ap (map seen) (take_more l i x (subst (λ z. i < length z) same lt))
    ∙ map-append seen (take i l) (get_or l i x ∷ [])
    ∙ ap (λ z. map seen (take i l) ++ seen z ∷ []) (sym (is ∙ ap (λ z. get_or z i x) same))
