-- The policies that stand at positions which rise, where all others may be left out.
use Rattle.std.proofs.Common.{◌≡◌, ◌⊎◌, inl, inr, ℕ, zero, suc, ◌<◌, Bool, true, false, ◌||◌, Some, None, List, [], ◌∷◌, map, refl, sym, ◌∙◌, ap, subst, arith, if◌then◌else◌, true≢false}
use Rattle.std.specs.Prelude.{nat_eq}
use Rattle.std.specs.List.{cons_option, slice_get, AllByRecursion, IsDistinct}
use Rattle.std.specs.Map.{keys_of}
use Rattle.std.specs.List.Sorted.{IsStrictlyIncreasing, IsStrictlySortedBy}
use Rattle.std.specs.Ordering.{nat_cmp}
use Rattle.std.specs.declared.cmp.Ordering.TheVariants.{Less}
use Rattle.std.proofs.Math.Dec.{eqb-suc-suc, eqb-suc-zero, eqb-zero-suc}
use Rattle.std.proofs.lemmas.Cmp.{ranked}
use Rattle.std.proofs.lemmas.Map.Keys.{sorted_from_strictly_increasing, IsDistinct-head, IsDistinct-tail, IsDistinct-cons}
use Rattle.cedar_language.specs.Order.{same_text}
use Rattle.cedar_language.specs.Uid.{Text}
use Rattle.cedar_policy_set.specs.Entries.{Entry, Entries, is_policy, policies_of}
use Rattle.cedar_policy_set.specs.Scopes.{policy_stood}
use Rattle.cedar_policy_set.specs.ScopeFinding.{is_listed}
use Rattle.cedar_evaluator.specs.Candidates.{policies_at}

-- the second list is the first without some that may be left out
pub data Thinned (Out : Entry → Type 0) : Entries → Entries → Type 0 where
  nothing : Thinned Out [] []
  kept : (e : Text × Entry) {es fs : Entries} → Thinned Out es fs → Thinned Out (e ∷ es) (e ∷ fs)
  left_out : (e : Text × Entry) {es fs : Entries} → Out e.1 → Thinned Out es fs → Thinned Out (e ∷ es) fs

-- ---- no id stands twice in it where none does in the first

all_thinned : {Out : Entry → Type 0} {es fs : Entries} (P : Text → Type 0) → Thinned Out es fs → AllByRecursion P (keys_of es) → AllByRecursion P (keys_of fs)
all_thinned P nothing all = all
all_thinned P (kept e rest) all = (all.0, all_thinned P rest all.1)
all_thinned P (left_out e out rest) all = all_thinned P rest all.1

pub thin_apart : {Out : Entry → Type 0} {es fs : Entries} → Thinned Out es fs → IsDistinct same_text (keys_of es) → IsDistinct same_text (keys_of fs)
thin_apart nothing apart = apart
thin_apart (kept e {es = es} {fs = fs} rest) apart =
    IsDistinct-cons same_text e.0 (keys_of fs) (all_thinned (λ id. same_text e.0 id ≡ false) rest (IsDistinct-head same_text e.0 (keys_of es) apart)) (thin_apart rest (IsDistinct-tail same_text e.0 (keys_of es) apart))
thin_apart (left_out e {es = es} out rest) apart = thin_apart rest (IsDistinct-tail same_text e.0 (keys_of es) apart)

-- ---- all but the first

Rises : List ℕ → Type 0
Rises [] = Unit {0}
Rises (p ∷ ps) = AllByRecursion (λ q. p < q) ps × Rises ps

data Shifted : List ℕ → Type 0 where
  without_first : (qs : List ℕ) → Rises qs → Shifted (map suc qs)
  with_first : (qs : List ℕ) → Rises qs → Shifted (0 ∷ map suc qs)

raised : (ps : List ℕ) (p : ℕ) → AllByRecursion (λ q. p < q) ps → (qs : List ℕ) × (ps ≡ map suc qs)
raised [] p h = ([], refl)
raised (zero ∷ ps) p h = absurd (omega (arith, h.0))
raised (suc q ∷ ps) p h = let (qs, is) = raised ps p h.1 in (q ∷ qs, ap (λ l. suc q ∷ l) is)

lowered_all : (p : ℕ) (qs : List ℕ) → AllByRecursion (λ q. suc p < q) (map suc qs) → AllByRecursion (λ q. p < q) qs
lowered_all p [] h = tt
lowered_all p (q ∷ qs) h = (omega (arith, h.0), lowered_all p qs h.1)

lowered : (qs : List ℕ) → Rises (map suc qs) → Rises qs
unfolding Rises
lowered [] h = tt
lowered (q ∷ qs) h = (lowered_all q qs h.0, lowered qs h.1)

shifted : (ps : List ℕ) → Rises ps → Shifted ps
unfolding Rises
shifted [] h = without_first [] tt
shifted (zero ∷ ps) h =
    let (qs, is) = raised ps zero h.0 in
    subst (λ l. Shifted (zero ∷ l)) (sym is) (with_first qs (lowered qs (subst Rises is h.1)))
shifted (suc p ∷ ps) h =
    let (qs, is) = raised ps (suc p) h.0 in
    subst (λ l. Shifted (suc p ∷ l)) (sym is) (without_first (p ∷ qs) (lowered (p ∷ qs) (subst (λ l. Rises (suc p ∷ l)) is h)))

all_above : (p : ℕ) (ps : List ℕ) → AllByRecursion (λ q. nat_cmp p q ≡ Less) ps → AllByRecursion (λ q. p < q) ps
all_above p [] h = tt
all_above p (q ∷ ps) h = (ranked p q Less (sym h.0), all_above p ps h.1)

rises : (ps : List ℕ) → IsStrictlySortedBy nat_cmp ps → Rises ps
unfolding Rises IsStrictlySortedBy
rises [] h = tt
rises (p ∷ ps) h = (all_above p ps h.0, rises ps h.1)

-- ---- which are listed

raised_same : (qs : List ℕ) (p : ℕ) → is_listed (map suc qs) (suc p) ≡ is_listed qs p
raised_same [] p = refl
raised_same (q ∷ qs) p = ap (λ b. b || is_listed (map suc qs) (suc p)) (eqb-suc-suc p q) ∙ ap (λ b. nat_eq p q || b) (raised_same qs p)

none_first : (qs : List ℕ) → is_listed (map suc qs) 0 ≡ true → ⊥
none_first [] h = true≢false (sym h)
none_first (q ∷ qs) h = none_first qs (subst (λ b. (b || is_listed (map suc qs) 0) ≡ true) (eqb-zero-suc q) h)

among_behind : (qs : List ℕ) (p : ℕ) → is_listed (0 ∷ map suc qs) (suc p) ≡ true → is_listed (map suc qs) (suc p) ≡ true
among_behind qs p h = subst (λ b. (b || is_listed (map suc qs) (suc p)) ≡ true) (eqb-suc-zero p) h

module _ (Out : Entry → Type 0) where
  -- each policy stands at one of these positions, or may be left out
  abbrev pub LeavesOut : Entries → List ℕ → Type 0
  LeavesOut es ps = (p : ℕ) (e : Text × Entry) → slice_get es p ≡ Some e → is_policy e.1 ≡ true → (is_listed ps p ≡ true) ⊎ Out e.1

  behind : (p : ℕ) (qs : List ℕ) (e : Entry) → (is_listed (map suc qs) (suc p) ≡ true) ⊎ Out e → (is_listed qs p ≡ true) ⊎ Out e
  behind p qs e (inl h) = inl (sym (raised_same qs p) ∙ h)
  behind p qs e (inr h) = inr h

  behind_first : (p : ℕ) (qs : List ℕ) (e : Entry) → (is_listed (0 ∷ map suc qs) (suc p) ≡ true) ⊎ Out e → (is_listed qs p ≡ true) ⊎ Out e
  behind_first p qs e (inl h) = inl (sym (raised_same qs p) ∙ among_behind qs p h)
  behind_first p qs e (inr h) = inr h

  not_listed : (qs : List ℕ) (e : Entry) → (is_listed (map suc qs) 0 ≡ true) ⊎ Out e → Out e
  not_listed qs e (inl h) = absurd (none_first qs h)
  not_listed qs e (inr h) = h

  at_raised : (e : Text × Entry) (es : Entries) (qs : List ℕ) → policies_at (e ∷ es) (map suc qs) ≡ policies_at es qs
  at_raised e es [] = refl
  at_raised e es (q ∷ qs) = ap (cons_option (policy_stood (slice_get es q))) (at_raised e es qs)

  at_none : (ps : List ℕ) → policies_at [] ps ≡ []
  at_none [] = refl
  at_none (p ∷ ps) = at_none ps

  module _ (e : Text × Entry) (es : Entries) (rest : (qs : List ℕ) → Rises qs → LeavesOut es qs → Thinned Out (policies_of es) (policies_at es qs)) where
    skipped : (qs : List ℕ) → Rises qs → LeavesOut (e ∷ es) (map suc qs) → (b : Bool) → is_policy e.1 ≡ b → Thinned Out (if b then e ∷ policies_of es else policies_of es) (policies_at es qs)
    skipped qs rise out true is = left_out e (not_listed qs e.1 (out 0 e refl is)) (rest qs rise (λ p f at is_one. behind p qs f.1 (out (suc p) f at is_one)))
    skipped qs rise out false is = rest qs rise (λ p f at is_one. behind p qs f.1 (out (suc p) f at is_one))

    taken : (qs : List ℕ) → Rises qs → LeavesOut (e ∷ es) (0 ∷ map suc qs) → (b : Bool) → Thinned Out (if b then e ∷ policies_of es else policies_of es) (cons_option (if b then Some e else None) (policies_at es qs))
    taken qs rise out true = kept e (rest qs rise (λ p f at is_one. behind_first p qs f.1 (out (suc p) f at is_one)))
    taken qs rise out false = rest qs rise (λ p f at is_one. behind_first p qs f.1 (out (suc p) f at is_one))

    thinned_more : {ps : List ℕ} → Shifted ps → LeavesOut (e ∷ es) ps → Thinned Out (policies_of (e ∷ es)) (policies_at (e ∷ es) ps)
    thinned_more (without_first qs rise) out = subst (Thinned Out (policies_of (e ∷ es))) (sym (at_raised e es qs)) (skipped qs rise out (is_policy e.1) refl)
    thinned_more (with_first qs rise) out =
        subst (λ fs. Thinned Out (policies_of (e ∷ es)) (cons_option (if is_policy e.1 then Some e else None) fs)) (sym (at_raised e es qs)) (taken qs rise out (is_policy e.1))

  thinned_by : (es : Entries) (ps : List ℕ) → Rises ps → LeavesOut es ps → Thinned Out (policies_of es) (policies_at es ps)
  thinned_by [] ps rise out = subst (Thinned Out []) (sym (at_none ps)) nothing
  thinned_by (e ∷ es) ps rise out = thinned_more e es (λ qs. thinned_by es qs) (shifted ps rise) out

  -- the policies that stand there are all policies but for some that may be left out
  pub thinned : (es : Entries) (ps : List ℕ) → IsStrictlyIncreasing ps → LeavesOut es ps → Thinned Out (policies_of es) (policies_at es ps)
  thinned es ps rise out = thinned_by es ps (rises ps (sorted_from_strictly_increasing ps rise)) out
