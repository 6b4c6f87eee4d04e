-- Places that are told one by one at which position they stand.
use Rattle.std.proofs.Common.{◌≡◌, ℕ, suc, zero, ◌<◌, ◌≤◌, Bool, true, false, ◌||◌, List, [], ◌∷◌, ◌++◌, take, drop, length, get_or, refl, sym, ap, ◌∙◌, true≢false, arith}
use Rattle.std.specs.Prelude.{nat_eq}
use Rattle.std.specs.Cmp.{nat_eq_equiv}
use Rattle.std.proofs.lemmas.Bool.Decides.{Decides-eqb}
use Rattle.cedar_policy_set.specs.ScopeFinding.{is_listed}

-- what is listed stands somewhere
pub listed_there : (ps : List ℕ) (p : ℕ) → is_listed ps p ≡ true → (k : ℕ) × (k < length ps) × (get_or ps k 0 ≡ p)
listed_there [] p h = absurd (true≢false (sym h))
listed_there (q ∷ qs) p h = by (nat_eq p q) refl h (listed_there qs p)
  where
    by : (b : Bool) → nat_eq p q ≡ b → (b || is_listed qs p) ≡ true → (is_listed qs p ≡ true → (k : ℕ) × (k < length qs) × (get_or qs k 0 ≡ p)) → (k : ℕ) × (k < length (q ∷ qs)) × (get_or (q ∷ qs) k 0 ≡ p)
    by true e g rest = (0, omega arith, sym ((Decides-eqb p q).0 e))
    by false e g rest = let (k, within, at) = rest g in (suc k, omega arith, at)

-- what stands somewhere is listed
pub there_listed : (ps : List ℕ) (k p : ℕ) → k < length ps → get_or ps k 0 ≡ p → is_listed ps p ≡ true
there_listed [] k p within at = absurd (let never : ⊥ = omega arith in never)
there_listed (q ∷ qs) zero p within at = ap (λ b. b || is_listed qs p) (ap (nat_eq p) at ∙ nat_eq_equiv.refl p)
there_listed (q ∷ qs) (suc k) p within at = or_later (nat_eq p q) (is_listed qs p) (there_listed qs k p (omega arith) at)
  where
    or_later : (a b : Bool) → b ≡ true → (a || b) ≡ true
    or_later true b h = refl
    or_later false b h = h

-- the first ones are moved, and the others are as they were
pub record AreMoved (f : ℕ → ℕ) (ps qs : List ℕ) (i : ℕ) : Type 0 where
  pub long : length qs ≡ length ps
  pub moved : (k : ℕ) → k < i → get_or qs k 0 ≡ f (get_or ps k 0)
  pub left : (k : ℕ) → i ≤ k → get_or qs k 0 ≡ get_or ps k 0

pub all_moved : (f : ℕ → ℕ) (ps qs : List ℕ) (i : ℕ) → AreMoved f ps qs i → length ps ≤ i → (t : ℕ) → is_listed ps t ≡ true → is_listed qs (f t) ≡ true
all_moved f ps qs i moved all t h =
    let (k, within, at) = listed_there ps t h in
    let long = moved.long in
    there_listed qs k (f t) (omega arith) (moved.moved k (omega arith) ∙ ap f at)

-- none is moved where each one stands where its number says
pub none_moved : (f : ℕ → ℕ) (ps : List ℕ) → ((t : ℕ) → f t ≡ t) → (t : ℕ) → is_listed ps t ≡ true → is_listed ps (f t) ≡ true
none_moved f ps same t h = ap (is_listed ps) (same t) ∙ h

-- a list whose elements were written anew stands where it stood
pub written_back : (qs ps : List ℕ) → length qs ≡ length ps → take (length qs) (qs ++ drop (length qs) ps) ≡ qs
written_back [] ps same = refl
written_back (q ∷ qs) [] same = absurd (let never : ⊥ = omega arith in never)
written_back (q ∷ qs) (p ∷ ps) same = ap (λ rs. q ∷ rs) (written_back qs ps (omega arith))
