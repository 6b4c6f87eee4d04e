-- Conversions and their parts.
use Rattle.std.proofs.Common.{◌≡◌, ◌⊎◌, inl, inr, Option, Some, None, Result, Ok, Err, refl, sym, ap, ◌∙◌, subst}
use Rattle.std.specs.Prelude.{IfSome, IsErr, IsErrAnd}
use Rattle.cedar_grammar.specs.Steps.{◌>>=◌}
use Rattle.cedar_faults.specs.declared.errors.ConversionError.{ConversionError}
use Rattle.cedar_faults.specs.declared.errors.ConversionError.TheVariants as error
use Rattle.cedar_faults.specs.Reasons.{Reason, means_nothing, refused, out_of_memory, reason, IsFault, Gathers}
use Rattle.cedar_faults.specs.Flat.{Flat}
use Rattle.cedar_faults.specs.Converts.{Given, Misses, Converts, Lacks, Finds}
use Rattle.cedar_conversion.specs.SoFar.{SoFar}

-- ---- values that may be there

pub early : {A B : Type 0} (v : Option A) (f : A → Option B) → v ≡ None → (v >>= f) ≡ None
early v f is = ap (λ z. z >>= f) is

pub late : {A B C : Type 0} (v : Option A) (w : Option B) (k : A → B → Option C) → w ≡ None → (v >>= λ x. w >>= λ y. k x y) ≡ None
late None w k is = refl
late (Some x) w k is = ap (λ z. z >>= k x) is

pub never : {A B : Type 0} (v : Option A) (f : A → Option B) → ((x : A) → f x ≡ None) → (v >>= f) ≡ None
never None f h = refl
never (Some x) f h = h x

pub then_some : {A B : Type 0} (v : Option A) (x : A) (f : A → Option B) → v ≡ Some x → (v >>= f) ≡ f x
then_some v x f is = ap (λ z. z >>= f) is

pub both_some : {A B C : Type 0} (v : Option A) (w : Option B) (x : A) (y : B) (k : A → B → Option C) → v ≡ Some x → w ≡ Some y → (v >>= λ x. w >>= λ y. k x y) ≡ k x y
both_some v w x y k p q = then_some v x (λ x. w >>= λ y. k x y) p ∙ then_some w y (k x) q

-- what holds of each value that it may be
pub of_some : {A : Type 0} (q : A → Type 0) (v : Option A) → ((x : A) → v ≡ Some x → q x) → IfSome v q
of_some q None h = tt
of_some q (Some x) h = h x refl

-- what holds of a part holds of what is made of it
pub if_then : {A B : Type 0} (p : A → Type 0) (q : B → Type 0) (v : Option A) (f : A → Option B) → ((x : A) (z : B) → f x ≡ Some z → p x → q z) → IfSome v p → IfSome (v >>= f) q
if_then p q None f k h = tt
if_then p q (Some x) f k h = of_some q (f x) (λ z e. k x z e h)

pub if_both : {A B C : Type 0} (p : B → Type 0) (q : C → Type 0) (v : Option A) (w : Option B) (k : A → B → Option C) → ((x : A) (y : B) (z : C) → k x y ≡ Some z → p y → q z) → IfSome w p → IfSome (v >>= λ x. w >>= λ y. k x y) q
if_both p q None w k h u = tt
if_both p q (Some x) w k h u = if_then p q w (k x) (h x) u

on_refusal : {R : Type 0} {P Q : Type 0} (o : Option R) → (P → Q) → IfSome o (λ r. P) → IfSome o (λ r. Q)
on_refusal None f h = tt
on_refusal (Some r) f h = f h

-- what lacks is a fault
pub is_fault : {B W : Type 0} (e : ConversionError B) (want : Option W) → Lacks (reason e) want → IsFault e
is_fault (error.Faults fs) want h = tt
is_fault (error.Builder b) want h = absurd h
is_fault error.Memory want h = tt

module _ {B R : Type 0} (refusal : B → Option R) where
  -- ---- one part

  -- faults where there is nothing to give
  pub faulty : {W : Type 0} (p : W → Type 0) (e : ConversionError B) (want : Option W) → IsFault e → want ≡ None → Misses p refusal (reason e) want
  faulty p (error.Faults fs) want h is = is
  faulty p (error.Builder b) want h is = absurd h
  faulty p error.Memory want h is = tt

  pub memory : {W : Type 0} (p : W → Type 0) (r : Reason B) (want : Option W) → r ≡ out_of_memory → Misses p refusal r want
  memory p means_nothing want h = cc
  memory p (refused b) want h = cc
  memory p out_of_memory want h = tt

  pub misses_more : {V W : Type 0} (p : V → Type 0) (q : W → Type 0) (r : Reason B) (v : Option V) (w : Option W) → (v ≡ None → w ≡ None) → (IfSome v p → IfSome w q) → Misses p refusal r v → Misses q refusal r w
  misses_more p q means_nothing v w none handed u = none u
  misses_more p q (refused b) v w none handed u = on_refusal (refusal b) handed u
  misses_more p q out_of_memory v w none handed u = tt

  -- what should be given, said in another way
  pub same_as : {E W : Type 0} (stands : E → W → Type 0) (p : W → Type 0) (r : Result E (ConversionError B)) (v w : Option W) → w ≡ v → Converts stands p refusal r v → Converts stands p refusal r w
  same_as stands p r v w is given = subst (λ x. Converts stands p refusal r x) (sym is) given

  -- a failure that is handed on
  pub passed : {E W : Type 0} (stands : E → W → Type 0) (p : W → Type 0) (r : Result E (ConversionError B)) (e : ConversionError B) (want : Option W) → IsErr r × IsErrAnd r (λ y. y ≡ e) → Misses p refusal (reason e) want → Converts stands p refusal r want
  passed stands p (Ok x) e want err u = absurd err.1
  passed stands p (Err y) e want err u = subst (λ z. Misses p refusal (reason z) want) (sym err.1) u

  pub lacks_misses : {W : Type 0} (p : W → Type 0) (r : Reason B) (want : Option W) → Lacks r want → Misses p refusal r want
  lacks_misses p means_nothing want h = h
  lacks_misses p (refused b) want h = absurd h
  lacks_misses p out_of_memory want h = tt

  -- the same, where nothing is built of the part
  pub lacks_more : {V W : Type 0} (p : W → Type 0) (r : Reason B) (v : Option V) (w : Option W) → (v ≡ None → w ≡ None) → Lacks r v → Misses p refusal r w
  lacks_more p means_nothing v w none h = none h
  lacks_more p (refused b) v w none h = absurd h
  lacks_more p out_of_memory v w none h = tt

  -- a leaf stands for what is seen of it, and no builder refuses it
  pub found : {E W : Type 0} (seen : E → W) (r : Result E (ConversionError B)) (w : Option W) → Finds seen r w → Converts (λ e s. seen e ≡ s) (λ s. ⊥) refusal r w
  found seen (Ok e) w h = record { value = seen e; is = h; stands = refl }
  found seen (Err f) w h = lacks_misses (λ s. ⊥) (reason f) w h

  -- a part that fails, and what follows it
  pub failed : {V W : Type 0} (p : V → Type 0) (q : W → Type 0) (r : Reason B) (v : Option V) (f : V → Option W) → ((x : V) (z : W) → f x ≡ Some z → p x → q z) → Misses p refusal r v → Misses q refusal r (v >>= f)
  failed p q r v f k u = misses_more p q r v (v >>= f) (early v f) (if_then p q v f k) u

  -- ---- two parts

  module _ {V W U : Type 0} (p : V → Type 0) (q : W → Type 0) (s : U → Type 0) (k : V → W → Option U) where
    -- where the first is refused, or the second, so is the whole
    abbrev pub HandsOn : Type 0
    HandsOn = ((x : V) (y : W) (z : U) → k x y ≡ Some z → p x → s z) × ((x : V) (y : W) (z : U) → k x y ≡ Some z → q y → s z)

    pub first_misses : (r : Reason B) (v : Option V) (w : Option W) → HandsOn → Misses p refusal r v → Misses s refusal r (v >>= λ x. w >>= λ y. k x y)
    first_misses r v w on hv = misses_more p s r v (v >>= λ x. w >>= λ y. k x y) (early v (λ x. w >>= λ y. k x y)) (if_then p s v (λ x. w >>= λ y. k x y) (λ x z e h. by x z w e h)) hv
      where
        by : (x : V) (z : U) (w : Option W) → (w >>= λ y. k x y) ≡ Some z → p x → s z
        by x z None e h = cc
        by x z (Some y) e h = on.0 x y z e h

    pub second_misses : (r : Reason B) (v : Option V) (w : Option W) → HandsOn → Misses q refusal r w → Misses s refusal r (v >>= λ x. w >>= λ y. k x y)
    second_misses r v w on hw = misses_more q s r w (v >>= λ x. w >>= λ y. k x y) (late v w k) (if_both q s v w k on.1) hw

    pub misses_both : (r t u : Reason B) (v : Option V) (w : Option W) → HandsOn → Gathers r t u → Misses p refusal r v → Misses q refusal t w → Misses s refusal u (v >>= λ x. w >>= λ y. k x y)
    misses_both r t out_of_memory v w on g hv hw = tt
    misses_both means_nothing t means_nothing v w on g hv hw = early v (λ x. w >>= λ y. k x y) hv
    misses_both (refused b) means_nothing means_nothing v w on g hv hw = late v w k hw
    misses_both (refused b) (refused c) means_nothing v w on g hv hw = cc
    misses_both (refused b) out_of_memory means_nothing v w on g hv hw = cc
    misses_both out_of_memory t means_nothing v w on g hv hw = cc
    misses_both means_nothing means_nothing (refused d) v w on g hv hw = cc
    misses_both means_nothing (refused c) (refused d) v w on g hv hw = cc
    misses_both means_nothing out_of_memory (refused d) v w on g hv hw = cc
    misses_both (refused b) means_nothing (refused d) v w on g hv hw = cc
    misses_both (refused b) (refused c) (refused d) v w on g hv hw = first_misses (refused d) v w on (subst (λ z. Misses p refusal z v) (sym g) hv)
    misses_both (refused b) out_of_memory (refused d) v w on g hv hw = cc
    misses_both out_of_memory t (refused d) v w on g hv hw = cc

  module _ {D E V W : Type 0} (m : D → V → Type 0) (p : V → Type 0) (n : E → W → Type 0) (q : W → Type 0) where
    -- where the two together fail
    pub flat_err : {U : Type 0} (s : U → Type 0) (k : V → W → Option U) → HandsOn p q s k → (a : Result D (ConversionError B)) (b : Result E (ConversionError B)) (e : ConversionError B) (v : Option V) (w : Option W)
        → Flat a b (Err e) → Converts m p refusal a v → Converts n q refusal b w → Misses s refusal (reason e) (v >>= λ x. w >>= λ y. k x y)
    flat_err s k on (Ok a) (Ok b) e v w flat hv hw = absurd (cc flat)
    flat_err s k on (Ok a) (Err d) e v w flat hv hw = let same : e ≡ d = cc flat in second_misses p q s k (reason e) v w on (subst (λ z. Misses q refusal (reason z) w) (sym same) hw)
    flat_err s k on (Err d) (Ok b) e v w flat hv hw = let same : e ≡ d = cc flat in first_misses p q s k (reason e) v w on (subst (λ z. Misses p refusal (reason z) v) (sym same) hv)
    flat_err s k on (Err d) (Err d') e v w flat hv hw = misses_both p q s k (reason d) (reason d') (reason e) v w on flat.0 hv hw

    -- where both are given
    pub flat_ok : (a : Result D (ConversionError B)) (b : Result E (ConversionError B)) (c : D × E) (v : Option V) (w : Option W)
        → Flat a b (Ok c) → Converts m p refusal a v → Converts n q refusal b w → Given m c.0 v × Given n c.1 w
    flat_ok (Ok a) (Ok b) c v w flat hv hw = let same : c ≡ (a, b) = cc flat in (subst (λ z. Given m z v) (sym (ap (λ z. z.0) same)) hv, subst (λ z. Given n z w) (sym (ap (λ z. z.1) same)) hw)
    flat_ok (Ok a) (Err d) c v w flat hv hw = absurd (cc flat)
    flat_ok (Err d) (Ok b) c v w flat hv hw = absurd (cc flat)
    flat_ok (Err d) (Err d') c v w flat hv hw = absurd flat

    abbrev pub Both : D × E → V × W → Type 0
    Both c z = m c.0 z.0 × n c.1 z.1

    -- one of the two is refused
    abbrev pub Either : V × W → Type 0
    Either z = p z.0 ⊎ q z.1

    -- the two together, as one
    pub flat_pair : (s : V × W → Type 0) → HandsOn p q s (λ x y. Some (x, y)) → (a : Result D (ConversionError B)) (b : Result E (ConversionError B)) (r : Result (D × E) (ConversionError B)) (v : Option V) (w : Option W)
        → Flat a b r → Converts m p refusal a v → Converts n q refusal b w → Converts {W = V × W} Both s refusal r (v >>= λ x. w >>= λ y. Some (x, y))
    flat_pair s on a b (Ok c) v w flat hv hw =
        let h = flat_ok a b c v w flat hv hw in
        record { value = (h.0.value, h.1.value); is = both_some v w h.0.value h.1.value (λ x y. Some (x, y)) h.0.is h.1.is; stands = (h.0.stands, h.1.stands) }
    flat_pair s on a b (Err e) v w flat hv hw = flat_err s (λ x y. Some (x, y)) on a b e v w flat hv hw

    either_handed : HandsOn p q Either (λ x y. Some (x, y))
    either_handed = ((λ x y z e h. let same : (x, y) ≡ z = cc e in subst Either same (inl h)), (λ x y z e h. let same : (x, y) ≡ z = cc e in subst Either same (inr h)))

    pub flat_both : (a : Result D (ConversionError B)) (b : Result E (ConversionError B)) (r : Result (D × E) (ConversionError B)) (v : Option V) (w : Option W)
        → Flat a b r → Converts m p refusal a v → Converts n q refusal b w → Converts {W = V × W} Both Either refusal r (v >>= λ x. w >>= λ y. Some (x, y))
    flat_both a b r v w flat hv hw = flat_pair Either either_handed a b r v w flat hv hw

-- ---- three parts

pub three : {A B C D : Type 0} (u : Option A) (v : Option B) (w : Option C) (k : A → B → C → Option D)
    → (u >>= λ x. v >>= λ y. w >>= λ z. k x y z) ≡ (u >>= λ x. (v >>= λ y. w >>= λ z. let p : Option (B × C) = Some (y, z) in p) >>= λ q. k x q.0 q.1)
three None v w k = refl
three (Some x) None w k = refl
three (Some x) (Some y) None k = refl
three (Some x) (Some y) (Some z) k = refl

-- ---- chains

pub then_then : {A B C : Type 0} (v : Option A) (k : A → Option B) (f : B → Option C) → (v >>= λ x. k x >>= f) ≡ (v >>= k >>= f)
then_then None k f = refl
then_then (Some x) k f = refl

pub join_then : {A B C D : Type 0} (v : Option A) (w : Option B) (k : A → B → Option C) (f : C → Option D) → (v >>= λ x. w >>= λ y. k x y >>= f) ≡ ((v >>= λ x. w >>= λ y. k x y) >>= f)
join_then None w k f = refl
join_then (Some x) None k f = refl
join_then (Some x) (Some y) k f = refl

pub then_it : {A : Type 0} (v : Option A) → (v >>= Some) ≡ v
then_it None = refl
then_it (Some x) = refl

module _ {B R : Type 0} (refusal : B → Option R) where
  -- one step of a loop whose state is a part that may fail
  pub step_so : {D E V W U : Type 0} (m : D → V → Type 0) (p : V → Type 0) (n : E → W → Type 0) (q : W → Type 0) (whole : Result D (ConversionError B)) (whole' : Result E (ConversionError B)) (want : Option U) (k : V → Option W) (rest : W → Option U)
      → SoFar m p refusal whole want (λ x. k x >>= rest) → ((v : Option V) → Converts m p refusal whole v → Converts n q refusal whole' (v >>= k)) → SoFar n q refusal whole' want rest
  step_so m p n q whole whole' want k rest s step = record { value = s.value >>= k; is = step s.value s.is; same = s.same ∙ then_then s.value k rest }

  -- the same, where the step joins the next part
  pub more_so : {E W U : Type 0} (m : E → W → Type 0) (p : W → Type 0) (whole next whole' : Result E (ConversionError B)) (want : Option U) (w : Option W) (k : W → W → Option W) (rest : W → Option U)
      → SoFar m p refusal whole want (λ x. w >>= λ y. k x y >>= rest) → ((v u : Option W) → Converts m p refusal whole v → Converts m p refusal next u → Converts m p refusal whole' (v >>= λ x. u >>= λ y. k x y)) → Converts m p refusal next w → SoFar m p refusal whole' want rest
  more_so m p whole next whole' want w k rest s join given = record { value = s.value >>= λ x. w >>= λ y. k x y; is = join s.value w s.is given; same = s.same ∙ join_then s.value w k rest }

  pub all_so : {E W : Type 0} (m : E → W → Type 0) (p : W → Type 0) (whole : Result E (ConversionError B)) (want : Option W) → SoFar m p refusal whole want Some → Converts m p refusal whole want
  all_so m p whole want s = same_as refusal m p whole s.value want (s.same ∙ then_it s.value) s.is
