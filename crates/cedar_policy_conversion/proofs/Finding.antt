-- What is found of several parts together.
use Rattle.std.proofs.Common.{◌≡◌, List, [], ◌∷◌, ◌++◌, Option, Some, None, Result, Ok, Err, refl, sym, ap, subst}
use Rattle.std.specs.Prelude.{⊤, IsErr, IsErrAnd}
use Rattle.cedar_grammar.specs.Steps.{◌>>=◌}
use Rattle.cedar_faults.specs.declared.errors.ConversionError.{ConversionError}
use Rattle.cedar_faults.specs.declared.errors.ConversionError.TheVariants as error
use Rattle.cedar_faults.specs.Reasons.{Reason, IsFault, gathered, means_nothing, refused, out_of_memory, reason}
use Rattle.cedar_faults.specs.Flat.{Flat, FailsByAll, Attains, all_gathered, failing}
use Rattle.cedar_faults.proofs.Gathering.{two_fail}
use Rattle.cedar_faults.specs.Converts.{Finds, Lacks}

-- faults where there is nothing
pub nothing : {B W : Type 0} (e : ConversionError B) (want : Option W) → IsFault e → want ≡ None → Lacks (reason e) want
nothing (error.Faults fs) want h is = is
nothing (error.Builder b) want h is = absurd h
nothing error.Memory want h is = tt

-- what lacks is a fault
pub is_fault : {B W : Type 0} (e : ConversionError B) (want : Option W) → Lacks (reason e) want → IsFault e
is_fault (error.Faults fs) want h = tt
is_fault (error.Builder b) want h = absurd h
is_fault error.Memory want h = tt

-- what lacks one thing lacks what needs it
pub through : {B V W : Type 0} (r : Reason B) (v : Option V) (want : Option W) → Lacks r v → (v ≡ None → want ≡ None) → Lacks r want
through means_nothing v want h k = k h
through (refused b) v want h k = absurd h
through out_of_memory v want h k = tt

-- the fault that takes another one's place
pub replaced : {B W : Type 0} (d e : ConversionError B) (want : Option W) → Lacks (reason d) want → IsFault e → (reason d ≡ out_of_memory → reason e ≡ out_of_memory) → Lacks (reason e) want
replaced (error.Faults fs) e want h f m = nothing e want f h
replaced (error.Builder b) e want h f m = absurd h
replaced error.Memory e want h f m = subst (λ r. Lacks r want) (sym (m refl)) tt

-- a failure that is handed on
pub passed : {E B W : Type 0} (seen : E → W) (r : Result E (ConversionError B)) (e : ConversionError B) (want : Option W) → IsErr r × IsErrAnd r (λ y. y ≡ e) → Lacks (reason e) want → Finds seen r want
passed seen (Ok x) e want err h = absurd err.1
passed seen (Err y) e want err h = subst (λ z. Lacks (reason z) want) (sym err.1) h

-- what is found, where the same is said in another way
pub same_as : {E B W : Type 0} (seen : E → W) (r : Result E (ConversionError B)) (v want : Option W) → want ≡ v → Finds seen r v → Finds seen r want
same_as seen r v want is h = subst (λ w. Finds seen r w) (sym is) h

pub early : {A B : Type 0} (v : Option A) (f : A → Option B) → v ≡ None → (v >>= f) ≡ None
early v f is = ap (λ o. o >>= f) is

pub late : {A B C : Type 0} (v : Option A) (w : Option B) (k : A → B → Option C) → w ≡ None → (v >>= λ x. w >>= λ y. k x y) ≡ None
late None w k is = refl
late (Some x) w k is = ap (λ o. o >>= k x) is

-- what is found where something is
pub found : {E B W : Type 0} (seen : E → W) (a : Result E (ConversionError B)) (v : Option W) (x : E) → Finds seen a v → a ≡ Ok x → v ≡ Some (seen x)
found seen a v x h is = subst (λ r. Finds seen r v) is h

pub lacks : {E B W : Type 0} (seen : E → W) (a : Result E (ConversionError B)) (v : Option W) (e : ConversionError B) → Finds seen a v → a ≡ Err e → Lacks (reason e) v
lacks seen a v e h is = subst (λ r. Finds seen r v) is h

-- ---- several parts

abbrev pub AllLack : {B W : Type 0} → List (ConversionError B) → Option W → Type 0
AllLack [] want = ⊤
AllLack (e ∷ es) want = Lacks (reason e) want × AllLack es want

both_lack : {B W : Type 0} (r s : Reason B) (want : Option W) → Lacks r want → Lacks s want → Lacks (gathered r s) want
both_lack out_of_memory s want h k = tt
both_lack means_nothing out_of_memory want h k = tt
both_lack means_nothing means_nothing want h k = h
both_lack means_nothing (refused f) want h k = absurd k
both_lack (refused e) s want h k = absurd h

all_lack : {B W : Type 0} (r : Reason B) (es : List (ConversionError B)) (want : Option W) → Lacks r want → AllLack es want → Lacks (all_gathered r es) want
all_lack r [] want h k = h
all_lack r (e ∷ es) want h k = all_lack (gathered r (reason e)) es want (both_lack r (reason e) want h k.0) k.1

attained : {B W : Type 0} (r s : Reason B) (want : Option W) → Lacks r want → Attains r s → Lacks s want
attained r out_of_memory want h k = tt
attained r means_nothing want h k = subst (λ t. Lacks t want) (sym k) h
attained r (refused b) want h k = subst (λ t. Lacks t want) (sym k) h

pub together_lack : {B W : Type 0} (es : List (ConversionError B)) (d : ConversionError B) (want : Option W) → AllLack es want → FailsByAll es d → Lacks (reason d) want
together_lack [] d want h k = absurd k
together_lack (e ∷ es) d want h k = attained (all_gathered (reason e) es) (reason d) want (all_lack (reason e) es want h.0 h.1) k.0

pub one_lacks : {E B V W : Type 0} (seen : E → V) (a : Result E (ConversionError B)) (v : Option V) (want : Option W) → Finds seen a v → (v ≡ None → want ≡ None) → AllLack (failing a) want
one_lacks seen (Ok x) v want h k = tt
one_lacks seen (Err e) v want h k = (through (reason e) v want h k, tt)

pub more_lack : {B W : Type 0} (es fs : List (ConversionError B)) (want : Option W) → AllLack es want → AllLack fs want → AllLack (es ++ fs) want
more_lack [] fs want h k = k
more_lack (e ∷ es) fs want h k = (h.0, more_lack es fs want h.1 k)

-- ---- two parts

pub two_lack : {C D B V W X : Type 0} (f : C → V) (g : D → W) (a : Result C (ConversionError B)) (b : Result D (ConversionError B)) (v : Option V) (w : Option W) (want : Option X) (e : ConversionError B) → Flat a b (Err e) → Finds f a v → Finds g b w → (v ≡ None → want ≡ None) → (w ≡ None → want ≡ None) → Lacks (reason e) want
two_lack f g a b v w want e flat hv hw kv kw =
    together_lack (failing a ++ failing b) e want (more_lack (failing a) (failing b) want (one_lacks f a v want hv kv) (one_lacks g b w want hw kw)) (two_fail a b e flat)

pub two_found : {C D B : Type 0} (a : Result C (ConversionError B)) (b : Result D (ConversionError B)) (r : C × D) → Flat a b (Ok r) → (a ≡ Ok r.0) × (b ≡ Ok r.1)
two_found (Ok x) (Ok y) r h = let same : r ≡ (x, y) = cc in (ap (λ (p : _). Ok p.0) (sym same), ap (λ (p : _). Ok p.1) (sym same))
two_found (Ok x) (Err e) r h = absurd cc
two_found (Err e) (Ok y) r h = absurd cc
two_found (Err e) (Err f) r h = absurd h
