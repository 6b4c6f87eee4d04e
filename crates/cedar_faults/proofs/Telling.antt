-- What is told by one fault, and by those that are handed on.
use Rattle.std.proofs.Common.{◌≡◌, ◌⊎◌, inl, inr, ℕ, zero, suc, ◌+◌, ◌<◌, length, get_or, drop, drop-cons, List, [], ◌∷◌, ◌++◌, Result, Ok, Err, Option, Some, refl, sym, ap, ◌∙◌, subst}
use Rattle.std.specs.Prelude.{IfErr, IsErr, IsErrAnd}
use Rattle.cedar_names.specs.declared.places.Loc.{Loc}
use Rattle.cedar_cst.specs.declared.errors.PlacedError.{PlacedError}
use Rattle.cedar_faults.specs.declared.kinds.ToASTErrorKind.{ToASTErrorKind}
use Rattle.cedar_faults.specs.declared.errors.ConversionError.{ConversionError}
use Rattle.cedar_faults.specs.declared.errors.ConversionError.TheVariants as error
use Rattle.cedar_faults.specs.Reasons.{IsFaultOf, reason, means_nothing, out_of_memory, faults_of, listed}
use Rattle.cedar_faults.specs.Telling.{AreOf, Tells, Told, TellsOnly}
use Rattle.cedar_faults.specs.Flat.{Flat}
use Rattle.cedar_faults.specs.Converts.{Finds}

are_of_one : (fs : List (PlacedError ToASTErrorKind)) (kind : ToASTErrorKind) (place : Option Loc) (p : ToASTErrorKind → Type 0) → fs ≡ record { kind = kind; loc = place } ∷ [] → p kind → (k : ToASTErrorKind) → AreOf fs k → p k
are_of_one fs kind place p is shown k told = by (subst (λ gs. AreOf gs k) is told)
  where
    by : (kind ≡ k) ⊎ ⊥ → p k
    by (inl same) = subst p same shown
    by (inr none) = absurd none

-- one fault tells its kind alone
pub tells_one : {E : Type 0} (kind : ToASTErrorKind) (place : Option Loc) (e : ConversionError E) (p : ToASTErrorKind → Type 0) → IsFaultOf kind place e → p kind → TellsOnly e p
tells_one kind place (error.Faults fs) p is shown = record { each = are_of_one (listed fs) kind place p (is refl) shown }
tells_one kind place (error.Builder b) p is shown = record { each = λ k told. absurd told }
tells_one kind place error.Memory p is shown = record { each = λ k told. absurd told }

-- want of memory tells nothing
pub memory_tells : {E : Type 0} (e : ConversionError E) (p : ToASTErrorKind → Type 0) → reason e ≡ out_of_memory → TellsOnly e p
memory_tells (error.Faults fs) p is = absurd (cc is)
memory_tells (error.Builder b) p is = record { each = λ k told. absurd told }
memory_tells error.Memory p is = record { each = λ k told. absurd told }

pub is_memory : {E : Type 0} (e : ConversionError E) (p : ToASTErrorKind → Type 0) → e ≡ error.Memory → TellsOnly e p
is_memory e p is = memory_tells e p (ap reason is)

-- what shows more may be told the same of
pub tells_more : {E : Type 0} (e : ConversionError E) (p q : ToASTErrorKind → Type 0) → ((k : ToASTErrorKind) → p k → q k) → TellsOnly e p → TellsOnly e q
tells_more e p q more only = record { each = λ k told. more k (only.each k told) }

pub told_more : {A E : Type 0} (r : Result A (ConversionError E)) (p q : ToASTErrorKind → Type 0) → ((k : ToASTErrorKind) → p k → q k) → IfErr r (λ e. TellsOnly e p) → IfErr r (λ e. TellsOnly e q)
told_more (Ok x) p q more only = tt
told_more (Err e) p q more only = tells_more e p q more only

-- each kind that a part tells is one that it shows
pub told_each : {A E : Type 0} (r : Result A (ConversionError E)) (p : ToASTErrorKind → Type 0) → IfErr r (λ e. TellsOnly e p) → (k : ToASTErrorKind) → Told r k → p k
told_each (Ok x) p only k told = absurd told
told_each (Err e) p only k told = only.each k told

-- a failure that is handed on
pub handed_on : {A E : Type 0} (r : Result A (ConversionError E)) (e : ConversionError E) (p : ToASTErrorKind → Type 0) → IsErr r × IsErrAnd r (λ y. y ≡ e) → TellsOnly e p → IfErr r (λ y. TellsOnly y p)
handed_on (Ok x) e p err only = tt
handed_on (Err y) e p err only = subst (λ z. TellsOnly z p) (sym err.1) only

-- ---- two parts

of_both : (fs gs : List (PlacedError ToASTErrorKind)) (k : ToASTErrorKind) → AreOf (fs ++ gs) k → AreOf fs k ⊎ AreOf gs k
of_both [] gs k told = inr told
of_both (f ∷ fs) gs k (inl same) = inl (inl same)
of_both (f ∷ fs) gs k (inr told) = by (of_both fs gs k told)
  where
    by : AreOf fs k ⊎ AreOf gs k → AreOf (f ∷ fs) k ⊎ AreOf gs k
    by (inl a) = inl (inr a)
    by (inr b) = inr b

pub gathered_tells : {E : Type 0} (e f d : ConversionError E) → (reason d ≡ means_nothing → faults_of d ≡ faults_of e ++ faults_of f) → TellsOnly d (λ k. Tells e k ⊎ Tells f k)
gathered_tells e f (error.Faults fs) all = record { each = λ k told. of_both (faults_of e) (faults_of f) k (subst (λ gs. AreOf gs k) (all refl) told) }
gathered_tells e f (error.Builder b) all = record { each = λ k told. absurd told }
gathered_tells e f error.Memory all = record { each = λ k told. absurd told }

-- two together tell what either tells
pub flat_tells : {A B E : Type 0} (a : Result A (ConversionError E)) (b : Result B (ConversionError E)) (e : ConversionError E) → Flat a b (Err e) → TellsOnly e (λ k. Told a k ⊎ Told b k)
flat_tells (Ok x) (Ok y) e h = absurd (cc h)
flat_tells (Ok x) (Err f) e h = let same : e ≡ f = cc h in record { each = λ k told. inr (subst (λ z. Tells z k) same told) }
flat_tells (Err f) (Ok y) e h = let same : e ≡ f = cc h in record { each = λ k told. inl (subst (λ z. Tells z k) same told) }
flat_tells (Err f) (Err g) e h = gathered_tells f g e h.1

pub flat_shows : {A B E : Type 0} (a : Result A (ConversionError E)) (b : Result B (ConversionError E)) (e : ConversionError E) (p q s : ToASTErrorKind → Type 0) → Flat a b (Err e) → IfErr a (λ z. TellsOnly z p) → IfErr b (λ z. TellsOnly z q) → ((k : ToASTErrorKind) → p k → s k) → ((k : ToASTErrorKind) → q k → s k) → TellsOnly e s
flat_shows a b e p q s flat left right first second = record { each = λ k told. by k ((flat_tells a b e flat).each k told) }
  where
    by : (k : ToASTErrorKind) → Told a k ⊎ Told b k → s k
    by k (inl t) = first k (told_each a p left k t)
    by k (inr t) = second k (told_each b q right k t)

-- ---- a part of a list

-- what holds of a rest of a list holds of the list
from_rest : {A : Type 0} (p : List A → Type 0) → ((x : A) (xs : List A) → p xs → p (x ∷ xs)) → (i : ℕ) (xs : List A) → p (drop i xs) → p xs
from_rest p more zero xs h = h
from_rest p more (suc i) [] h = h
from_rest p more (suc i) (x ∷ xs) h = more x xs (from_rest p more i xs h)

pub at_item : {A : Type 0} (p : List A → Type 0) → ((x : A) (xs : List A) → p xs → p (x ∷ xs)) → (xs : List A) (i : ℕ) (x : A) → i < length xs → x ≡ get_or xs i x → p (x ∷ drop (suc i) xs) → p xs
at_item p more xs i x lt is h =
    from_rest p more i xs (subst p (sym (drop-cons xs i x lt ∙ ap (λ y. y ∷ drop (suc i) xs) (sym is))) h)

-- where something is to be found, no fault is told
pub finds_some : {A E W : Type 0} (seen : A → W) (r : Result A (ConversionError E)) (w : W) (p : ToASTErrorKind → Type 0) → Finds seen r (Some w) → IfErr r (λ e. TellsOnly e p)
finds_some seen (Ok x) w p h = tt
finds_some seen (Err (error.Faults fs)) w p h = cc
finds_some seen (Err (error.Builder b)) w p h = absurd h
finds_some seen (Err error.Memory) w p h = record { each = λ k told. absurd told }

-- what a part that failed tells
pub failed_tells : {A E : Type 0} (r : Result A (ConversionError E)) (e : ConversionError E) → r ≡ Err e → TellsOnly e (λ k. Told r k)
failed_tells r e is = record { each = λ k told. subst (λ z. Told z k) (sym is) told }
