-- What is told of several parts together, and by faults that take another one's place.
use Rattle.std.proofs.Common.{◌≡◌, ◌⊎◌, inl, inr, List, [], ◌∷◌, ◌++◌, Option, None, Result, Ok, Err, refl, sym, subst}
use Rattle.std.specs.Prelude.{IfErr}
use Rattle.cedar_names.specs.declared.places.Loc.{Loc}
use Rattle.cedar_cst.specs.declared.errors.PlacedError.{PlacedError}
use Rattle.cedar_faults.specs.declared.kinds.ToASTErrorKind.{ToASTErrorKind}
use Rattle.cedar_faults.specs.declared.errors.ConversionError.{ConversionError}
use Rattle.cedar_faults.specs.declared.errors.ConversionError.TheVariants as error
use Rattle.cedar_faults.specs.Reasons.{IsFaultOf, reason, means_nothing, faults_of}
use Rattle.cedar_faults.specs.Telling.{AreOf, Tells, Told, TellsOnly}
use Rattle.cedar_faults.specs.Flat.{Flat, Flat4, FailsByAll, failing, all_faults}
use Rattle.cedar_faults.specs.Converts.{Finds}
use Rattle.cedar_faults.proofs.Telling.{tells_one, told_each, gathered_tells, flat_shows}

-- what is told where nothing is found
pub lacking_tells : {A E W : Type 0} (seen : A → W) (r : Result A (ConversionError E)) (want : Option W) (p : ToASTErrorKind → Type 0) → Finds seen r want → IfErr r (λ e. TellsOnly e p) → IfErr r (λ e. TellsOnly e (λ k. (want ≡ None) × p k))
lacking_tells seen (Ok x) want p found only = tt
lacking_tells seen (Err (error.Faults fs)) want p none only = record { each = λ k told. (none, only.each k told) }
lacking_tells seen (Err (error.Builder b)) want p none only = absurd none
lacking_tells seen (Err error.Memory) want p none only = record { each = λ k told. absurd told }

-- what a part tells is told by it
pub itself_tells : {A E : Type 0} (r : Result A (ConversionError E)) → IfErr r (λ e. TellsOnly e (λ k. Told r k))
itself_tells (Ok x) = tt
itself_tells (Err e) = record { each = λ k t. t }

-- what one part told, or something else that shows the same
pub told_or : {A C E : Type 0} (a : Result A (ConversionError E)) (r : Result C (ConversionError E)) (p q : ToASTErrorKind → Type 0) → IfErr a (λ e. TellsOnly e p) → IfErr r (λ e. TellsOnly e (λ k. Told a k ⊎ q k)) → ((k : ToASTErrorKind) → q k → p k) → IfErr r (λ e. TellsOnly e p)
told_or a (Ok x) p q left only more = tt
told_or a (Err e) p q left only more = record { each = λ k t. by k (only.each k t) }
  where
    by : (k : ToASTErrorKind) → Told a k ⊎ q k → p k
    by k (inl t) = told_each a p left k t
    by k (inr s) = more k s

-- what two parts tell together, where both show no more than this
module _ {A B C E : Type 0} (a : Result A (ConversionError E)) (b : Result B (ConversionError E)) (p q s : ToASTErrorKind → Type 0) where
  pub both_show : (r : Result C (ConversionError E)) → IfErr r (λ e. TellsOnly e (λ k. Told a k ⊎ Told b k)) → IfErr a (λ e. TellsOnly e p) → IfErr b (λ e. TellsOnly e q) → ((k : ToASTErrorKind) → p k → s k) → ((k : ToASTErrorKind) → q k → s k) → IfErr r (λ e. TellsOnly e s)
  both_show (Ok x) only left right first second = tt
  both_show (Err e) only left right first second = record { each = λ k t. by k (only.each k t) }
    where
      by : (k : ToASTErrorKind) → Told a k ⊎ Told b k → s k
      by k (inl t) = first k (told_each a p left k t)
      by k (inr t) = second k (told_each b q right k t)

pub next_shows : {E : Type 0} (e f d : ConversionError E) (p q : ToASTErrorKind → Type 0) → (reason d ≡ means_nothing → faults_of d ≡ faults_of e ++ faults_of f) → TellsOnly e p → TellsOnly f q → ((k : ToASTErrorKind) → q k → p k) → TellsOnly d p
next_shows e f d p q all left right more = record { each = λ k t. by k ((gathered_tells e f d all).each k t) }
  where
    by : (k : ToASTErrorKind) → Tells e k ⊎ Tells f k → p k
    by k (inl t) = left.each k t
    by k (inr t) = more k (right.each k t)

-- what two parts show, both together show
pub flat_both : {A B E : Type 0} (a : Result A (ConversionError E)) (b : Result B (ConversionError E)) (r : Result (A × B) (ConversionError E)) (p q : ToASTErrorKind → Type 0) → Flat a b r → IfErr a (λ e. TellsOnly e p) → IfErr b (λ e. TellsOnly e q) → IfErr r (λ e. TellsOnly e (λ k. p k ⊎ q k))
flat_both a b (Ok x) p q flat left right = tt
flat_both a b (Err e) p q flat left right = flat_shows a b e p q _ flat left right (λ k s. inl s) (λ k s. inr s)

-- ---- another fault in the place of those that were told

module _ {E : Type 0} (told other made : ConversionError E) (so : Type 0) (p q : ToASTErrorKind → Type 0) (kind : ToASTErrorKind) (place : Option Loc) where
  pub replaced_tells : TellsOnly made (λ k. Tells told k ⊎ so × Tells other k) → TellsOnly told p → IsFaultOf kind place other → (so → q kind) → TellsOnly made (λ k. p k ⊎ q k)
  replaced_tells only own is shown = record { each = λ k t. by k (only.each k t) }
    where
      by : (k : ToASTErrorKind) → Tells told k ⊎ so × Tells other k → p k ⊎ q k
      by k (inl t) = inl (own.each k t)
      by k (inr t) = inr (subst q (sym ((tells_one kind place other (λ j. j ≡ kind) is refl).each k t.1)) (shown t.0))

-- ---- several parts

of_either : (fs gs : List (PlacedError ToASTErrorKind)) (k : ToASTErrorKind) → AreOf (fs ++ gs) k → AreOf fs k ⊎ AreOf gs k
of_either [] gs k told = inr told
of_either (f ∷ fs) gs k (inl same) = inl (inl same)
of_either (f ∷ fs) gs k (inr told) = by (of_either fs gs k told)
  where
    by : AreOf fs k ⊎ AreOf gs k → AreOf (f ∷ fs) k ⊎ AreOf gs k
    by (inl a) = inl (inr a)
    by (inr b) = inr b

-- one of them tells the kind
abbrev OneTells : {E : Type 0} → List (ConversionError E) → ToASTErrorKind → Type 0
OneTells [] k = ⊥
OneTells (e ∷ es) k = Tells e k ⊎ OneTells es k

one_tells : {E : Type 0} (es : List (ConversionError E)) (k : ToASTErrorKind) → AreOf (all_faults es) k → OneTells es k
one_tells [] k told = told
one_tells (e ∷ es) k told = by (one_tells es k) (of_either (faults_of e) (all_faults es) k told)
  where
    by : (AreOf (all_faults es) k → OneTells es k) → Tells e k ⊎ AreOf (all_faults es) k → OneTells (e ∷ es) k
    by more (inl t) = inl t
    by more (inr t) = inr (more t)

all_tell : {E : Type 0} (es : List (ConversionError E)) (d : ConversionError E) → FailsByAll es d → (k : ToASTErrorKind) → Tells d k → OneTells es k
all_tell [] d fails k told = absurd fails
all_tell (e ∷ es) (error.Faults fs) fails k told = one_tells (e ∷ es) k (subst (λ gs. AreOf gs k) (fails.1 refl) told)
all_tell (e ∷ es) (error.Builder b) fails k told = absurd told
all_tell (e ∷ es) error.Memory fails k told = absurd told

one_of_both : {E : Type 0} (ds es : List (ConversionError E)) (k : ToASTErrorKind) → OneTells (ds ++ es) k → OneTells ds k ⊎ OneTells es k
one_of_both [] es k told = inr told
one_of_both (d ∷ ds) es k (inl t) = inl (inl t)
one_of_both (d ∷ ds) es k (inr told) = by (one_of_both ds es k told)
  where
    by : OneTells ds k ⊎ OneTells es k → OneTells (d ∷ ds) k ⊎ OneTells es k
    by (inl t) = inl (inr t)
    by (inr t) = inr t

one_failed : {A E : Type 0} (a : Result A (ConversionError E)) (k : ToASTErrorKind) → OneTells (failing a) k → Told a k
one_failed (Ok x) k told = absurd told
one_failed (Err e) k (inl t) = t
one_failed (Err e) k (inr t) = absurd t

module _ {A B C D E : Type 0} (a : Result A (ConversionError E)) (b : Result B (ConversionError E)) (c : Result C (ConversionError E)) (d : Result D (ConversionError E)) where
  pub four_tell : (e : ConversionError E) → Flat4 a b c d (Err e) → TellsOnly e (λ k. Told a k ⊎ Told b k ⊎ Told c k ⊎ Told d k)
  four_tell e flat = record { each = λ k t. last k (one_of_both (failing a ++ failing b ++ failing c) (failing d) k (all_tell (failing a ++ failing b ++ failing c ++ failing d) e flat k t)) }
    where
      first : (k : ToASTErrorKind) → OneTells (failing a) k ⊎ OneTells (failing b) k → Told a k ⊎ Told b k ⊎ Told c k ⊎ Told d k
      first k (inl t) = inl (one_failed a k t)
      first k (inr t) = inr (inl (one_failed b k t))

      next : (k : ToASTErrorKind) → OneTells (failing a ++ failing b) k ⊎ OneTells (failing c) k → Told a k ⊎ Told b k ⊎ Told c k ⊎ Told d k
      next k (inl t) = first k (one_of_both (failing a) (failing b) k t)
      next k (inr t) = inr (inr (inl (one_failed c k t)))

      last : (k : ToASTErrorKind) → OneTells (failing a ++ failing b ++ failing c) k ⊎ OneTells (failing d) k → Told a k ⊎ Told b k ⊎ Told c k ⊎ Told d k
      last k (inl t) = next k (one_of_both (failing a ++ failing b) (failing c) k t)
      last k (inr t) = inr (inr (inr (one_failed d k t)))

  module _ (p q s t : ToASTErrorKind → Type 0) where
    pub four_show : (e : ConversionError E) → Flat4 a b c d (Err e) → IfErr a (λ y. TellsOnly y p) → IfErr b (λ y. TellsOnly y q) → IfErr c (λ y. TellsOnly y s) → IfErr d (λ y. TellsOnly y t) → TellsOnly e (λ k. p k ⊎ q k ⊎ s k ⊎ t k)
    four_show e flat ha hb hc hd = record { each = λ k told. by k ((four_tell e flat).each k told) }
      where
        by : (k : ToASTErrorKind) → Told a k ⊎ Told b k ⊎ Told c k ⊎ Told d k → p k ⊎ q k ⊎ s k ⊎ t k
        by k (inl x) = inl (told_each a p ha k x)
        by k (inr (inl x)) = inr (inl (told_each b q hb k x))
        by k (inr (inr (inl x))) = inr (inr (inl (told_each c s hc k x)))
        by k (inr (inr (inr x))) = inr (inr (inr (told_each d t hd k x)))
