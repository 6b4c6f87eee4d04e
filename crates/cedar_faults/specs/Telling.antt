-- Which kinds of faults are told.
use Rattle.std.specs.Prelude.{◌≡◌, ◌⊎◌, List, [], ◌∷◌, Result, Ok, Err}
use Rattle.cedar_cst.specs.declared.errors.PlacedError.{PlacedError}
use Rattle.cedar_faults.specs.declared.kinds.ToASTErrorKind.{ToASTErrorKind}
use Rattle.cedar_faults.specs.declared.errors.ConversionError.{ConversionError}
use Rattle.cedar_faults.specs.Reasons.{faults_of}

-- one of the faults is of this kind
abbrev pub AreOf : List (PlacedError ToASTErrorKind) → ToASTErrorKind → Type 0
AreOf [] kind = ⊥
AreOf (f ∷ fs) kind = (f.kind ≡ kind) ⊎ AreOf fs kind

abbrev pub Tells : {E : Type 0} → ConversionError E → ToASTErrorKind → Type 0
Tells e kind = AreOf (faults_of e) kind

-- the same of a part, which may be there
abbrev pub Told : {A E : Type 0} → Result A (ConversionError E) → ToASTErrorKind → Type 0
Told (Ok x) kind = ⊥
Told (Err e) kind = Tells e kind

-- each kind that is told is shown
pub record TellsOnly {E : Type 0} (e : ConversionError E) (shown : ToASTErrorKind → Type 0) : Type 0 where
  pub each : (kind : ToASTErrorKind) → Tells e kind → shown kind
