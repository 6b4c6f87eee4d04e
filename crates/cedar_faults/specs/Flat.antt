-- Several parts together.
use Rattle.std.specs.Prelude.{◌≡◌, ⊤, List, [], ◌∷◌, ◌++◌, Result, Ok, Err}
use Rattle.cedar_cst.specs.declared.errors.PlacedError.{PlacedError}
use Rattle.cedar_faults.specs.declared.kinds.ToASTErrorKind.{ToASTErrorKind}
use Rattle.cedar_faults.specs.declared.errors.ConversionError.{ConversionError}
use Rattle.cedar_faults.specs.Reasons.{Reason, Gathers, gathered, out_of_memory, reason, means_nothing, faults_of}

-- fails by what two fail by together, their faults in order
abbrev pub FailsByBoth : {A E : Type 0} → ConversionError E → ConversionError E → Result A (ConversionError E) → Type 0
FailsByBoth e f (Ok x) = ⊥
FailsByBoth e f (Err d) = Gathers (reason e) (reason f) (reason d) × (reason d ≡ means_nothing → faults_of d ≡ faults_of e ++ faults_of f)

-- both, or what the failing ones fail by
abbrev pub Flat : {A B E : Type 0} → Result A (ConversionError E) → Result B (ConversionError E) → Result (A × B) (ConversionError E) → Type 0
Flat (Ok a) (Ok b) r = r ≡ Ok (a, b)
Flat (Ok a) (Err e) r = r ≡ Err e
Flat (Err e) (Ok b) r = r ≡ Err e
Flat (Err e) (Err f) r = FailsByBoth e f r

-- what a part fails by, where it does
abbrev pub failing : {A E : Type 0} → Result A (ConversionError E) → List (ConversionError E)
failing (Ok x) = []
failing (Err e) = e ∷ []

-- the reason of several parts together
abbrev pub all_gathered : {E : Type 0} → Reason E → List (ConversionError E) → Reason E
all_gathered r [] = r
all_gathered r (e ∷ es) = all_gathered (gathered r (reason e)) es

-- the faults of all, in order
abbrev pub all_faults : {E : Type 0} → List (ConversionError E) → List (PlacedError ToASTErrorKind)
all_faults [] = []
all_faults (e ∷ es) = faults_of e ++ all_faults es

-- the second is the first, or memory ran out meanwhile
abbrev pub Attains : {E : Type 0} → Reason E → Reason E → Type 0
Attains r out_of_memory = ⊤
Attains r s = s ≡ r

-- what several fail by together
abbrev pub FailsByAll : {E : Type 0} → List (ConversionError E) → ConversionError E → Type 0
FailsByAll [] d = ⊥
FailsByAll (e ∷ es) d = Attains (all_gathered (reason e) es) (reason d) × (reason d ≡ means_nothing → faults_of d ≡ all_faults (e ∷ es))

-- all three, or what the failing ones fail by
abbrev pub Flat3 : {A B C E : Type 0} → Result A (ConversionError E) → Result B (ConversionError E) → Result C (ConversionError E) → Result (A × B × C) (ConversionError E) → Type 0
Flat3 a b c (Ok r) = (a ≡ Ok r.0) × (b ≡ Ok r.1) × (c ≡ Ok r.2)
Flat3 a b c (Err d) = FailsByAll (failing a ++ failing b ++ failing c) d

-- all four, or what the failing ones fail by
abbrev pub Flat4 : {A B C D E : Type 0} → Result A (ConversionError E) → Result B (ConversionError E) → Result C (ConversionError E) → Result D (ConversionError E) → Result (A × B × C × D) (ConversionError E) → Type 0
Flat4 a b c d (Ok r) = (a ≡ Ok r.0) × (b ≡ Ok r.1) × (c ≡ Ok r.2) × (d ≡ Ok r.3)
Flat4 a b c d (Err e) = FailsByAll (failing a ++ failing b ++ failing c ++ failing d) e
