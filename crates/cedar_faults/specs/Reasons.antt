-- Why a conversion gives nothing, and what two parts fail by together.
use Rattle.std.specs.Prelude.{◌≡◌, ⊤, List, [], ◌∷◌, Option}
use Rattle.cedar_names.specs.declared.places.Loc.{Loc}
use Rattle.cedar_trees.specs.declared.unknowns.NonEmpty.{NonEmpty}
use Rattle.cedar_cst.specs.declared.errors.PlacedError.{PlacedError}
use Rattle.cedar_faults.specs.declared.kinds.ToASTErrorKind.{ToASTErrorKind}
use Rattle.cedar_faults.specs.declared.errors.ConversionError.{ConversionError}
use Rattle.cedar_faults.specs.declared.errors.ConversionError.TheVariants as error

pub data Reason (E : Type 0) : Type 0 where
  -- the tree means nothing
  means_nothing : Reason E
  -- the builder refused a part by this error
  refused : E → Reason E
  out_of_memory : Reason E

abbrev pub reason : {E : Type 0} → ConversionError E → Reason E
reason (error.Faults fs) = means_nothing
reason (error.Builder e) = refused e
reason error.Memory = out_of_memory

-- faults, or want of memory
abbrev pub IsFault : {E : Type 0} → ConversionError E → Type 0
IsFault (error.Faults fs) = ⊤
IsFault (error.Builder e) = ⊥
IsFault error.Memory = ⊤

-- the reason of two parts together: want of memory, else faults, else the first refusal
abbrev pub gathered : {E : Type 0} → Reason E → Reason E → Reason E
gathered out_of_memory s = out_of_memory
gathered means_nothing out_of_memory = out_of_memory
gathered means_nothing s = means_nothing
gathered (refused e) out_of_memory = out_of_memory
gathered (refused e) means_nothing = means_nothing
gathered (refused e) (refused f) = refused e

-- the third is the reason of the two together, or memory ran out meanwhile
abbrev pub Gathers : {E : Type 0} → Reason E → Reason E → Reason E → Type 0
Gathers r s out_of_memory = ⊤
Gathers r s t = t ≡ gathered r s

abbrev pub listed : {A : Type 0} → NonEmpty A → List A
listed xs = xs.head ∷ xs.tail.items

-- the faults, in order
abbrev pub faults_of : {E : Type 0} → ConversionError E → List (PlacedError ToASTErrorKind)
faults_of (error.Faults fs) = listed fs
faults_of e = []

-- unless memory ran out, this one fault: of this kind, at this place
abbrev pub IsFaultOf : {E : Type 0} → ToASTErrorKind → Option Loc → ConversionError E → Type 0
IsFaultOf kind place e = reason e ≡ means_nothing → faults_of e ≡ record { kind = kind; loc = place } ∷ []
