-- What reading a text as an identifier or a name answers.
use Rattle.std.specs.Prelude.{◌≡◌, ◌≢◌, ⊤, [], ◌∷◌, true, false, Result, Ok, Err}
use Rattle.cedar_language.specs.Uid.{Text, Name}
use Rattle.cedar_names.specs.Identifiers.{IsId, IsAnyId, IsUnreservedId, reserved}
use Rattle.cedar_names.specs.Names.{IsName, name_text, is_reserved_name}
use Rattle.cedar_names.specs.declared.errors.ParseNameError.{ParseNameError}
use Rattle.cedar_names.specs.declared.errors.ParseNameError.TheVariants.{NotNormalized, Reserved, Memory}

-- what a test of the text answers, where want of memory may stand in its place
abbrev pub ReadsBy : (Text → Type 0) → Text → Result Text ParseNameError → Type 0
ReadsBy IsOne s (Ok id) = (id ≡ s) × IsOne s
ReadsBy IsOne s (Err NotNormalized) = ¬ (IsOne s)
ReadsBy IsOne s (Err (Reserved e)) = ⊥
ReadsBy IsOne s (Err (Memory e)) = ⊤

abbrev pub ReadsAnyId : Text → Result Text ParseNameError → Type 0
ReadsAnyId = ReadsBy IsAnyId

abbrev pub ReadsId : Text → Result Text ParseNameError → Type 0
ReadsId = ReadsBy IsId

-- the reserved identifier is refused by an error of its own
abbrev pub ReadsUnreservedId : Text → Result Text ParseNameError → Type 0
ReadsUnreservedId s (Ok id) = (id ≡ s) × IsUnreservedId s
ReadsUnreservedId s (Err NotNormalized) = ¬ (IsId s)
ReadsUnreservedId s (Err (Reserved e)) = (s ≡ reserved) × (e.name ≡ s ∷ [])
ReadsUnreservedId s (Err (Memory e)) = ⊤

-- no name is so written
abbrev pub IsNoName : Text → Type 0
IsNoName s = (n : Name) → IsName n → name_text n ≢ s

-- a name is so written
abbrev pub Spells : Name → Text → Type 0
Spells n s = IsName n × (name_text n ≡ s)

abbrev pub ReadsInternalName : Text → Result Name ParseNameError → Type 0
ReadsInternalName s (Ok n) = Spells n s
ReadsInternalName s (Err NotNormalized) = IsNoName s
ReadsInternalName s (Err (Reserved e)) = ⊥
ReadsInternalName s (Err (Memory e)) = ⊤

-- a name that holds the reserved identifier is refused by an error of its own
abbrev pub ReadsName : Text → Result Name ParseNameError → Type 0
ReadsName s (Ok n) = Spells n s × (is_reserved_name n ≡ false)
ReadsName s (Err NotNormalized) = IsNoName s
ReadsName s (Err (Reserved e)) = Spells e.name s × (is_reserved_name e.name ≡ true)
ReadsName s (Err (Memory e)) = ⊤

-- a name without a namespace
abbrev pub ReadsUnqualifiedInternalName : Text → Result Name ParseNameError → Type 0
ReadsUnqualifiedInternalName s (Ok n) = (n ≡ s ∷ []) × IsId s
ReadsUnqualifiedInternalName s (Err NotNormalized) = ¬ (IsId s)
ReadsUnqualifiedInternalName s (Err (Reserved e)) = ⊥
ReadsUnqualifiedInternalName s (Err (Memory e)) = ⊤

abbrev pub ReadsUnqualifiedName : Text → Result Name ParseNameError → Type 0
ReadsUnqualifiedName s (Ok n) = (n ≡ s ∷ []) × IsUnreservedId s
ReadsUnqualifiedName s (Err NotNormalized) = ¬ (IsId s)
ReadsUnqualifiedName s (Err (Reserved e)) = (s ≡ reserved) × (e.name ≡ s ∷ [])
ReadsUnqualifiedName s (Err (Memory e)) = ⊤
