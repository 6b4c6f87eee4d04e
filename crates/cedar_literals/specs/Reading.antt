-- What making a uid of the texts of its parts answers, and reading it from its own text.
use Rattle.std.specs.Prelude.{◌≡◌, ◌≢◌, ⊤, [], ◌∷◌, ◌++◌, true, false, codes, Result, Ok, Err}
use Rattle.std.specs.Str.{IsUtf8}
use Rattle.cedar_language.specs.Uid.{Text, Name, Uid}
use Rattle.cedar_names.specs.Identifiers.{IsId, IsUnreservedId, reserved}
use Rattle.cedar_names.specs.Names.{IsName, name_text, is_reserved_name}
use Rattle.cedar_names.specs.declared.errors.ParseNameError.{ParseNameError}
use Rattle.cedar_names.specs.declared.errors.ParseNameError.TheVariants.{NotNormalized, Reserved, Memory}
use Rattle.cedar_literals.specs.Escapes.{escaped, uid_text}

-- a uid of a type without a namespace
abbrev pub ReadsUidParts : Text → Text → Result Uid ParseNameError → Type 0
ReadsUidParts s id (Ok u) = (u ≡ record { type_name = s ∷ []; id = id }) × IsUnreservedId s
ReadsUidParts s id (Err NotNormalized) = ¬ (IsId s)
ReadsUidParts s id (Err (Reserved e)) = (s ≡ reserved) × (e.name ≡ s ∷ [])
ReadsUidParts s id (Err (Memory e)) = ⊤

-- a uid is so written
abbrev pub SpellsUid : Uid → Text → Type 0
SpellsUid u s = IsName u.type_name × (uid_text u ≡ s)

-- no uid is so written
abbrev pub IsNoUid : Text → Type 0
IsNoUid s = (u : Uid) → IsName u.type_name → uid_text u ≢ s

-- a uid of a type that holds the reserved identifier is so written
abbrev pub SpellsReserved : Name → Text → Type 0
SpellsReserved n s = (id : Text) × SpellsUid (record { type_name = n; id = id }) s × (is_reserved_name n ≡ true)

-- the uid that is so written; one whose type holds the reserved identifier is refused by an error of its own
abbrev pub ReadsUid : Text → Result Uid ParseNameError → Type 0
ReadsUid s (Ok u) = SpellsUid u s × IsUtf8 u.id × (is_reserved_name u.type_name ≡ false)
ReadsUid s (Err NotNormalized) = IsNoUid s
ReadsUid s (Err (Reserved e)) = SpellsReserved e.name s
ReadsUid s (Err (Memory e)) = ⊤

-- the text is cut into what would be a type's name and an id between quotes
pub record IsCut (text name id : Text) : Type 0 where
  pub whole : text ≡ name ++ (codes "::\"" ++ (id ++ codes "\""))
  pub only : (u : Uid) → IsName u.type_name → uid_text u ≡ text → (name_text u.type_name ≡ name) × (escaped u.id ≡ id)
