-- Names that policies can write. (Cedar language reference, "Policy grammar".)
use Rattle.std.specs.Prelude.{◌≡◌, ⊤, ◌&&◌, Bool, false, not, List, [], ◌∷◌, Result, Ok, Err}
use Rattle.std.specs.List.{list_all}
use Rattle.cedar_language.specs.Uid.{Text, Name}
use Rattle.cedar_names.specs.Identifiers.{is_id, is_reserved}
use Rattle.cedar_validator.specs.declared.errors.SchemaNameError.{SchemaNameError}
use Rattle.cedar_validator.specs.declared.errors.SchemaNameError.TheVariants as error

-- an identifier that is neither a keyword nor the reserved one
abbrev pub is_word : Text → Bool
is_word s = is_id s && not (is_reserved s)

-- such identifiers, and at least one
abbrev pub is_writable : Name → Bool
is_writable [] = false
is_writable (s ∷ ss) = list_all is_word (s ∷ ss)

-- the name itself, if a policy can write it; memory may run out
abbrev pub IsWritten : Name → Result Name SchemaNameError → Type 0
IsWritten n (Ok m) = m ≡ n
IsWritten n (Err (error.UnwritableName m)) = (m ≡ n) × (is_writable n ≡ false)
IsWritten n (Err error.Memory) = ⊤
