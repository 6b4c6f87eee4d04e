-- The built-in types, by their names.
use Rattle.std.specs.Prelude.{◌≡◌, ◌||◌, Bool, List, [], ◌∷◌, cond, Option, Some, None, codes, option_map}
use Rattle.std.specs.List.{find}
use Rattle.cedar_language.specs.Uid.{Text, Name}
use Rattle.cedar_language.specs.Order.{same_text, same_name}
use Rattle.cedar_typing.specs.Types.{CedarType, Extensions}
use Rattle.cedar_schema_grammar.specs.Declared.{Library}
use Rattle.cedar_schema.specs.Tables.{built_in_at}
use Rattle.cedar_schema.specs.declared.tables.TypeTable.{TypeTable}
use Rattle.cedar_schema_resolution.specs.declared.built_in.ExtensionType.{ExtensionType}

-- a built-in type stands under its own name, and behind `__cedar`
abbrev pub is_built_in_as : Text → Name → Bool
is_built_in_as own n = same_name (own ∷ []) n || same_name (codes "__cedar" ∷ own ∷ []) n

abbrev pub extension_view : ExtensionType → CedarType
extension_view e = Extensions (e.name ∷ []) e.is_ordered

-- the library has these extension types, the first where a name stands twice
abbrev pub HasTypes : Library → List ExtensionType → Type 0
HasTypes l es = (s : Text) → l.type s ≡ option_map extension_view (find (λ e. same_text e.name s) es)

-- one more is built in
abbrev pub IsBuiltIn : Text → CedarType → TypeTable → TypeTable → Type 0
IsBuiltIn own t old new = (n : Name) → built_in_at new n ≡ cond (is_built_in_as own n) (Some t) (built_in_at old n)

abbrev pub first_built_in : Option ExtensionType → Option CedarType → Option CedarType
first_built_in (Some e) o = Some (extension_view e)
first_built_in None o = o

-- these extension types are built in
abbrev pub AreBuiltIn : List ExtensionType → TypeTable → TypeTable → Type 0
AreBuiltIn es old new = (n : Name) → built_in_at new n ≡ first_built_in (find (λ e. is_built_in_as e.name n) es) (built_in_at old n)
