-- Names that are put into a table.
use Rattle.std.specs.Prelude.{◌≡◌, List, cond, Option, Some}
use Rattle.std.specs.List.{list_any}
use Rattle.cedar_language.specs.Uid.{Name}
use Rattle.cedar_language.specs.Order.{same_name}
use Rattle.cedar_typing.specs.Types.{CedarType}
use Rattle.cedar_schema.specs.Tables.{entry_at, built_in_at}
use Rattle.cedar_schema.specs.declared.tables.TypeTable.{TypeTable}

-- at each of these names stands what is known of it
abbrev pub ArePut : List Name → (Name → Option CedarType) → TypeTable → TypeTable → Type 0
ArePut names known old new = (n : Name) → entry_at new n ≡ cond (list_any (λ m. same_name m n) names) (Some (known n)) (entry_at old n)

abbrev pub SameBuiltIn : TypeTable → TypeTable → Type 0
SameBuiltIn old new = (n : Name) → built_in_at new n ≡ built_in_at old n

abbrev pub SameDeclared : TypeTable → TypeTable → Type 0
SameDeclared old new = (n : Name) → entry_at new n ≡ entry_at old n
