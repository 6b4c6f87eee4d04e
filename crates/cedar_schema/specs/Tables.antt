-- What a table of names says, and the types that are written by it.
use Rattle.std.specs.Prelude.{◌≡◌, List, [], ◌∷◌, map, Option, Some, None, option_map, option_to_list}
use Rattle.std.specs.BTreeMap.{get}
use Rattle.cedar_language.specs.Uid.{Text, Name}
use Rattle.cedar_language.specs.Order.{name_cmp}
use Rattle.cedar_typing.specs.Types.{Presence, CedarType, Field, Fields, no_fields}
use Rattle.cedar_schema_grammar.specs.Syntax.{TypeSyntax, AttributesSyntax, no_attributes, an_attribute}
use Rattle.cedar_schema_grammar.specs.Declared.{Library, CommonType, Declared, Referent, first_of, places, built_in_path, declared_as}
use Rattle.cedar_schema_grammar.specs.Written.{with_field, stands_for, written}
use Rattle.cedar_schema.specs.Types.{type_view}
use Rattle.cedar_schema.specs.declared.places.Places.{Places}
use Rattle.cedar_schema.specs.declared.tables.TypeTable.{TypeTable}

-- the names at which a name is looked up
abbrev pub places_view : Places → List Name
places_view p = p.first ∷ option_to_list p.second

-- what stands at a full name: nothing where it isn't declared, and no type while that isn't known
abbrev pub entry_at : TypeTable → Name → Option (Option CedarType)
entry_at t n = option_map (option_map type_view) (get name_cmp t.declared n)

-- the built-in type of a name
abbrev pub built_in_at : TypeTable → Name → Option CedarType
built_in_at t n = option_map type_view (get name_cmp t.built_in n)

abbrev pub or_built_in : Option (Option CedarType) → Option CedarType → Option CedarType
or_built_in (Some o) b = o
or_built_in None b = b

-- the type that a name stands for in a namespace, if it is known
abbrev pub named_type : TypeTable → Name → Name → Option CedarType
named_type t namespace n = or_built_in (first_of (entry_at t) (places namespace n)) (built_in_at t n)

abbrev pub type_for : (CommonType → Option CedarType) → Referent → Option CedarType
type_for common r = stands_for common (Some r)

-- the table has each declared type, a common one where its type is known, and the built-in types
pub record IsTableOf (common : CommonType → Option CedarType) (d : Declared) (l : Library) (t : TypeTable) : Type 0 where
  pub declared : (n : Name) → entry_at t n ≡ option_map (type_for common) (declared_as d n)
  pub built_in : (n : Name) → built_in_at t n ≡ built_in_path l n

-- attributes as they are written, each with its type, if all have one
abbrev pub typed_more : Text → Presence → Option CedarType → Option (List (Text × Field)) → Option (List (Text × Field))
typed_more k p (Some t) (Some fs) = Some ((k, record { presence = p; type = t }) ∷ fs)
typed_more k p t fs = None

abbrev pub typed_all : (CommonType → Option CedarType) → Declared → Library → Name → AttributesSyntax → Option (List (Text × Field))
typed_all common d l namespace no_attributes = Some []
typed_all common d l namespace (an_attribute k p t xs) = typed_more k p (written common d l namespace t) (typed_all common d l namespace xs)

-- attributes in rising order, if none stands twice
abbrev pub in_order : List (Text × Field) → Option Fields
in_order [] = Some no_fields
in_order (f ∷ fs) = with_field f.0 f.1.presence (Some f.1.type) (in_order fs)

abbrev pub all_in_order : Option (List (Text × Field)) → Option Fields
all_in_order (Some fs) = in_order fs
all_in_order None = None

-- whatever is known of common types, this is the type that is written
abbrev pub IsWritten : TypeTable → Name → TypeSyntax → Option CedarType → Type 0
IsWritten t namespace s o = (common : CommonType → Option CedarType) (d : Declared) (l : Library) → IsTableOf common d l t → o ≡ written common d l namespace s

-- and these are the attributes, each with its type
abbrev pub AreTyped : TypeTable → Name → AttributesSyntax → Option (List (Text × Field)) → Type 0
AreTyped t namespace xs o = (common : CommonType → Option CedarType) (d : Declared) (l : Library) → IsTableOf common d l t → o ≡ typed_all common d l namespace xs
