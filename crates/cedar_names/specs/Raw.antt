-- Names of a schema before they are resolved.
use Rattle.std.specs.Prelude.{◌||◌, Bool, List, [], ◌∷◌, ◌++◌, Option, Some, None, if◌then◌else◌}
use Rattle.std.specs.BTreeSet.{contains}
use Rattle.cedar_language.specs.Uid.{Name}
use Rattle.cedar_language.specs.Order.{name_cmp}
use Rattle.cedar_names.specs.Names.{is_unqualified}
use Rattle.cedar_names.specs.declared.raw_names.AllDefs.{AllDefs}
use Rattle.cedar_names.specs.declared.raw_names.ConditionalName.{ConditionalName}
use Rattle.cedar_names.specs.declared.raw_names.ReferenceType.{ReferenceType}
use Rattle.cedar_names.specs.declared.raw_names.ReferenceType.TheVariants.{Common, Entity, CommonOrEntity}

-- what a name may resolve to: in this namespace first, where it has none of its own
abbrev pub candidates : Option Name → Name → List Name
candidates None n = n ∷ []
candidates (Some namespace) n = if is_unqualified n then (namespace ++ n) ∷ n ∷ [] else n ∷ []

abbrev pub candidates_of : ConditionalName → List Name
candidates_of c = c.possibilities.items

abbrev pub reference_type_of : ConditionalName → ReferenceType
reference_type_of c = c.reference_type

abbrev pub raw_of : ConditionalName → Name
raw_of c = c.raw

abbrev pub is_common : AllDefs → Name → Bool
is_common defs = contains name_cmp defs.common_types

abbrev pub is_entity : AllDefs → Name → Bool
is_entity defs = contains name_cmp defs.entity_types

-- whether something of this name that the reference may mean is declared
abbrev pub is_declared : AllDefs → ReferenceType → Name → Bool
is_declared defs Common n = is_common defs n
is_declared defs Entity n = is_entity defs n
is_declared defs CommonOrEntity n = is_common defs n || is_entity defs n
