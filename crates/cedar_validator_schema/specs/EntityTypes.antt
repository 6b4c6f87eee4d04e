-- Entity types by their names: their shapes, and the ids of their entities.
use Rattle.std.specs.Prelude.{◌≡◌, Bool, true, false, List, ◌∷◌, Option, option_map, option_and_then}
use Rattle.std.specs.List.{find}
use Rattle.std.specs.Option.{option_map_or}
use Rattle.std.specs.BTreeMap.{get}
use Rattle.std.specs.BTreeSet.{contains}
use Rattle.cedar_language.specs.Uid.{Text, Name}
use Rattle.cedar_language.specs.Order.{same_name, text_cmp, name_cmp}
use Rattle.cedar_typing.specs.Schema as typing
use Rattle.cedar_schema_grammar.specs.Declared.{Library, EntityType, entity_name}
use Rattle.cedar_schema_grammar.specs.Declared as grammar
use Rattle.cedar_schema_grammar.specs.Resolving.{shape_of, lists, parents_of}
use Rattle.cedar_schema_resolution.specs.Shapes.{shape_view, IsUnfolded}
use Rattle.cedar_schema_resolution.specs.Parents.{AreNamesOf}
use Rattle.cedar_schema_resolution.specs.declared.parents.EntityNames.{EntityNames}
use Rattle.cedar_schema.specs.declared.tables.TypeTable.{TypeTable}
use Rattle.cedar_validator_schema.specs.Hierarchies.{targets_at}
use Rattle.cedar_validator_schema.specs.declared.entity_types.EntityIds.{EntityIds}
use Rattle.cedar_validator_schema.specs.declared.entity_types.EntityIds.TheVariants as ids
use Rattle.cedar_validator_schema.specs.declared.entity_types.EntityTypes.{EntityTypes}

-- whether an entity may have the id
abbrev pub may_have : EntityIds → Text → Bool
may_have ids.Any id = true
may_have (ids.Listed all) id = contains text_cmp all id

-- the shape of an entity type, if it has one
abbrev pub shape_at : EntityTypes → Name → Option typing.EntityShape
shape_at t n = option_and_then (λ e. option_map shape_view e.shape) (get name_cmp t.by_name n)

-- whether an entity of the type may have the id
abbrev pub ids_at : EntityTypes → Name → Text → Bool
ids_at t n id = option_map_or (λ e. may_have e.ids id) (get name_cmp t.by_name n) false

-- the first of these of a name
abbrev pub first_at : List EntityType → Name → Option EntityType
first_at es n = find (λ e. same_name (entity_name e) n) es

-- just these have their shapes, the ids of their entities, and the types that these may have parents of
pub record HasTypes (d : grammar.Declared) (l : Library) (es : List EntityType) (t : EntityTypes) : Type 0 where
  pub shapes : (n : Name) → shape_at t n ≡ shape_of d l (first_at es n)
  pub ids : (n : Name) (id : Text) → ids_at t n id ≡ lists (first_at es n) id
  pub parents : (n : Name) → targets_at name_cmp t.parents n ≡ parents_of d (first_at es n)

-- whatever is declared that table and names have: one more type stands before these
abbrev pub PutsType : TypeTable → EntityNames → EntityType → EntityTypes → EntityTypes → Type 0
PutsType t c e old new =
    (d : grammar.Declared) (l : Library) (es : List EntityType) → IsUnfolded d l t → AreNamesOf d c → HasTypes d l es old → HasTypes d l (e ∷ es) new

-- and just these are put
abbrev pub AreTypes : TypeTable → EntityNames → List EntityType → EntityTypes → Type 0
AreTypes t c es types = (d : grammar.Declared) (l : Library) → IsUnfolded d l t → AreNamesOf d c → HasTypes d l es types
