-- The schema that a text is. (Cedar language reference, "Schema".)
use Rattle.std.specs.Prelude.{Bool, true, false, ◌||◌, ◌&&◌, List, [], ◌∷◌, ◌++◌, map, Option, Some, None, is_some, option_map, unwrap_or}
use Rattle.std.specs.List.{list_any, cons_option}
use Rattle.cedar_language.specs.Uid.{Text, Name}
use Rattle.cedar_language.specs.Order.{same_text, same_name}
use Rattle.cedar_grammar.specs.Steps.{◌>>=◌}
use Rattle.cedar_typing.specs.Types.{CedarType, Booleans, Longs, Strings, Entities, Sets, Records, Extensions, Fields, no_fields}
use Rattle.cedar_typing.specs.Schema.{EntityShape, Schema}
use Rattle.cedar_schema_grammar.specs.Syntax.{TypeSyntax, a_record, AppliesEntry, SchemaSyntax}
use Rattle.cedar_schema_grammar.specs.Declared.{Library, EntityBody, shaped, listed, EntityType, Action, Declared, entity_name, action_uid, declared, entity_at, action_at, or_else, entity_named}
use Rattle.cedar_schema_grammar.specs.Reaching.{leads_through}
use Rattle.cedar_schema_grammar.specs.Written.{type_in}
use Rattle.cedar_schema_grammar.specs.Faults.{SchemaFault, principals_of, resources_of, contexts_of, groups_of, action_reaches, faults_in}

-- ---- entity types

abbrev pub fields_of : Option CedarType → Option Fields
fields_of None = None
fields_of (Some (Booleans b)) = None
fields_of (Some Longs) = None
fields_of (Some Strings) = None
fields_of (Some (Entities n)) = None
fields_of (Some (Sets t)) = None
fields_of (Some (Records fs)) = Some fs
fields_of (Some (Extensions n o)) = None

abbrev pub bare_shape : EntityShape
bare_shape = record { attributes = no_fields; tags = None }

abbrev pub body_shape : Declared → Library → Name → EntityBody → Option EntityShape
body_shape d l namespace (shaped s) =
    option_map
    (λ fs. record { attributes = fs; tags = s.tags >>= type_in d l namespace })
    (fields_of (type_in d l namespace (a_record s.attributes)))
body_shape d l namespace (listed ids) = Some bare_shape

abbrev pub shape_of : Declared → Library → Option EntityType → Option EntityShape
shape_of d l None = None
shape_of d l (Some e) = body_shape d l e.namespace e.body

-- the type of a declared action
abbrev pub is_type_of_action : Declared → Name → Bool
is_type_of_action d n = list_any (λ a. same_name (action_uid a).type_name n) d.actions

abbrev pub action_shape : Bool → Option EntityShape
action_shape true = Some bare_shape
action_shape false = None

abbrev pub entity_shape : Declared → Library → Name → Option EntityShape
entity_shape d l n = or_else (shape_of d l (entity_at d n)) (action_shape (is_type_of_action d n))

-- of an enumeration those that it lists
abbrev pub body_lists : EntityBody → Text → Bool
body_lists (shaped s) id = true
body_lists (listed ids) id = list_any (same_text id) ids

abbrev pub lists : Option EntityType → Text → Bool
lists None id = false
lists (Some e) id = body_lists e.body id

-- ---- which types may be within which

abbrev pub found_types : Declared → Name → List Name → List Name
found_types d namespace [] = []
found_types d namespace (n ∷ ns) = cons_option (entity_named d namespace n) (found_types d namespace ns)

abbrev pub body_parents : Declared → Name → EntityBody → List Name
body_parents d namespace (shaped s) = found_types d namespace s.parents
body_parents d namespace (listed ids) = []

abbrev pub parents_of : Declared → Option EntityType → List Name
parents_of d None = []
parents_of d (Some e) = body_parents d e.namespace e.body

-- an action of the first type is in a group of the second
abbrev pub groups_lead : Declared → Name → Name → Bool
groups_lead d n m =
    list_any (λ a. same_name (action_uid a).type_name n && list_any (λ w. same_name w.type_name m) (groups_of d (action_at d (action_uid a)))) d.actions

-- entities of the first type may have parents of the second
abbrev pub may_have_parent : Declared → Name → Name → Bool
may_have_parent d n m = list_any (same_name m) (parents_of d (entity_at d n)) || groups_lead d n m

abbrev pub types_with_parents : Declared → List Name
types_with_parents d = map entity_name d.entities ++ map (λ a. (action_uid a).type_name) d.actions

abbrev pub type_may_reach : Declared → Name → Name → Bool
type_may_reach d = leads_through (may_have_parent d) (types_with_parents d)

-- ---- what actions apply to

abbrev pub entries_of : Option Action → List AppliesEntry
entries_of None = []
entries_of (Some a) = unwrap_or a.written.applies_to []

abbrev pub namespace_of : Option Action → Name
namespace_of None = []
namespace_of (Some a) = a.namespace

-- among the entity types of these entries
abbrev pub is_named : Declared → Name → List (List Name) → Name → Bool
is_named d namespace [] n = false
is_named d namespace (ns ∷ nss) n = list_any (same_name n) (found_types d namespace ns) || is_named d namespace nss n

abbrev pub applies_by : Declared → Option Action → Name → Name → Bool
applies_by d a n m =
    is_named d (namespace_of a) (principals_of (entries_of a)) n && is_named d (namespace_of a) (resources_of (entries_of a)) m

-- without an entry a context is empty
abbrev pub context_fields : Option Fields → Fields
context_fields None = no_fields
context_fields (Some fs) = fs

abbrev pub context_by : Declared → Library → Name → List TypeSyntax → Fields
context_by d l namespace [] = no_fields
context_by d l namespace (t ∷ ts) = context_fields (fields_of (type_in d l namespace t))

-- ---- the whole

abbrev pub schema_of : Library → Declared → Schema
schema_of l d = record {
  entity = entity_shape d l;
  may_name = λ u. lists (entity_at d u.type_name) u.id || is_some (action_at d u);
  may_reach = type_may_reach d;
  is_action = λ u. is_some (action_at d u);
  action_reaches = action_reaches d;
  applies = λ u n m. applies_by d (action_at d u) n m;
  context = λ u. context_by d l (namespace_of (action_at d u)) (contexts_of (entries_of (action_at d u)));
  signature = l.signature;
}

-- a schema, or all faults that may be told of what the text says
pub data Resolved : Type 0 where
  Resolves : Schema → Resolved
  Faulty : List SchemaFault → Resolved

abbrev pub without_faults : List SchemaFault → Schema → Resolved
without_faults [] s = Resolves s
without_faults (f ∷ fs) s = Faulty (f ∷ fs)

abbrev pub resolved : Library → SchemaSyntax → Resolved
resolved l s = without_faults (faults_in l s (declared s)) (schema_of l (declared s))
