-- Why a schema's text is no schema though its grammar is kept. (Cedar language reference, "Schema".)
use Rattle.std.specs.Prelude.{Bool, true, false, cond, not, ◌&&◌, ◌||◌, List, [], ◌∷◌, ◌++◌, map, Option, Some, None, codes, is_some, is_none}
use Rattle.std.specs.List.{list_any, cons_option}
use Rattle.cedar_language.specs.Uid.{Text, Name, Uid}
use Rattle.cedar_language.specs.Order.{same_text, same_name, same_uid}
use Rattle.cedar_typing.specs.Types.{CedarType, Booleans, Longs, Strings, Entities, Sets, Records, Extensions}
use Rattle.cedar_schema_grammar.specs.Syntax.{TypeSyntax, named, a_set, a_record, AttributesSyntax, no_attributes, an_attribute, ActionRef, AppliesEntry, principals, resources, context, Namespace, SchemaSyntax}
use Rattle.cedar_schema_grammar.specs.Grammar.{is_one_of}
use Rattle.cedar_schema_grammar.specs.Declared.{Library, EntityBody, shaped, listed, EntityType, CommonType, Action, Declared, entity_name, type_name, action_uid, entity_at, type_at, action_at, entity_named, action_named, referent}
use Rattle.cedar_schema_grammar.specs.Reaching.{leads_through}
use Rattle.cedar_schema_grammar.specs.Written.{type_in, type_reaches}

-- by the names of the Cedar validator
pub data SchemaFault : Type 0 where
  -- a name, as it is written, that stands for no type, or for no entity type where one is due
  TypeNotDefined : Name → SchemaFault
  ActionNotDefined : ActionRef → SchemaFault
  -- a common type that is written in itself, or an action that is within itself
  CycleInCommonTypeReferences : Name → SchemaFault
  CycleInActionHierarchy : Uid → SchemaFault
  -- what is declared twice
  DuplicateEntityType : Name → SchemaFault
  DuplicateCommonType : Name → SchemaFault
  DuplicateAction : Uid → SchemaFault
  -- a name that stands twice among the attributes of a record
  DuplicateAttribute : Text → SchemaFault
  -- a type or an action whose name alone is that of one in no namespace
  TypeShadowing : Name → SchemaFault
  ActionShadowing : Uid → SchemaFault
  -- a context that is written by its name, and is no record
  ContextOrShapeNotRecord : Uid → SchemaFault
  -- an entity type that is named as those of actions are
  ActionEntityTypeDeclared : Name → SchemaFault
  -- a common type that is named as a built-in one, or a type that is named `__cedar`
  ReservedName : Name → SchemaFault
  -- a namespace with `__cedar` in its path
  ReservedNamespace : Name → SchemaFault
  -- an enumeration of no entity
  EmptyEnum : Name → SchemaFault
  -- an action that applies to no principal or to no resource
  EmptyAppliesTo : Uid → SchemaFault
  -- an entry of `appliesTo` that isn't there, or stands twice
  NoPrincipal : Uid → SchemaFault
  NoResource : Uid → SchemaFault
  DuplicatePrincipal : Uid → SchemaFault
  DuplicateResource : Uid → SchemaFault
  DuplicateContext : Uid → SchemaFault

-- the fault, where the test is true
abbrev pub where_true : Bool → SchemaFault → List SchemaFault
where_true b f = cond b (f ∷ []) []

abbrev pub faults_of_all : {A : Type 0} → (A → List SchemaFault) → List A → List SchemaFault
faults_of_all f [] = []
faults_of_all f (x ∷ xs) = f x ++ faults_of_all f xs

-- those that stand before another of their kind
abbrev pub repeated : {A : Type 0} → (A → A → Bool) → List A → List A
repeated same [] = []
repeated same (x ∷ xs) = cond (list_any (same x) xs) (x ∷ repeated same xs) (repeated same xs)

abbrev pub is_empty : {A : Type 0} → List A → Bool
is_empty [] = true
is_empty (x ∷ xs) = false

-- ---- names

abbrev pub is_cedar : Text → Bool
is_cedar s = same_text s (codes "__cedar")

-- names that no common type may have
abbrev pub is_built_in_name : Text → Bool
is_built_in_name s =
    is_one_of
    (codes "Bool" ∷ codes "Boolean" ∷ codes "Entity" ∷ codes "Extension" ∷ codes "Long" ∷ codes "Record" ∷ codes "Set" ∷ codes "String" ∷ [])
    s

abbrev pub is_type_alone : Declared → Text → Bool
is_type_alone d s = is_some (entity_at d (s ∷ [])) || is_some (type_at d (s ∷ []))

-- a type of a namespace, where one of that name stands in none
abbrev pub shadowing : Declared → Name → Text → List SchemaFault
shadowing d namespace s = where_true (not (is_empty namespace) && is_type_alone d s) (TypeShadowing (namespace ++ (s ∷ [])))

abbrev pub namespace_faults : Namespace → List SchemaFault
namespace_faults n = where_true (list_any is_cedar n.path) (ReservedNamespace n.path)

-- ---- types

abbrev pub attribute_names : AttributesSyntax → List Text
attribute_names no_attributes = []
attribute_names (an_attribute k p t xs) = k ∷ attribute_names xs

abbrev pub duplicate_attributes : AttributesSyntax → List SchemaFault
duplicate_attributes xs = map DuplicateAttribute (repeated same_text (attribute_names xs))

abbrev mutual
  pub type_faults : Declared → Library → Name → TypeSyntax → List SchemaFault
  type_faults d l namespace (named n) = where_true (is_none (referent d l namespace n)) (TypeNotDefined n)
  type_faults d l namespace (a_set t) = type_faults d l namespace t
  type_faults d l namespace (a_record xs) = duplicate_attributes xs ++ attribute_faults d l namespace xs

  pub attribute_faults : Declared → Library → Name → AttributesSyntax → List SchemaFault
  attribute_faults d l namespace no_attributes = []
  attribute_faults d l namespace (an_attribute k p t xs) = type_faults d l namespace t ++ attribute_faults d l namespace xs

abbrev pub maybe_type_faults : Declared → Library → Name → Option TypeSyntax → List SchemaFault
maybe_type_faults d l namespace None = []
maybe_type_faults d l namespace (Some t) = type_faults d l namespace t

abbrev pub entity_name_faults : Declared → Name → Name → List SchemaFault
entity_name_faults d namespace n = where_true (is_none (entity_named d namespace n)) (TypeNotDefined n)

-- ---- declarations

abbrev pub body_faults : Declared → Library → EntityType → EntityBody → List SchemaFault
body_faults d l e (shaped s) =
    faults_of_all (entity_name_faults d e.namespace) s.parents
    ++ (type_faults d l e.namespace (a_record s.attributes) ++ maybe_type_faults d l e.namespace s.tags)
body_faults d l e (listed ids) = where_true (is_empty ids) (EmptyEnum (entity_name e))

abbrev pub entity_faults : Declared → Library → EntityType → List SchemaFault
entity_faults d l e =
    where_true (same_text e.own (codes "Action")) (ActionEntityTypeDeclared (entity_name e))
    ++ (where_true (is_cedar e.own) (ReservedName (entity_name e)) ++ (shadowing d e.namespace e.own ++ body_faults d l e e.body))

abbrev pub common_type_faults : Declared → Library → CommonType → List SchemaFault
common_type_faults d l t =
    where_true (is_built_in_name t.own || is_cedar t.own) (ReservedName (type_name t))
    ++ (where_true (type_reaches d l (type_name t) (type_name t)) (CycleInCommonTypeReferences (type_name t))
    ++ (shadowing d t.namespace t.own ++ type_faults d l t.namespace t.type))

-- ---- what actions apply to

abbrev pub principals_of : List AppliesEntry → List (List Name)
principals_of [] = []
principals_of (principals ps ∷ es) = ps ∷ principals_of es
principals_of (resources rs ∷ es) = principals_of es
principals_of (context t ∷ es) = principals_of es

abbrev pub resources_of : List AppliesEntry → List (List Name)
resources_of [] = []
resources_of (principals ps ∷ es) = resources_of es
resources_of (resources rs ∷ es) = rs ∷ resources_of es
resources_of (context t ∷ es) = resources_of es

abbrev pub contexts_of : List AppliesEntry → List TypeSyntax
contexts_of [] = []
contexts_of (principals ps ∷ es) = contexts_of es
contexts_of (resources rs ∷ es) = contexts_of es
contexts_of (context t ∷ es) = t ∷ contexts_of es

-- one entry, and a second is none of its kind
abbrev pub count_faults : {A : Type 0} → List SchemaFault → SchemaFault → List A → List SchemaFault
count_faults missing twice [] = missing
count_faults missing twice (x ∷ []) = []
count_faults missing twice (x ∷ y ∷ xs) = twice ∷ []

abbrev pub names_faults : Declared → Name → Uid → List Name → List SchemaFault
names_faults d namespace u ns = where_true (is_empty ns) (EmptyAppliesTo u) ++ faults_of_all (entity_name_faults d namespace) ns

abbrev pub is_no_record : Option CedarType → Bool
is_no_record None = false
is_no_record (Some (Booleans b)) = true
is_no_record (Some Longs) = true
is_no_record (Some Strings) = true
is_no_record (Some (Entities n)) = true
is_no_record (Some (Sets t)) = true
is_no_record (Some (Records fs)) = false
is_no_record (Some (Extensions n o)) = true

abbrev pub context_faults : Declared → Library → Name → Uid → TypeSyntax → List SchemaFault
context_faults d l namespace u t = where_true (is_no_record (type_in d l namespace t)) (ContextOrShapeNotRecord u) ++ type_faults d l namespace t

abbrev pub entries_faults : Declared → Library → Name → Uid → List AppliesEntry → List SchemaFault
entries_faults d l namespace u es =
    count_faults (NoPrincipal u ∷ []) (DuplicatePrincipal u) (principals_of es)
    ++ (count_faults (NoResource u ∷ []) (DuplicateResource u) (resources_of es)
    ++ (count_faults [] (DuplicateContext u) (contexts_of es)
    ++ (faults_of_all (names_faults d namespace u) (principals_of es ++ resources_of es) ++ faults_of_all (context_faults d l namespace u) (contexts_of es))))

abbrev pub applies_faults : Declared → Library → Name → Uid → Option (List AppliesEntry) → List SchemaFault
applies_faults d l namespace u None = []
applies_faults d l namespace u (Some es) = entries_faults d l namespace u es

-- ---- actions

-- the groups that an action is in, so far as they are declared
abbrev pub found_groups : Declared → Name → List ActionRef → List Uid
found_groups d namespace [] = []
found_groups d namespace (r ∷ rs) = cons_option (action_named d namespace r) (found_groups d namespace rs)

abbrev pub groups_of : Declared → Option Action → List Uid
groups_of d None = []
groups_of d (Some a) = found_groups d a.namespace a.written.groups

-- the second action is a group that the first is in
abbrev pub is_in_group : Declared → Uid → Uid → Bool
is_in_group d u w = list_any (same_uid w) (groups_of d (action_at d u))

abbrev pub action_reaches : Declared → Uid → Uid → Bool
action_reaches d = leads_through (is_in_group d) (map action_uid d.actions)

abbrev pub group_faults : Declared → Name → ActionRef → List SchemaFault
group_faults d namespace r = where_true (is_none (action_named d namespace r)) (ActionNotDefined r)

abbrev pub is_action_alone : Declared → Text → Bool
is_action_alone d s = is_some (action_at d (record { type_name = codes "Action" ∷ []; id = s }))

abbrev pub action_shadowing : Declared → Action → List SchemaFault
action_shadowing d a = where_true (not (is_empty a.namespace) && is_action_alone d a.own) (ActionShadowing (action_uid a))

abbrev pub action_faults : Declared → Library → Action → List SchemaFault
action_faults d l a =
    where_true (action_reaches d (action_uid a) (action_uid a)) (CycleInActionHierarchy (action_uid a))
    ++ (action_shadowing d a
    ++ (faults_of_all (group_faults d a.namespace) a.written.groups ++ applies_faults d l a.namespace (action_uid a) a.written.applies_to))

-- ---- the whole

abbrev pub duplicates : Declared → List SchemaFault
duplicates d =
    map DuplicateEntityType (repeated same_name (map entity_name d.entities))
    ++ (map DuplicateCommonType (repeated same_name (map type_name d.types)) ++ map DuplicateAction (repeated same_uid (map action_uid d.actions)))

abbrev pub declared_faults : Library → Declared → List SchemaFault
declared_faults l d =
    duplicates d
    ++ (faults_of_all (entity_faults d l) d.entities ++ (faults_of_all (common_type_faults d l) d.types ++ faults_of_all (action_faults d l) d.actions))

-- all faults that may be told of a schema's text
abbrev pub faults_in : Library → SchemaSyntax → Declared → List SchemaFault
faults_in l s d = faults_of_all namespace_faults s ++ declared_faults l d
