-- What a schema's text declares, by full names, and what the names in it stand for. (Cedar language reference, "Schema", name resolution.)
use Rattle.std.specs.Prelude.{cond, List, [], ◌∷◌, ◌++◌, map, Option, Some, None, codes, option_map, unwrap_or}
use Rattle.std.specs.List.{find}
use Rattle.cedar_language.specs.Uid.{Text, Name, Uid}
use Rattle.cedar_language.specs.Order.{same_text, same_name, same_uid}
use Rattle.cedar_typing.specs.Types.{Unsure, CedarType, Booleans, Longs, Strings, Entities}
use Rattle.cedar_typing.specs.Schema.{Signature}
use Rattle.cedar_schema_grammar.specs.Syntax.{TypeSyntax, EntitySyntax, ActionRef, ActionSyntax, Declaration, entities, enumeration, actions, common_type, SchemaSyntax}

-- the extension types by their names, and the extension functions
pub record Library : Type 0 where
  pub type : Text → Option CedarType
  pub signature : Name → Option Signature

-- an entity type as it is written, or the ids of all its entities
pub data EntityBody : Type 0 where
  shaped : EntitySyntax → EntityBody
  listed : List Text → EntityBody

pub record EntityType : Type 0 where
  pub namespace : Name
  pub own : Text
  pub body : EntityBody

pub record CommonType : Type 0 where
  pub namespace : Name
  pub own : Text
  pub type : TypeSyntax

pub record Action : Type 0 where
  pub namespace : Name
  pub own : Text
  pub written : ActionSyntax

pub record Declared : Type 0 where
  pub entities : List EntityType
  pub types : List CommonType
  pub actions : List Action

abbrev pub entity_name : EntityType → Name
entity_name e = e.namespace ++ (e.own ∷ [])

abbrev pub type_name : CommonType → Name
type_name t = t.namespace ++ (t.own ∷ [])

-- the action `a` of the namespace `N` is `N::Action::"a"`
abbrev pub action_uid : Action → Uid
action_uid a = record { type_name = a.namespace ++ (codes "Action" ∷ []); id = a.own }

-- ---- what is declared

abbrev pub entity_types_in : Name → Declaration → List EntityType
entity_types_in p (entities e) = map (λ s. record { namespace = p; own = s; body = shaped e }) e.names
entity_types_in p (enumeration ss ids) = map (λ s. record { namespace = p; own = s; body = listed ids }) ss
entity_types_in p (actions a) = []
entity_types_in p (common_type s t) = []

abbrev pub common_types_in : Name → Declaration → List CommonType
common_types_in p (entities e) = []
common_types_in p (enumeration ss ids) = []
common_types_in p (actions a) = []
common_types_in p (common_type s t) = record { namespace = p; own = s; type = t } ∷ []

abbrev pub actions_in : Name → Declaration → List Action
actions_in p (entities e) = []
actions_in p (enumeration ss ids) = []
actions_in p (actions a) = map (λ s. record { namespace = p; own = s; written = a }) a.names
actions_in p (common_type s t) = []

abbrev pub of_block : {A : Type 0} → (Declaration → List A) → List Declaration → List A
of_block f [] = []
of_block f (d ∷ ds) = f d ++ of_block f ds

-- blocks of one namespace join
abbrev pub of_blocks : {A : Type 0} → (Name → Declaration → List A) → SchemaSyntax → List A
of_blocks f [] = []
of_blocks f (n ∷ ns) = of_block (f n.path) n.declarations ++ of_blocks f ns

abbrev pub declared : SchemaSyntax → Declared
declared s = record { entities = of_blocks entity_types_in s; types = of_blocks common_types_in s; actions = of_blocks actions_in s }

-- ---- by full names

abbrev pub entity_at : Declared → Name → Option EntityType
entity_at d n = find (λ e. same_name (entity_name e) n) d.entities

abbrev pub type_at : Declared → Name → Option CommonType
type_at d n = find (λ t. same_name (type_name t) n) d.types

abbrev pub action_at : Declared → Uid → Option Action
action_at d u = find (λ a. same_uid (action_uid a) u) d.actions

-- ---- by names as they are written

abbrev pub or_else : {A : Type 0} → Option A → Option A → Option A
or_else (Some x) o = Some x
or_else None o = o

abbrev pub first_of : {A B : Type 0} → (A → Option B) → List A → Option B
first_of f [] = None
first_of f (x ∷ xs) = or_else (f x) (first_of f xs)

-- a name alone is looked up in its namespace, then in the empty one; a path as it is written
abbrev pub places : Name → Name → List Name
places namespace (s ∷ []) = (namespace ++ (s ∷ [])) ∷ (s ∷ []) ∷ []
places namespace p = p ∷ []

-- the entity type that a name stands for, where only such a one may stand
abbrev pub entity_named : Declared → Name → Name → Option Name
entity_named d namespace n = first_of (λ m. option_map entity_name (entity_at d m)) (places namespace n)

-- an action that isn't referred to by its type is of the type `Action`
abbrev pub type_of_ref : ActionRef → Name
type_of_ref r = unwrap_or r.type_name (codes "Action" ∷ [])

abbrev pub action_named : Declared → Name → ActionRef → Option Uid
action_named d namespace r = first_of (λ m. option_map action_uid (action_at d (record { type_name = m; id = r.name }))) (places namespace (type_of_ref r))

-- what a name stands for where a type is due
pub data Referent : Type 0 where
  to_common : CommonType → Referent
  to_type : CedarType → Referent

abbrev pub built_in : Library → Text → Option CedarType
built_in l s =
    cond (same_text s (codes "Bool")) (Some (Booleans Unsure))
    (cond (same_text s (codes "Long")) (Some Longs) (cond (same_text s (codes "String")) (Some Strings) (l.type s)))

-- `__cedar::T` is a built-in type by its full name
abbrev pub built_in_path : Library → Name → Option CedarType
built_in_path l (s ∷ []) = built_in l s
built_in_path l (q ∷ s ∷ []) = cond (same_text q (codes "__cedar")) (built_in l s) None
built_in_path l p = None

-- a common type goes before an entity type of its name
abbrev pub declared_as : Declared → Name → Option Referent
declared_as d n = or_else (option_map to_common (type_at d n)) (option_map (λ e. to_type (Entities (entity_name e))) (entity_at d n))

-- what is declared goes before what is built in
abbrev pub referent : Declared → Library → Name → Name → Option Referent
referent d l namespace n = or_else (first_of (declared_as d) (places namespace n)) (option_map to_type (built_in_path l n))
