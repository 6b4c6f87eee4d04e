-- The environments of a schema that a text is: one for each action, and each type of a principal and of a resource that it applies to.
use Rattle.std.specs.Prelude.{◌≡◌, ◌↔◌, true, List, [], ◌∷◌, ◌++◌, map}
use Rattle.cedar_language.specs.Uid.{Name, Uid}
use Rattle.cedar_language.specs.Tree.{SlotId}
use Rattle.cedar_typing.specs.Schema.{Environment, SlotTypes, IsEnvironment}
use Rattle.cedar_schema_grammar.specs.Declared.{Library, Action, Declared, action_uid, action_at}
use Rattle.cedar_schema_grammar.specs.Faults.{principals_of, resources_of}
use Rattle.cedar_schema_grammar.specs.Resolving.{found_types, namespace_of, entries_of, schema_of}
use Rattle.cedar_schema_grammar.specs.Reaching.{IsAmong}

-- an action with the types of a principal and of a resource
pub record Application : Type 0 where
  pub action : Uid
  pub principal : Name
  pub resource : Name

abbrev pub application : Uid → Name → Name → Application
application u n m = record { action = u; principal = n; resource = m }

-- each of the second and each of the third
abbrev pub pairs : Uid → List Name → List Name → List Application
pairs u [] ms = []
pairs u (n ∷ ns) ms = map (application u n) ms ++ pairs u ns ms

-- the entity types of these entries
abbrev pub all_named : Declared → Name → List (List Name) → List Name
all_named d namespace [] = []
all_named d namespace (ns ∷ nss) = found_types d namespace ns ++ all_named d namespace nss

abbrev pub principal_types : Declared → Uid → List Name
principal_types d u = all_named d (namespace_of (action_at d u)) (principals_of (entries_of (action_at d u)))

abbrev pub resource_types : Declared → Uid → List Name
resource_types d u = all_named d (namespace_of (action_at d u)) (resources_of (entries_of (action_at d u)))

abbrev pub applications_of : Declared → List Action → List Application
applications_of d [] = []
applications_of d (a ∷ as_) = pairs (action_uid a) (principal_types d (action_uid a)) (resource_types d (action_uid a)) ++ applications_of d as_

abbrev pub application_of : Environment → Application
application_of e = application e.action e.principal e.resource

-- the environments of a schema are those whose application is listed, with slots as they may be
abbrev pub EnvironmentsAreListed : Type 0
EnvironmentsAreListed =
    (l : Library) (d : Declared) (may : SlotTypes) (e : Environment) → e.schema ≡ schema_of l d → ((s : SlotId) → may s (e.slot s) ≡ true) →
    IsEnvironment (schema_of l d) may e ↔ IsAmong (application_of e) (applications_of d d.actions)
