-- The entities that the slots of a template are bound to. (Cedar language reference, "Policy templates".)
use Rattle.std.specs.Prelude.{List, [], ◌∷◌, ◌++◌, Option, Some, None}
use Rattle.cedar_language.specs.Uid.{Uid}
use Rattle.cedar_language.specs.Tree.{SlotId, PrincipalSlot, ResourceSlot}
pub use Rattle.cedar_grammar.specs.Bindings.{Bindings, binding_of}

abbrev pub unbound : Bindings
unbound = record { principal = None; resource = None }

-- one slot bound to an entity, and the other one as it was
abbrev pub with_entity : Bindings → SlotId → Uid → Bindings
with_entity b PrincipalSlot u = record b { principal = Some u }
with_entity b ResourceSlot u = record b { resource = Some u }

abbrev pub where_bound : SlotId → Option Uid → List SlotId
where_bound s None = []
where_bound s (Some u) = s ∷ []

-- the slots that are bound, the principal's first
abbrev pub bound_slots : Bindings → List SlotId
bound_slots b = where_bound PrincipalSlot b.principal ++ where_bound ResourceSlot b.resource
