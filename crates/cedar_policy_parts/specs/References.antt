-- What a scope compares its variable with, as the grammar has it.
use Rattle.std.specs.Prelude.{Option, Some}
use Rattle.cedar_language.specs.Uid.{Uid}
use Rattle.cedar_grammar.specs.Policy.{Target, the_entity, the_slot}
use Rattle.cedar_policy_parts.specs.declared.references.EntityReference.{EntityReference}
use Rattle.cedar_policy_parts.specs.declared.references.EntityReference.TheVariants.{EUID, Slot}

abbrev pub target_of : EntityReference → Target
target_of (EUID u) = the_entity u.value
target_of (Slot loc) = the_slot

-- the entity that it names, or that its slot is bound to
abbrev pub target_bound : Option Uid → Target → Option Uid
target_bound bound (the_entity u) = Some u
target_bound bound the_slot = bound
