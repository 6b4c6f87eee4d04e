-- What a scope asks of the principal, or of the resource, as the grammar has it.
use Rattle.std.specs.Prelude.{◌≡◌, ◌≢◌, List, [], ◌∷◌, ◌++◌, Option, Some, None, Result, Ok, Err}
use Rattle.cedar_language.specs.Uid.{Name, Uid}
use Rattle.cedar_language.specs.Tree as tree
use Rattle.cedar_language.specs.Tree.{SlotId, PrincipalSlot, ResourceSlot}
use Rattle.cedar_literals.specs.Variables.{variable_of}
use Rattle.cedar_literals.specs.declared.variables.Var.{Var}
use Rattle.cedar_grammar.specs.Policy as policy
use Rattle.cedar_grammar.specs.Policy.{Target, the_entity, the_slot, Constraint}
use Rattle.cedar_policy_parts.specs.References.{target_of}
use Rattle.cedar_policy_parts.specs.declared.constraints.PrincipalOrResource.{PrincipalOrResource}
use Rattle.cedar_policy_parts.specs.declared.constraints.PrincipalOrResource.TheVariants.{Principal, Resource}
use Rattle.cedar_policy_parts.specs.declared.constraints.PrincipalOrResourceConstraint.{PrincipalOrResourceConstraint}
use Rattle.cedar_policy_parts.specs.declared.constraints.PrincipalOrResourceConstraint.TheVariants.{Any, In, Eq, Is, IsIn}

abbrev pub variable_asked : PrincipalOrResource → tree.Variable
variable_asked Principal = tree.Principal
variable_asked Resource = tree.Resource

abbrev pub slot_asked : PrincipalOrResource → SlotId
slot_asked Principal = PrincipalSlot
slot_asked Resource = ResourceSlot

-- the variable is one of the two, or is given back
abbrev pub IsAsked : Var → Result PrincipalOrResource Var → Type 0
IsAsked var (Ok v) = variable_of var ≡ variable_asked v
IsAsked var (Err back) = (back ≡ var) × ((v : PrincipalOrResource) → variable_of var ≢ variable_asked v)

abbrev pub constraint_of : PrincipalOrResourceConstraint → Constraint
constraint_of Any = policy.anything
constraint_of (In e) = policy.within (target_of e)
constraint_of (Eq e) = policy.equals (target_of e)
constraint_of (Is ty) = policy.of_type ty.value
constraint_of (IsIn ty e) = policy.of_type_within ty.value (target_of e)

abbrev pub entity_in : Target → Option Uid
entity_in (the_entity u) = Some u
entity_in the_slot = None

-- the entity that a constraint names
abbrev pub entity_of : Constraint → Option Uid
entity_of policy.anything = None
entity_of (policy.equals e) = entity_in e
entity_of (policy.within e) = entity_in e
entity_of (policy.of_type p) = None
entity_of (policy.of_type_within p e) = entity_in e

-- the type that it names by itself
abbrev pub type_of : Constraint → Option Name
type_of (policy.of_type p) = Some p
type_of (policy.of_type_within p e) = Some p
type_of c = None

abbrev pub type_in : Option Uid → Option Name
type_in None = None
type_in (Some u) = Some u.type_name

abbrev pub listed_type : Option Name → List Name
listed_type None = []
listed_type (Some p) = p ∷ []

-- the types that it names: that of its entity, and the one that stands by itself
abbrev pub types_of : Constraint → List Name
types_of c = listed_type (type_in (entity_of c)) ++ listed_type (type_of c)
