-- The syntax of a policy, its condition and its slots. (Cedar language reference, "Policy syntax" and "Policy templates".)
use Rattle.std.specs.Prelude.{Bool, List, [], ◌∷◌, ◌++◌, Option, Some, None, true, false, map}
use Rattle.std.specs.List.{list_any}
use Rattle.cedar_language.specs.Uid.{Text, Name, Uid}
pub use Rattle.cedar_language.specs.Slots.{Slots, tree_slots, trees_slots, bound_slot, bound_tree, bound_trees}
use Rattle.cedar_language.specs.Tree as tree
use Rattle.cedar_language.specs.Tree.{Tree, Trees, Lit, Var, Slot, Apply, no_trees, a_tree, SlotId, PrincipalSlot, ResourceSlot, Variable}
pub use Rattle.cedar_language.specs.Answering.{Effect, Permit, Forbid}
use Rattle.cedar_grammar.specs.Build.{truth, trees, unary, binary, conjunction, is_in, Keyed}

-- what a scope compares its variable with: an entity, or the template's slot for this variable
pub data Target : Type 0 where
  the_entity : Uid → Target
  the_slot : Target

-- what a scope asks of the principal, or of the resource
pub data Constraint : Type 0 where
  anything : Constraint
  equals : Target → Constraint
  within : Target → Constraint
  of_type : Name → Constraint
  of_type_within : Name → Target → Constraint

-- what it asks of the action; `action in E` is `action in [E]`
pub data ActionConstraint : Type 0 where
  any_action : ActionConstraint
  action_equals : Uid → ActionConstraint
  action_within_any : List Uid → ActionConstraint

-- Annotations stand by their keys in rising order; `body` is the tree of the clauses, where there are any.
pub record Policy : Type 0 where
  pub effect : Effect
  pub annotations : List (Keyed Text)
  pub principal : Constraint
  pub action : ActionConstraint
  pub resource : Constraint
  pub body : Option Tree

-- ---- the condition

abbrev pub target_tree : SlotId → Target → Tree
target_tree s (the_entity u) = Lit (tree.Entity u)
target_tree s the_slot = Slot s

-- of a variable and its slot
abbrev pub constraint_tree : Variable → SlotId → Constraint → Tree
constraint_tree v s anything = truth true
constraint_tree v s (equals e) = binary tree.Equal (Var v) (target_tree s e)
constraint_tree v s (within e) = binary tree.In (Var v) (target_tree s e)
constraint_tree v s (of_type p) = unary (tree.Is p) (Var v)
constraint_tree v s (of_type_within p e) = is_in p (Var v) (target_tree s e)

abbrev pub action_tree : ActionConstraint → Tree
action_tree any_action = truth true
action_tree (action_equals u) = binary tree.Equal (Var tree.Action) (Lit (tree.Entity u))
action_tree (action_within_any us) = binary tree.In (Var tree.Action) (Apply tree.MakeSet (trees (map (λ u. Lit (tree.Entity u)) us)))

abbrev pub scope_tree : Policy → Tree
scope_tree p = conjunction (conjunction (constraint_tree tree.Principal PrincipalSlot p.principal) (action_tree p.action)) (constraint_tree tree.Resource ResourceSlot p.resource)

abbrev pub with_body : Tree → Option Tree → Tree
with_body scope None = scope
with_body scope (Some c) = conjunction scope c

-- ((principal && action) && resource) && clauses
abbrev pub condition : Policy → Tree
condition p = with_body (scope_tree p) p.body

-- ---- slots

abbrev pub target_slots : SlotId → Target → List SlotId
target_slots s (the_entity u) = []
target_slots s the_slot = s ∷ []

abbrev pub constraint_slots : SlotId → Constraint → List SlotId
constraint_slots s anything = []
constraint_slots s (equals e) = target_slots s e
constraint_slots s (within e) = target_slots s e
constraint_slots s (of_type p) = []
constraint_slots s (of_type_within p e) = target_slots s e

abbrev pub scope_slots : Policy → List SlotId
scope_slots p = constraint_slots PrincipalSlot p.principal ++ constraint_slots ResourceSlot p.resource

abbrev pub body_slots : Option Tree → List SlotId
body_slots None = []
body_slots (Some c) = tree_slots c

-- at each place of the scope and of the clauses where one stands
abbrev pub held_slots : Policy → List SlotId
held_slots p = scope_slots p ++ body_slots p.body

abbrev pub is_slot : SlotId → SlotId → Bool
is_slot PrincipalSlot PrincipalSlot = true
is_slot ResourceSlot ResourceSlot = true
is_slot _ _ = false

abbrev pub holds_slot : Policy → SlotId → Bool
holds_slot p s = list_any (is_slot s) (held_slots p)

abbrev pub where_held : Bool → SlotId → List SlotId
where_held true s = s ∷ []
where_held false s = []

-- the slots of a policy, those of its scope and of its clauses: each once, the principal's first
abbrev pub slots : Policy → List SlotId
slots p = where_held (holds_slot p PrincipalSlot) PrincipalSlot ++ where_held (holds_slot p ResourceSlot) ResourceSlot

-- ---- binding slots

abbrev pub bound_target : Option Uid → Target → Target
bound_target (Some u) the_slot = the_entity u
bound_target b e = e

abbrev pub bound_constraint : Option Uid → Constraint → Constraint
bound_constraint b anything = anything
bound_constraint b (equals e) = equals (bound_target b e)
bound_constraint b (within e) = within (bound_target b e)
bound_constraint b (of_type p) = of_type p
bound_constraint b (of_type_within p e) = of_type_within p (bound_target b e)

abbrev pub bound_body : Slots → Option Tree → Option Tree
bound_body b None = None
bound_body b (Some c) = Some (bound_tree b c)

-- the policy with the bound entities in the place of its slots
abbrev pub bound : Slots → Policy → Policy
bound b p = record p { principal = bound_constraint (b PrincipalSlot) p.principal; resource = bound_constraint (b ResourceSlot) p.resource; body = bound_body b p.body }
