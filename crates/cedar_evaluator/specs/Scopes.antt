-- What the scope of a policy asks, against the entities that a request gives.
use Rattle.std.specs.Prelude.{◌≡◌, ⊤, Bool, true, Option, Some, None, IfSome}
use Rattle.std.specs.Option.{option_copied, option_map}
use Rattle.cedar_language.specs.Uid.{Uid}
use Rattle.cedar_language.specs.Order.{same_name, same_uid}
use Rattle.cedar_language.specs.Meaning.{slot_outcome}
use Rattle.cedar_language.specs.Tree.{Boolean, Entity, Principal, PrincipalSlot, Action, Resource, ResourceSlot, SlotId, Tree, Variable}
use Rattle.cedar_language.specs.Value.{Plain}
use Rattle.cedar_language.specs.Facts.{Facts}
use Rattle.cedar_grammar.specs.Policy.{Constraint, anything, equals, within, of_type, of_type_within, action_tree, constraint_tree, scope_tree}
use Rattle.cedar_grammar.specs.Scopes.{and_then_met}
use Rattle.cedar_partial_evaluation.specs.Partial.{Answer, Evaluated, LeafAnswers, answer_of, partial_in}
use Rattle.cedar_entities.specs.declared.store.Entities.{Entities}
use Rattle.cedar_operators.specs.Store.{HasFacts}
use Rattle.cedar_policies.specs.declared.policies.Policy.{Policy}
use Rattle.cedar_policies.specs.Policies.{bindings_of, policy_syntax}
use Rattle.cedar_evaluator.specs.Asking.{Inquiry, request_held, variable_asked}
use Rattle.cedar_interpreter.specs.Seen.{IsSeen}
use Rattle.cedar_interpreter.specs.declared.given.GivenEntity.{GivenEntity}
use Rattle.cedar_policy_parts.specs.References.{target_bound}
use Rattle.cedar_evaluator.specs.declared.judging.Told.{Told}
use Rattle.cedar_evaluator.specs.declared.judging.Told.TheVariants.{Decided, InScope, Unsaid}
use Rattle.cedar_evaluator.specs.declared.scopes.Scopes.{Scopes}

-- the Boolean that is answered of a tree, where it is decided
abbrev pub IsDecided : Facts → LeafAnswers → Tree → Option Bool → Type 0
IsDecided facts holds t None = ⊤
IsDecided facts holds t (Some b) = partial_in facts holds t ≡ Evaluated (Plain (Boolean b))

-- the tree is a Boolean
abbrev pub IsTold : Facts → LeafAnswers → Tree → Type 0
IsTold facts holds t = (b : Bool) × IsDecided facts holds t (Some b)

-- the entity that stands for a variable, and what the store holds of it
abbrev pub IsGivenAs : Entities → Answer → Option GivenEntity → Type 0
IsGivenAs store a given = IfSome given (λ g. (a ≡ Evaluated (Plain (Entity g.uid.now))) × IsSeen store g.uid.now (option_copied g.entity))

pub record AreScopesOf (i : Inquiry) (store : Entities) (s : Scopes) : Type 0 where
  pub principal : IsGivenAs store (variable_asked i.request Principal) s.principal
  pub action : IsGivenAs store (variable_asked i.request Action) s.action
  pub resource : IsGivenAs store (variable_asked i.request Resource) s.resource

-- ---- what a constraint asks of an entity

-- by a test of what the entity is in; not said where the slot isn't bound
abbrev pub constraint_met : (Uid → Bool) → Uid → Option Uid → Constraint → Option Bool
constraint_met is_in u bound anything = Some true
constraint_met is_in u bound (equals t) = option_map (same_uid u) (target_bound bound t)
constraint_met is_in u bound (within t) = option_map is_in (target_bound bound t)
constraint_met is_in u bound (of_type name) = Some (same_name u.type_name name)
constraint_met is_in u bound (of_type_within name t) = and_then_met (Some (same_name u.type_name name)) (option_map is_in (target_bound bound t))

-- where no entity is given
abbrev pub unasked : Constraint → Option Bool
unasked anything = Some true
unasked c = None

-- ---- what is said of a policy's scope

abbrev pub principal_asked : Policy → Tree
principal_asked p = constraint_tree Principal PrincipalSlot (policy_syntax p).principal

abbrev pub action_asked : Policy → Tree
action_asked p = action_tree (policy_syntax p).action

abbrev pub resource_asked : Policy → Tree
resource_asked p = constraint_tree Resource ResourceSlot (policy_syntax p).resource

abbrev pub scope_asked : Policy → Tree
scope_asked p = scope_tree (policy_syntax p)

-- so it is for every inquiry and over the facts of every store of which these are the scopes
abbrev pub WhereAsked : Scopes → Policy → (Facts → LeafAnswers → Type 0) → Type 0
WhereAsked scopes p says =
    (i : Inquiry) (store : Entities) (facts : Facts) → AreScopesOf i store scopes → HasFacts store facts → says facts (request_held i (bindings_of p))

-- this is answered of a part of the policy's scope
abbrev pub Decides : Scopes → Policy → (Policy → Tree) → Option Bool → Type 0
Decides scopes p part told = WhereAsked scopes p (λ facts holds. IsDecided facts holds (part p) told)

-- so is told of a policy: what is answered of its condition, or that its scope holds
abbrev pub Tells : Facts → LeafAnswers → Policy → Tree → Told → Type 0
Tells facts holds p condition (Decided b) = IsDecided facts holds condition (Some b)
Tells facts holds p condition InScope = IsDecided facts holds (scope_asked p) (Some true)
Tells facts holds p condition Unsaid = ⊤

-- so it is over the facts of every store, of a variable that stands for what is given and a slot that is bound so
abbrev pub WhereGiven : Option GivenEntity → Option Uid → (Facts → LeafAnswers → Variable → SlotId → Type 0) → Type 0
WhereGiven given bound says =
    (facts : Facts) (store : Entities) (holds : LeafAnswers) (v : Variable) (s : SlotId) →
    HasFacts store facts → IsGivenAs store (holds.variable v) given → holds.slot s ≡ answer_of (slot_outcome bound) → says facts holds v s
