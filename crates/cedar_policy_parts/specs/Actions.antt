-- What a scope asks of the action, as the grammar has it.
use Rattle.std.specs.Prelude.{◌≡◌, ⊤, Bool, not, List, [], ◌∷◌, map, filter, Result, Ok, Err, codes}
use Rattle.std.specs.declared.rc.Rc.{Rc}
use Rattle.std.specs.declared.alloc.Global.{Global}
use Rattle.cedar_language.specs.Uid.{Name, Uid}
use Rattle.cedar_language.specs.Order.{same_text}
use Rattle.cedar_language.specs.Tree as tree
use Rattle.cedar_language.specs.Tree.{Tree}
use Rattle.cedar_names.specs.Names.{basename_of}
use Rattle.cedar_grammar.specs.Policy as policy
use Rattle.cedar_policy_parts.specs.declared.actions.ActionConstraint.{ActionConstraint}
use Rattle.cedar_policy_parts.specs.declared.actions.ActionConstraint.TheVariants.{Any, In, Eq}
use Rattle.cedar_policy_parts.specs.declared.policies.InvalidActionType as refusal
use Rattle.cedar_policy_parts.specs.declared.errors.ActionTypeError.{ActionTypeError}
use Rattle.cedar_policy_parts.specs.declared.errors.ActionTypeError.TheVariants.{InvalidActionType, Memory}

abbrev pub held_uids : List (Rc Uid Global) → List Uid
held_uids rs = map (λ r. r.value) rs

abbrev pub action_of : ActionConstraint → policy.ActionConstraint
action_of Any = policy.any_action
action_of (In us) = policy.action_within_any (held_uids us.items)
action_of (Eq u) = policy.action_equals u.value

abbrev pub entity_literal : Uid → Tree
entity_literal u = tree.Lit (tree.Entity u)

-- the uids that a constraint names
abbrev pub uids_of : policy.ActionConstraint → List Uid
uids_of policy.any_action = []
uids_of (policy.action_equals u) = u ∷ []
uids_of (policy.action_within_any us) = us

abbrev pub types_of : policy.ActionConstraint → List Name
types_of a = map (λ u. u.type_name) (uids_of a)

-- an entity that is no action: the last identifier of its type isn't `Action`
abbrev pub is_other : Uid → Bool
is_other u = not (same_text (basename_of u.type_name) (codes "Action"))

abbrev pub others : List Uid → List Uid
others us = filter is_other us

-- the uids that a refusal tells
abbrev pub uids_refused : refusal.InvalidActionType → List Uid
uids_refused e = e.euids.head.value ∷ held_uids e.euids.tail.items

-- refused with these, where there are any, or for memory
abbrev pub RefusesOthers : {A : Type 0} → List Uid → Result A ActionTypeError → Type 0
RefusesOthers us (Ok a) = us ≡ []
RefusesOthers us (Err (InvalidActionType e)) = us ≡ uids_refused e
RefusesOthers us (Err (Memory m)) = ⊤

-- the same is refused, with the same uids
abbrev pub TellsSame : ActionTypeError → ActionTypeError → Type 0
TellsSame (InvalidActionType e) (InvalidActionType f) = uids_refused f ≡ uids_refused e
TellsSame (Memory m) (Memory n) = ⊤
TellsSame e f = ⊥
