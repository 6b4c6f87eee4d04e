-- The entities that the scope of a policy names. (Cedar language reference, "Policy scope".)
use Rattle.std.specs.Prelude.{Bool, true, List, [], ◌∷◌, Option, Some, None, is_some}
use Rattle.cedar_language.specs.Uid.{Uid}
use Rattle.cedar_grammar.specs.Policy.{Constraint, anything, equals, within, of_type, of_type_within, ActionConstraint}
use Rattle.cedar_policy_parts.specs.Actions.{uids_of}
use Rattle.cedar_policy_parts.specs.References.{target_bound}

-- the entity that a constraint names, with == or in; none where its slot isn't bound
abbrev pub named : Option Uid → Constraint → Option Uid
named bound anything = None
named bound (equals t) = target_bound bound t
named bound (within t) = target_bound bound t
named bound (of_type name) = None
named bound (of_type_within name t) = target_bound bound t

-- whether the slot that it names, if it does, is bound
abbrev pub is_settled : Option Uid → Constraint → Bool
is_settled bound anything = true
is_settled bound (equals t) = is_some (target_bound bound t)
is_settled bound (within t) = is_some (target_bound bound t)
is_settled bound (of_type name) = true
is_settled bound (of_type_within name t) = is_some (target_bound bound t)

abbrev pub the_one : List Uid → Option Uid
the_one [] = None
the_one (u ∷ []) = Some u
the_one (u ∷ v ∷ us) = None

-- the entity that a scope names for the action, where it names one alone
abbrev pub named_action : ActionConstraint → Option Uid
named_action a = the_one (uids_of a)
