-- Whether what is given is what a scope asks. (Cedar language reference, "Scope".)
use Rattle.std.specs.Prelude.{Bool, true, false, ◌&&◌, Option, Some, None}
use Rattle.std.specs.List.{list_any}
use Rattle.cedar_language.specs.Uid.{Uid}
use Rattle.cedar_language.specs.Order.{same_name, same_uid}
use Rattle.cedar_grammar.specs.Policy.{the_entity, Constraint, anything, equals, within, of_type, of_type_within, ActionConstraint, any_action, action_equals, action_within_any}

module _ (is_in : Uid → Uid → Bool) where
  -- whether a principal or a resource is what the scope asks; a slot that isn't bound is nothing
  abbrev pub meets : Constraint → Uid → Bool
  meets anything u = true
  meets (equals (the_entity e)) u = same_uid u e
  meets (within (the_entity e)) u = is_in u e
  meets (of_type name) u = same_name u.type_name name
  meets (of_type_within name (the_entity e)) u = same_name u.type_name name && is_in u e
  meets _ u = false

  abbrev pub action_meets : ActionConstraint → Uid → Bool
  action_meets any_action u = true
  action_meets (action_equals e) u = same_uid u e
  action_meets (action_within_any es) u = list_any (is_in u) es

-- from the left: what is false decides, and what isn't known leaves it open
abbrev pub and_then_met : Option Bool → Option Bool → Option Bool
and_then_met (Some true) next = next
and_then_met (Some false) next = Some false
and_then_met None next = None
