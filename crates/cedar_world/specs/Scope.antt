-- How far the scope of a policy is settled: principal, action and resource are compared with what the scope names, from the
-- left, up to the first one that is missing, unless its type decides. (Cedar language reference, "Scope".)
use Rattle.std.specs.Prelude.{◌≡◌, ◌↔◌, Bool, true, false, Option, Some, None, IsTrue}
use Rattle.std.specs.FinMap as map
use Rattle.cedar_language.specs.Uid.{Name, Uid}
use Rattle.cedar_language.specs.Tree.{Tree}
use Rattle.cedar_language.specs.Order.{same_name, same_uid}
use Rattle.cedar_language.specs.Facts.{Facts}
use Rattle.cedar_language.specs.Operators.{is_within}
use Rattle.cedar_language.specs.Answering.{Standing, Satisfied, Unsatisfied, Residual}
use Rattle.cedar_partial_evaluation.specs.Settling.{and_settled, LeafSettlings, settled_in}
use Rattle.cedar_partial_evaluation.specs.Mentions.{mentions_only}
use Rattle.cedar_grammar.specs.Build.{conjunction}
use Rattle.cedar_grammar.specs.Policy.{the_entity, Constraint, anything, equals, of_type, of_type_within, ActionConstraint, any_action, action_equals}
use Rattle.cedar_grammar.specs.Syntax.{PolicySyntax, condition, is_template}
use Rattle.cedar_world.specs.Asking.{Part, Given, Missing, Question}
use Rattle.cedar_world.specs.Standing.{StandsSoFar}
use Rattle.cedar_grammar.specs.Scopes.{meets, action_meets, and_then_met}

-- whether a type that is stated of what is missing decides: what has another type isn't what is named
abbrev pub unless_other : Bool → Option Bool
unless_other true = None
unless_other false = Some false

abbrev pub by_type : Constraint → Option Name → Option Bool
by_type anything type = Some true
by_type (equals (the_entity e)) (Some ty) = unless_other (same_name ty e.type_name)
by_type (of_type name) (Some ty) = Some (same_name ty name)
by_type (of_type_within name x) (Some ty) = unless_other (same_name ty name)
by_type c type = None

abbrev pub action_by_type : ActionConstraint → Option Name → Option Bool
action_by_type any_action type = Some true
action_by_type (action_equals e) (Some ty) = unless_other (same_name ty e.type_name)
action_by_type c type = None

module _ (is_in : Uid → Uid → Bool) where
  -- whether a part of a question is what the scope asks, where that is known
  abbrev pub met : Constraint → Part → Option Bool
  met anything part = Some true
  met c (Given u) = Some (meets is_in c u)
  met c (Missing type) = None

  abbrev pub action_met : ActionConstraint → Part → Option Bool
  action_met any_action part = Some true
  action_met c (Given u) = Some (action_meets is_in c u)
  action_met c (Missing type) = None

  -- the same by the type as well, where it is missing
  abbrev pub known_of : Constraint → Part → Option Bool
  known_of c (Given u) = met c (Given u)
  known_of c (Missing type) = by_type c type

  abbrev pub action_known_of : ActionConstraint → Part → Option Bool
  action_known_of c (Given u) = action_met c (Given u)
  action_known_of c (Missing type) = action_by_type c type

abbrev pub scope_met : (Uid → Uid → Bool) → PolicySyntax → Question → Option Bool
scope_met is_in s q = and_then_met (and_then_met (met is_in s.principal q.principal) (action_met is_in s.action q.action)) (met is_in s.resource q.resource)

abbrev pub scope_known : (Uid → Uid → Bool) → PolicySyntax → Question → Option Bool
scope_known is_in s q = and_then_met (and_then_met (known_of is_in s.principal q.principal) (action_known_of is_in s.action q.action)) (known_of is_in s.resource q.resource)

abbrev pub standing_met : Option Bool → Standing
standing_met (Some true) = Satisfied
standing_met (Some false) = Unsatisfied
standing_met None = Residual

pub record ScopesSettle : Type 0 where
  -- a policy without slots and clauses stands as its scope says when a question is asked
  pub stands : (facts : Facts) (q : Question) (s : PolicySyntax) → is_template s ≡ false → s.body ≡ None → StandsSoFar facts q map.empty s (standing_met (scope_known (is_within facts) s q))
  -- a condition settles as its parts do, from the left, though literals are folded in it
  pub folded : (facts : Facts) (around : LeafSettlings) (l r : Tree) → settled_in facts around (conjunction l r) ≡ and_settled (settled_in facts around l) (settled_in facts around r)
  -- it names no unknown
  pub names_nothing : (s : PolicySyntax) → s.body ≡ None → mentions_only (λ v. true) true (condition s) ≡ true
  -- where there are no ancestors, `in` is equality
  pub is_equality : (facts : Facts) → ((a b : Uid) → facts.reaches a b ≡ false) → is_within facts ≡ same_uid
  pub decides_equality : (a b : Uid) → IsTrue (same_uid a b) ↔ (a ≡ b)
