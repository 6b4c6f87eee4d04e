-- What a scope asks.
use Rattle.std.specs.Prelude.{Option, Some, None, List, length, nat_le, cond}
use Rattle.cedar_grammar.specs.Policy as policy
use Rattle.cedar_grammar.specs.Policy.{Constraint}
use Rattle.cedar_policy_parts.specs.Actions.{action_of}
use Rattle.cedar_policy_parts.specs.declared.actions.ActionConstraint.{ActionConstraint}

-- the principal, the action and the resource
abbrev pub scope_of : Constraint × ActionConstraint × Constraint → Constraint × policy.ActionConstraint × Constraint
scope_of x = (x.0, action_of x.1, x.2)

-- that there are no more than three
abbrev pub no_more : {A : Type 0} → List A → Option Unit
no_more xs = cond (nat_le (length xs) 3) (Some tt) None
