-- What a template must fulfil to be taken.
use Rattle.std.specs.Prelude.{◌≡◌, ◌≢◌, ⊤, ℕ, List, [], ◌∷◌, true, Option, Some, None, Result, Ok, Err}
use Rattle.std.specs.List.{list_all}
use Rattle.cedar_language.specs.Uid.{Name}
use Rattle.cedar_language.specs.Tree.{SlotId, Tree}
use Rattle.cedar_grammar.specs.Policy.{Policy, slots}
use Rattle.cedar_extensions.specs.Causes.{Cause}
use Rattle.cedar_extensions.specs.Table.{Table}
use Rattle.cedar_extensions.specs.Calls.{calls_in, call_fits, first_fault}
use Rattle.cedar_extensions.specs.ValidationRefusals.{Refuses}
use Rattle.cedar_extensions.specs.declared.validation_errors.ExprValidationError.{ExprValidationError}
use Rattle.cedar_extensions.specs.declared.validation_errors.ExprValidationError.TheVariants as expression
use Rattle.cedar_policy_parts.specs.Actions.{others, uids_of, uids_refused}
use Rattle.cedar_policy_parts.specs.declared.errors.ActionTypeError.{ActionTypeError}
use Rattle.cedar_policy_parts.specs.declared.errors.ActionTypeError.TheVariants as action
use Rattle.cedar_policies.specs.declared.errors.TemplateValidationError.{TemplateValidationError}
use Rattle.cedar_policies.specs.declared.errors.TemplateValidationError.TheVariants.{InvalidActionType, SlotsInConditionClause, SlotCacheMismatch, InvalidExpression, Memory}

-- why a scope's actions aren't taken is why the template isn't
abbrev pub by_actions : ActionTypeError → TemplateValidationError
by_actions (action.InvalidActionType e) = InvalidActionType e
by_actions (action.Memory e) = Memory e

-- why an expression isn't valid is why the template isn't; want of memory stays want of memory
abbrev pub by_expression : ExprValidationError → TemplateValidationError
by_expression (expression.Memory e) = Memory e
by_expression e = InvalidExpression e

-- the calls of what the clauses ask, in the order of a walk over it
abbrev pub clause_calls : Option Tree → List (Name × ℕ)
clause_calls None = []
clause_calls (Some t) = calls_in t

-- what is wrong with a call, and not want of memory
abbrev pub Misfits : Option Cause → ExprValidationError → Type 0
Misfits wrong (expression.Memory e) = ⊥
Misfits wrong e = Refuses wrong e

-- each entity that the scope names as an action is one
abbrev pub NamesActions : Policy → Type 0
NamesActions p = others (uids_of p.action) ≡ []

-- the calls of the clauses fit the table; refused for the first that doesn't, or for memory
abbrev pub ValidatesClauses : {A : Type 0} → Table → Option Tree → Result A TemplateValidationError → Type 0
ValidatesClauses table clauses (Ok a) = list_all (call_fits table) (clause_calls clauses) ≡ true
ValidatesClauses table clauses (Err (InvalidActionType e)) = ⊥
ValidatesClauses table clauses (Err (SlotsInConditionClause e)) = ⊥
ValidatesClauses table clauses (Err SlotCacheMismatch) = ⊥
ValidatesClauses table clauses (Err (InvalidExpression e)) = Misfits (first_fault table (clause_calls clauses)) e
ValidatesClauses table clauses (Err (Memory e)) = ⊤

-- The scope's actions are actions, the slots that are listed are the policy's, and the calls of its clauses fit the table;
-- refused for the first of these that isn't so, or for memory.
abbrev pub Validates : {A : Type 0} → Table → List SlotId → Policy → Result A TemplateValidationError → Type 0
Validates table listed p (Ok a) = NamesActions p × (listed ≡ slots p) × (list_all (call_fits table) (clause_calls p.body) ≡ true)
Validates table listed p (Err (InvalidActionType e)) = others (uids_of p.action) ≡ uids_refused e
Validates table listed p (Err (SlotsInConditionClause e)) = ⊥
Validates table listed p (Err SlotCacheMismatch) = NamesActions p × (listed ≢ slots p)
Validates table listed p (Err (InvalidExpression e)) = NamesActions p × (listed ≡ slots p) × Misfits (first_fault table (clause_calls p.body)) e
Validates table listed p (Err (Memory e)) = ⊤

-- the same is told
abbrev pub TellsSame : TemplateValidationError → TemplateValidationError → Type 0
TellsSame (InvalidActionType e) (InvalidActionType f) = uids_refused f ≡ uids_refused e
TellsSame (SlotsInConditionClause e) (SlotsInConditionClause f) = f ≡ e
TellsSame SlotCacheMismatch SlotCacheMismatch = ⊤
TellsSame (InvalidExpression e) (InvalidExpression f) = f ≡ e
TellsSame (Memory e) (Memory f) = ⊤
TellsSame e f = ⊥
