-- The policies that are left of those of a response: each a static policy of one clause, for every request.
use Rattle.std.specs.Prelude.{◌≡◌, Bool, true, false, Option, Some, IfSome, option_map, List, ◌++◌, map, filter}
use Rattle.std.specs.Map.{lookup}
use Rattle.std.specs.declared.alloc.Global.{Global}
use Rattle.std.specs.declared.rc.Rc.{Rc}
use Rattle.cedar_grammar.specs.Build.{Keyed}
use Rattle.cedar_grammar.specs.Policy as grammar
use Rattle.cedar_grammar.specs.Policy.{anything, any_action}
use Rattle.cedar_language.specs.Answering as answering
use Rattle.cedar_language.specs.Answering.{Effect, Permit, Forbid, Judged}
use Rattle.cedar_language.specs.Order.{same_text}
use Rattle.cedar_language.specs.Tree.{Tree, Lit, Boolean}
use Rattle.cedar_language.specs.Uid.{Text}
use Rattle.cedar_policies.specs.Policies.{policy_id}
use Rattle.cedar_policies.specs.declared.policies.Policy.{Policy}
use Rattle.cedar_policy_set.specs.Bounds.{policy_entry}
use Rattle.cedar_policy_set.specs.Entries.{Entry, static_policy, Entries}
use Rattle.cedar_trees.specs.Bare.{bare}
use Rattle.cedar_trees.specs.declared.expr.Expr.{Expr}
use Rattle.cedar_evaluator.specs.Given.{Noted}
use Rattle.cedar_evaluator.specs.Responses.{stands}
use Rattle.cedar_evaluator.specs.declared.partial_response.ErrorState.{ErrorState}
use Rattle.cedar_evaluator.specs.declared.partial_response.PartialResponse.{PartialResponse}

-- the policy of this one clause and these annotations
abbrev pub clause_policy : Effect → Tree → List (Keyed Text) → grammar.Policy
clause_policy effect clause annotations = record {
  effect = effect;
  annotations = annotations;
  principal = anything;
  action = any_action;
  resource = anything;
  body = Some clause;
}

-- under its id, as a policy set binds it
abbrev pub residual_policy : Effect → Text → Tree → List (Keyed Text) → Text × Entry
residual_policy effect id clause annotations = (id, static_policy (clause_policy effect clause annotations))

-- ---- of one policy of a group: of a satisfied one `true` is left, of one that isn't `false`, and of an open one what is left of its condition

abbrev pub left_satisfied : Effect → Text × Noted → Text × Entry
left_satisfied effect e = residual_policy effect e.0 (Lit (Boolean true)) e.1.value

abbrev pub left_false : Effect → Text × (ErrorState × Noted) → Text × Entry
left_false effect e = residual_policy effect e.0 (Lit (Boolean false)) e.1.1.value

abbrev pub left_open : Effect → Text × (Rc (Expr (Unit {0})) Global × Noted) → Text × Entry
left_open effect e = residual_policy effect e.0 (bare e.1.0.value) e.1.1.value

-- ---- of all: how each stands, and what is left of it

abbrev pub judged_satisfied : Effect → Text × Noted → Judged × (Text × Entry)
judged_satisfied effect e = (stands effect answering.Satisfied e.0, left_satisfied effect e)

abbrev pub judged_false : Effect → Text × (ErrorState × Noted) → Judged × (Text × Entry)
judged_false effect e = (stands effect answering.Unsatisfied e.0, left_false effect e)

abbrev pub judged_open : Effect → Text × (Rc (Expr (Unit {0})) Global × Noted) → Judged × (Text × Entry)
judged_open effect e = (stands effect answering.Residual e.0, left_open effect e)

-- in the order of `judged_held`
abbrev pub judged_residuals : PartialResponse → List (Judged × (Text × Entry))
judged_residuals r =
    map (judged_satisfied Permit) r.satisfied_permits
    ++ map (judged_false Permit) r.false_permits
    ++ map (judged_open Permit) r.residual_permits
    ++ map (judged_satisfied Forbid) r.satisfied_forbids
    ++ map (judged_false Forbid) r.false_forbids
    ++ map (judged_open Forbid) r.residual_forbids

-- what is left of those that pass a test
abbrev pub residuals_with : (Judged → Bool) → PartialResponse → Entries
residuals_with test r = map (λ p. p.1) (filter (λ p. test p.0) (judged_residuals r))

abbrev pub is_any : Judged → Bool
is_any j = true

abbrev pub is_satisfied : Judged → Bool
is_satisfied j = answering.is_satisfied j.standing

abbrev pub is_residual : Judged → Bool
is_residual j = answering.is_residual j.standing

-- ---- at an id: the open policies are asked first, then the satisfied ones, then the others

abbrev pub of_effect : Effect → List (Text × (Rc (Expr (Unit {0})) Global × Noted)) → List (Text × Noted) → List (Text × (ErrorState × Noted)) → Entries
of_effect effect residuals satisfied others = map (left_open effect) residuals ++ map (left_satisfied effect) satisfied ++ map (left_false effect) others

-- permits before forbids
abbrev pub residual_at : PartialResponse → Text → Option Entry
residual_at r id =
    lookup (same_text id)
    (of_effect Permit r.residual_permits r.satisfied_permits r.false_permits
    ++ of_effect Forbid r.residual_forbids r.satisfied_forbids r.false_forbids)

-- the policy that is found, if one is, is what is bound to the id
pub record IsFound (id : Text) (bound : Option Entry) (found : Option Policy) : Type 0 where
  pub entry : option_map policy_entry found ≡ bound
  pub named : IfSome found (λ policy. policy_id policy ≡ id)

-- ---- those that erred

abbrev pub erring_ids : List (Text × Bool) → List Text
erring_ids es = map (λ e. e.0) (filter (λ e. e.1) es)
