-- Whether it is told of the principal, whose slot is bound as the policy binds it.
use Rattle.std.proofs.Common.{◌≡◌, ap, sym, ◌∙◌, subst}
use Rattle.cedar_language.specs.Meaning.{slot_outcome}
use Rattle.cedar_language.specs.Tree.{Principal, PrincipalSlot}
use Rattle.cedar_grammar.specs.Policy.{Constraint, constraint_tree}
use Rattle.cedar_partial_evaluation.specs.Partial.{answer_of}
use Rattle.cedar_policy_parts.specs.Asked.{constraint_of}
use Rattle.cedar_policy_parts.specs.Bindings.{Bindings, binding_of}
use Rattle.cedar_evaluator.specs.Asking.{request_held}
use Rattle.cedar_policies.specs.Policies.{bindings_of, policy_syntax}
use Rattle.cedar_policies.specs.Templates.{syntax_of}
use Rattle.cedar_policies.specs.declared.templates.Template.{Template}
use Rattle.cedar_evaluator.specs.Scopes.{IsTold}
use Rattle.cedar_evaluator.proofs.scopes.Scopes.is_principal_told.Goals as goal

pub returns : goal.returns
returns c = λ i store facts scopes has told.
    let p = c.args.policy.now in
    let holds = request_held i (bindings_of p) in
    let asked : constraint_of c.as_inner.result.now ≡ (policy_syntax p).principal = c.as_inner.ensures ∙ c.principal_constraint-constraint.ensures ∙ ap (λ (t : Template). (syntax_of t).principal) c.template.ensures in
    let bound = c.get-bound.ensures ∙ ap (λ (b : Bindings). binding_of b c.principal.result) c.env.ensures.bindings ∙ ap (binding_of (bindings_of p)) c.principal.ensures in
    subst (λ (k : Constraint). IsTold facts holds (constraint_tree Principal PrincipalSlot k)) asked
    (c.is_part_told.ensures facts store holds Principal PrincipalSlot has scopes.principal (sym (ap (λ o. answer_of (slot_outcome o)) bound)) told)
