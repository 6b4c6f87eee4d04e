-- The two lists are those of the template, and both are empty exactly where the entities fit.
use Rattle.std.proofs.Common.{◌≡◌, ◌∙◌, ap, List}
use Rattle.std.specs.Prelude.{filter, is_some, not}
use Rattle.std.specs.List.{list_any}
use Rattle.cedar_language.specs.Tree.{SlotId}
use Rattle.cedar_grammar.specs.Bindings.{binding_of}
use Rattle.cedar_grammar.specs.Syntax.{is_slot}
use Rattle.cedar_policy_parts.specs.Bindings.{bound_slots}
use Rattle.cedar_policies.specs.Templates.{syntax_of}
use Rattle.cedar_policies.specs.Linking.{lacking, extra}
use Rattle.cedar_policies.proofs.Arity.{checked_fits, checked_refusal}
use Rattle.cedar_policies.proofs.linking.TemplateTemplateLinks.check_binding.Goals as goal

pub returns : goal.returns
returns c =
    let b = c.args.values.now in
    let p = syntax_of c.args.template.now in
    let lack : c.in_ok-unbound_values.unbound_values.items ≡ lacking b p =
    c.in_ok-unbound_values.ensures ∙ ap (λ (ss : List SlotId). filter (λ s. not (is_some (binding_of b s))) ss) c.held_slots-slots.ensures
    in
    let more : c.in_ok-extra_values.extra_values.items ≡ extra b p =
    c.in_ok-extra_values.ensures ∙ ap (λ (ss : List SlotId). filter (λ s. not (list_any (is_slot s) ss)) (bound_slots b)) c.held_slots-slots.ensures
    in
    record {
      fits = checked_fits b p _ _ lack more c.check_arity.result c.check_arity.ensures;
      refused = checked_refusal b p _ _ lack more c.check_arity.result c.check_arity.ensures;
    }
