-- Three ways for a link: its template comes along, another template has the id, or its own template is there.
use Rattle.std.proofs.Common.{◌≡◌, true, None, Some, ap, sym, ◌∙◌}
use Rattle.cedar_language.specs.Order.{same_text}
use Rattle.cedar_policies.specs.Templates.{template_id, syntax_of}
use Rattle.cedar_policies.specs.Policies.{policy_id, policy_template, policy_syntax, link_of, bindings_of}
use Rattle.cedar_policy_set.specs.Bounds.{policy_entry, entry_of}
use Rattle.cedar_policy_set.specs.Entries.{link, template, bound_at}
use Rattle.cedar_policy_set.specs.EntryNodes.{same_entry}
use Rattle.cedar_policy_set.specs.Refused.{in_the_way, taken}
use Rattle.cedar_policy_set.proofs.Additions.{way_same, way_apart, way_shared}
use Rattle.cedar_policy_set.proofs.Sameness.{link_is}
use Rattle.cedar_policy_set.proofs.sets.PolicySet.in_the_way.Goals.{in_default-via-in-None+else-eq, in_default-via-in-Some+else-not-is_template}
use Rattle.cedar_policy_set.proofs.sets.PolicySet.in_the_way.Goals as goal

pub returns-in-None : goal.returns-in-None
returns-in-None c =
    let es = c.args.self.now in
    let p = c.args.policy.now in
    let t = template_id (policy_template p) in
    let named : c.id-template_id.result.now ≡ t = c.id-template_id.ensures ∙ ap template_id c.template-template.ensures in
    let free : bound_at es t ≡ None = ap (bound_at es) (sym named) ∙ sym c.in-None.ensures.entry in
    let alike : same_text (policy_id p) t ≡ true = sym (λ i. same_text (c.id-id.ensures i) (named i)) ∙ sym c.eq.ensures ∙ c.if-eq.true in
    let linked : policy_entry p ≡ link t (policy_syntax p) (bindings_of p) = link_is (link_of p) t (policy_syntax p) (bindings_of p) (sym c.is_link.ensures.link ∙ c.if-not-is_link.false) in
    ap Some c.id-id.ensures ∙ sym (way_same es (policy_id p) t (policy_syntax p) (bindings_of p) free alike) ∙ ap (in_the_way es (policy_id p)) (sym linked)

pub returns-in_default : goal.returns-in_default
returns-in_default c =
    let es = c.args.self.now in
    let p = c.args.policy.now in
    let t = template_id (policy_template p) in
    let s = policy_syntax p in
    let named : c.id-template_id.result.now ≡ t = c.id-template_id.ensures ∙ ap template_id c.template-template.ensures in
    let linked : policy_entry p ≡ link t s (bindings_of p) = link_is (link_of p) t s (bindings_of p) (sym c.is_link.ensures.link ∙ c.if-not-is_link.false) in
    let free : taken es (policy_id p) ≡ in_the_way es (policy_id p) (link t s (bindings_of p)) =
    elim c.in_default.branch [
      | in_default-via-in-None+else-eq w ↦
          sym (way_apart es (policy_id p) t s (bindings_of p) (ap (bound_at es) (sym named) ∙ sym w.in-None.ensures.entry)
          (sym (λ i. same_text (c.id-id.ensures i) (named i)) ∙ sym w.eq.ensures ∙ w.if-eq.false))
      | in_default-via-in-Some+else-not-is_template w ↦
          sym (way_shared es (policy_id p) t s (bindings_of p) (entry_of w.in-Some.bound.now) (ap (bound_at es) (sym named) ∙ sym w.in-Some.ensures.entry)
          (sym (λ i. same_entry (entry_of w.in-Some.bound.now) (template (syntax_of (c.template-template.ensures i)))) ∙ sym w.is_template.ensures ∙ w.if-not-is_template.false))
    ] in
    c.taken-in_default.ensures ∙ ap (taken es) c.id-id.ensures ∙ free ∙ ap (in_the_way es (policy_id p)) (sym linked)
