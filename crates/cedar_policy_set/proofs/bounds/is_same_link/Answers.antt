-- Links are one entry exactly where the names, the syntax and the entities are the same; each case has one of them.
use Rattle.std.proofs.Common.{ap, ◌∙◌}
use Rattle.cedar_language.specs.Order.{same_text}
use Rattle.cedar_policy_parts.specs.SameScopes.{same_bindings}
use Rattle.cedar_policies.specs.Templates.{template_id, syntax_of}
use Rattle.cedar_policies.specs.Policies.{policy_template, policy_syntax, bindings_of}
use Rattle.cedar_policy_set.proofs.Sameness.{links_all, links_syntax, links_name, decides_between}
use Rattle.cedar_policy_set.proofs.bounds.is_same_link.Goals as goal

pub returns-then-has_same_syntax : goal.returns-then-has_same_syntax
returns-then-has_same_syntax c =
    let p = c.args.mine.now in
    let q = c.args.theirs.now in
    links_all c.eq.result c.has_same_syntax.result c.eq-then-has_same_syntax.result
    (template_id (policy_template p)) (template_id (policy_template q)) (policy_syntax p) (policy_syntax q) (bindings_of p) (bindings_of q)
    (c.eq.ensures ∙ (λ i. same_text ((c.id.ensures ∙ ap template_id c.template.ensures) i) ((c.id-2.ensures ∙ ap template_id c.template-2.ensures) i)))
    (decides_between c.has_same_syntax.ensures (ap syntax_of c.template-then-eq.ensures) (ap syntax_of c.template-then-eq-2.ensures))
    c.if-eq.true c.if-has_same_syntax.true
    (c.eq-then-has_same_syntax.ensures ∙ (λ i. same_bindings (c.env.ensures.bindings i) (c.env-then-has_same_syntax.ensures.bindings i)))

pub returns-else-has_same_syntax : goal.returns-else-has_same_syntax
returns-else-has_same_syntax c =
    let p = c.args.mine.now in
    let q = c.args.theirs.now in
    links_syntax c.eq.result c.has_same_syntax.result
    (template_id (policy_template p)) (template_id (policy_template q)) (policy_syntax p) (policy_syntax q) (bindings_of p) (bindings_of q)
    (c.eq.ensures ∙ (λ i. same_text ((c.id.ensures ∙ ap template_id c.template.ensures) i) ((c.id-2.ensures ∙ ap template_id c.template-2.ensures) i)))
    (decides_between c.has_same_syntax.ensures (ap syntax_of c.template-then-eq.ensures) (ap syntax_of c.template-then-eq-2.ensures))
    c.if-eq.true c.if-has_same_syntax.false

pub returns-else-eq : goal.returns-else-eq
returns-else-eq c =
    let p = c.args.mine.now in
    let q = c.args.theirs.now in
    links_name c.eq.result
    (template_id (policy_template p)) (template_id (policy_template q)) (policy_syntax p) (policy_syntax q) (bindings_of p) (bindings_of q)
    (c.eq.ensures ∙ (λ i. same_text ((c.id.ensures ∙ ap template_id c.template.ensures) i) ((c.id-2.ensures ∙ ap template_id c.template-2.ensures) i)))
    c.if-eq.false
