-- A policy without the id of a link is the entry of a static one.
use Rattle.std.proofs.Common.{ap, sym, refl, ◌∙◌}
use Rattle.cedar_policies.specs.Templates.{template_id, syntax_of}
use Rattle.cedar_policies.specs.Policies.{policy_template, policy_syntax, link_of, bindings_of}
use Rattle.cedar_policy_set.specs.EntryNodes.{same_entry}
use Rattle.cedar_policy_set.proofs.Sameness.{same_static, entry_static, decides_between}
use Rattle.cedar_policy_set.proofs.bounds.is_same_policy.Goals as goal

pub returns-in-true-true : goal.returns-in-true-true
returns-in-true-true c =
    let p = c.args.mine.now in
    let q = c.args.theirs.now in
    same_static c.has_same_syntax.result (policy_syntax p) (policy_syntax q) (decides_between c.has_same_syntax.ensures (ap syntax_of c.template.ensures) (ap syntax_of c.template-in-true-true.ensures))
    ∙ (λ i. same_entry
    (sym (entry_static (link_of p) (template_id (policy_template p)) (policy_syntax p) (bindings_of p) (c.in-true-true.ensures.link.0 refl)) i)
    (sym (entry_static (link_of q) (template_id (policy_template q)) (policy_syntax q) (bindings_of q) (c.in-true-true.ensures'.link.0 refl)) i))
