-- A static policy lists no slot, so its scope has none; a link gives exactly the slots of its template.
use Rattle.cedar_policies.specs.Templates.{template_id}
use Rattle.cedar_policies.specs.Policies.{policy_template, policy_syntax, link_of, bindings_of}
use Rattle.cedar_policies.proofs.Holding.{unlisted_is_bare}
use Rattle.cedar_policy_set.proofs.Additions.{full_entry}
use Rattle.cedar_policy_set.proofs.bounds.is_link.Goals as goal

pub returns-clause-full : goal.returns-clause-full
returns-clause-full c =
    let p = c.args.policy.now in
    let t = policy_template p in
    full_entry (link_of p) (template_id t) (policy_syntax p) (bindings_of p) (λ e. unlisted_is_bare t (p.own e).0) p.fills
