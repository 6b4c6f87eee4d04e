-- What is appended is the policy, and before it its template where that lacks; either way the set stays whole.
use Rattle.std.proofs.Common.{◌≡◌, ◌++◌, sym, subst, ◌∙◌}
use Rattle.std.specs.Prelude.{OnOk}
use Rattle.cedar_policies.specs.Templates.{template_id}
use Rattle.cedar_policies.specs.Policies.{policy_id, policy_template, policy_syntax, link_of, bindings_of}
use Rattle.cedar_policy_set.specs.Bounds.{policy_entry}
use Rattle.cedar_policy_set.specs.Entries.{Entries, IsWhole}
use Rattle.cedar_policy_set.proofs.Additions.{differs_from, both_are, added_alone, whole_added}
use Rattle.cedar_policy_set.proofs.sets.PolicySet.add_free.Goals as goal

pub with_its_template-requires : goal.with_its_template-requires
with_its_template-requires c =
    let p = c.args.policy in
    differs_from c.args.self.now (policy_id p) (link_of p) (template_id (policy_template p)) (policy_syntax p) (bindings_of p) c.requires
    (sym c.lacks_template.ensures.lacks ∙ c.if-lacks_template.true)

pub bind_all-requires-clause-whole : goal.bind_all-requires-clause-whole
bind_all-requires-clause-whole c =
    let es = c.args.self.now in
    let p = c.args.policy in
    subst IsWhole
    (both_are es (policy_id p) (link_of p) (template_id (policy_template p)) (policy_syntax p) (bindings_of p) (sym c.lacks_template.ensures.lacks ∙ c.if-lacks_template.true)
    ∙ sym (λ i. es ++ c.in_ok-more.ensures.both i))
    (whole_added es (policy_id p) (policy_entry p) c.len-count.ensures.whole c.requires c.lacks_template.ensures.full)

pub bind_all-requires-2-clause-whole : goal.bind_all-requires-2-clause-whole
bind_all-requires-2-clause-whole c =
    let es = c.args.self.now in
    let p = c.args.policy in
    subst IsWhole
    (added_alone es (policy_id p) (policy_entry p) (sym c.lacks_template.ensures.lacks ∙ c.if-lacks_template.false) ∙ sym (λ i. es ++ c.in_ok-more-2.ensures.policy i))
    (whole_added es (policy_id p) (policy_entry p) c.len-count.ensures.whole c.requires c.lacks_template.ensures.full)

pub returns-then-lacks_template-clause-added : goal.returns-then-lacks_template-clause-added
returns-then-lacks_template-clause-added c =
    let es = c.args.self.now in
    let p = c.args.policy in
    subst (λ (all : Entries). OnOk c.bind_all.result (c.bind_all.new.self ≡ all))
    ((λ i. es ++ c.in_ok-more.ensures.both i)
    ∙ sym (both_are es (policy_id p) (link_of p) (template_id (policy_template p)) (policy_syntax p) (bindings_of p) (sym c.lacks_template.ensures.lacks ∙ c.if-lacks_template.true)))
    c.bind_all.ensures.appended
