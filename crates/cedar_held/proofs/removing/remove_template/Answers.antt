-- What the set binds to the id the world does, and a link that names the template is one there too.
use Rattle.std.proofs.Common.{◌∙◌, sym, subst, Ok, Err}
use Rattle.std.specs.Rc.{rc_str_bytes}
use Rattle.cedar_policies.specs.Templates.{syntax_of}
use Rattle.cedar_policy_set.specs.Entries.{without}
use Rattle.cedar_held.specs.PolicyWorlds.{policies_in}
use Rattle.cedar_replies.specs.declared.refusal.Refusal.TheVariants as replies
use Rattle.cedar_held.specs.PolicyEdits.{RemovesTemplate}
use Rattle.cedar_held.specs.HoldingPolicies.{IsHeld}
use Rattle.cedar_held.proofs.Removed.{template_done, template_other, template_linked, left_held}
use Rattle.cedar_held.proofs.removing.remove_template.Goals as goal

pub returns-in-Ok-clause-removed : goal.returns-in-Ok-clause-removed
returns-in-Ok-clause-removed c =
    let es = c.args.set.now in
    let laws = c.policy_sets_are_worlds.ensures in
    subst (λ new. RemovesTemplate (rc_str_bytes c.args.id.now) (policies_in es) (Ok tt) (policies_in new)) (sym c.in-Ok.ensures.removed)
    (subst (λ id. RemovesTemplate id (policies_in es) (Ok tt) (policies_in (without c.from_smolstr-id.result es))) (c.from_smolstr-id.ensures ∙ c.in_ok-clone.ensures.cases)
    (template_done laws.finds es c.requires c.len-count.ensures.whole c.from_smolstr-id.result (syntax_of c.in-Ok.field-0.value) c.in-Ok.ensures.template laws.removes c.in-Ok.ensures.unlinked))

pub returns-in-Ok-clause-held : goal.returns-in-Ok-clause-held
returns-in-Ok-clause-held c =
    subst IsHeld (sym c.in-Ok.ensures.removed) (left_held c.policy_sets_are_worlds.ensures.finds c.args.set.now c.requires c.len-count.ensures.whole c.from_smolstr-id.result)

pub returns-in-Err-NotTemplateError-clause-removed :
    goal.returns-in-Err-NotTemplateError-clause-removed
returns-in-Err-NotTemplateError-clause-removed c =
    let es = c.args.set.now in
    let is = rw c.in-Err-NotTemplateError.field-0-is at c.in-Err-NotTemplateError.ensures.refused in
    subst (λ new. RemovesTemplate (rc_str_bytes c.args.id.now) (policies_in es) (Err replies.NotTemplate) (policies_in new)) (sym c.in-Err-NotTemplateError.ensures.err)
    (subst (λ id. RemovesTemplate id (policies_in es) (Err replies.NotTemplate) (policies_in es)) (c.from_smolstr-id.ensures ∙ c.in_ok-clone.ensures.cases)
    (template_other c.policy_sets_are_worlds.ensures.finds es c.requires c.len-count.ensures.whole c.from_smolstr-id.result is.1))

pub returns-in-Err-RemoveTemplateWithLinksError-clause-removed :
    goal.returns-in-Err-RemoveTemplateWithLinksError-clause-removed
returns-in-Err-RemoveTemplateWithLinksError-clause-removed c =
    let es = c.args.set.now in
    let is = rw c.in-Err-RemoveTemplateWithLinksError.field-0-is at c.in-Err-RemoveTemplateWithLinksError.ensures.refused in
    subst (λ new. RemovesTemplate (rc_str_bytes c.args.id.now) (policies_in es) (Err replies.HasLinks) (policies_in new)) (sym c.in-Err-RemoveTemplateWithLinksError.ensures.err)
    (subst (λ id. RemovesTemplate id (policies_in es) (Err replies.HasLinks) (policies_in es)) (c.from_smolstr-id.ensures ∙ c.in_ok-clone.ensures.cases)
    (template_linked c.policy_sets_are_worlds.ensures.finds es c.requires c.len-count.ensures.whole c.from_smolstr-id.result is.1 is.2))
