-- A set without one of its entries may still be held, and what is bound here as no link is none in the world.
use Rattle.std.proofs.Common.{◌∙◌, sym, subst, Err}
use Rattle.std.specs.Rc.{rc_str_bytes}
use Rattle.cedar_held.specs.PolicyWorlds.{policies_in}
use Rattle.cedar_replies.specs.declared.refusal.Refusal.TheVariants as replies
use Rattle.cedar_held.specs.PolicyEdits.{UnlinksId}
use Rattle.cedar_held.specs.HoldingPolicies.{IsHeld}
use Rattle.cedar_held.proofs.Removed.{unlink_other, left_held}
use Rattle.cedar_held.proofs.removing.unlink.Goals as goal

pub returns-in-Ok-clause-held : goal.returns-in-Ok-clause-held
returns-in-Ok-clause-held c =
    subst IsHeld (sym c.in-Ok.ensures.removed) (left_held c.policy_sets_are_worlds.ensures.finds c.args.set.now c.requires c.len-count.ensures.whole c.from_smolstr-id.result)

pub returns-in-Err-NotLinkError-clause-unlinked : goal.returns-in-Err-NotLinkError-clause-unlinked
returns-in-Err-NotLinkError-clause-unlinked c =
    let es = c.args.set.now in
    let is = rw c.in-Err-NotLinkError.field-0-is at c.in-Err-NotLinkError.ensures.refused in
    subst (λ new. UnlinksId (rc_str_bytes c.args.id.now) (policies_in es) (Err replies.NotLink) (policies_in new)) (sym c.in-Err-NotLinkError.ensures.err)
    (subst (λ id. UnlinksId id (policies_in es) (Err replies.NotLink) (policies_in es)) (c.from_smolstr-id.ensures ∙ c.in_ok-clone.ensures.cases)
    (unlink_other c.policy_sets_are_worlds.ensures.finds es c.requires c.len-count.ensures.whole c.from_smolstr-id.result is.1 is.2))
