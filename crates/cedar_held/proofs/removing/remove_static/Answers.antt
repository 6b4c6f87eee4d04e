-- What is bound and isn't removed is no static policy, in the world as in the set.
use Rattle.std.proofs.Common.{◌∙◌, sym, subst, Err}
use Rattle.std.specs.Rc.{rc_str_bytes}
use Rattle.cedar_held.specs.PolicyWorlds.{policies_in}
use Rattle.cedar_replies.specs.declared.refusal.Refusal.TheVariants as replies
use Rattle.cedar_held.specs.PolicyEdits.{RemovesStatic}
use Rattle.cedar_held.specs.HoldingPolicies.{IsHeld}
use Rattle.cedar_held.proofs.Removed.{static_other, not_static, left_held}
use Rattle.cedar_held.proofs.removing.remove_static.Goals as goal

pub returns-in-Ok-clause-held : goal.returns-in-Ok-clause-held
returns-in-Ok-clause-held c =
    subst IsHeld (sym c.in-Ok.ensures.removed) (left_held c.policy_sets_are_worlds.ensures.finds c.args.set.now c.requires c.len-count.ensures.whole c.from_smolstr-id.result)

pub returns : goal.returns
returns c =
    let es = c.args.set.now in
    let id = c.from_smolstr-id.result in
    let other = static_other c.policy_sets_are_worlds.ensures.finds es c.requires c.len-count.ensures.whole id (sym c.is_bound.ensures ∙ c.if-not-is_bound.false) (not_static _ id c.in-Err.field-0 c.in-Err.ensures.refused) in
    record {
      removed =
          subst (λ new. RemovesStatic (rc_str_bytes c.args.id.now) (policies_in es) (Err replies.NotStatic) (policies_in new)) (sym c.in-Err.ensures.err)
          (subst (λ i. RemovesStatic i (policies_in es) (Err replies.NotStatic) (policies_in es)) (c.from_smolstr-id.ensures ∙ c.in_ok-clone.ensures.cases) other);
      held = subst IsHeld (sym c.in-Err.ensures.err) c.requires;
    }
