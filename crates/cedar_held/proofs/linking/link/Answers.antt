-- Refusals are tried in the order of the world's cases; where none stands, the link is bound under its own id.
use Rattle.std.proofs.Common.{sym, subst, Err}
use Rattle.std.proofs.lemmas.Result.{err_from_is_err_and}
use Rattle.cedar_held.specs.LinkBodies.{link_of}
use Rattle.cedar_held.specs.PolicyWorlds.{policies_in}
use Rattle.cedar_replies.specs.declared.refusal.Refusal.TheVariants as replies
use Rattle.cedar_held.specs.PolicyEdits.{LinksBody}
use Rattle.cedar_held.proofs.Linked.{link_refused, link_conflicts, link_done, link_held}
use Rattle.cedar_held.proofs.linking.link.Goals as goal

pub returns-in_err-link-clause-linked : goal.returns-in_err-link-clause-linked
returns-in_err-link-clause-linked c =
    let p = err_from_is_err_and c.from_residual.result c.from_residual.ensures.1 in
    rw (p.1, p.2) (link_refused c.policy_sets_are_worlds.ensures.finds c.args.set.now c.requires (link_of c.args.body.now) c.in_err-link.field-0.0 c.in_err-link.ensures)

pub returns-in-Ok-clause-linked : goal.returns-in-Ok-clause-linked
returns-in-Ok-clause-linked c =
    link_done c.policy_sets_are_worlds.ensures.finds c.args.set.now c.requires (link_of c.args.body.now) c.in_ok-link.link c.in_ok-link.ensures c.add.new.self c.in-Ok.ensures.free c.in-Ok.ensures.added c.policy_sets_are_worlds.ensures.binds

pub returns-in-Ok-clause-held : goal.returns-in-Ok-clause-held
returns-in-Ok-clause-held c =
    link_held c.policy_sets_are_worlds.ensures.finds c.args.set.now c.requires (link_of c.args.body.now) c.in_ok-link.link c.in_ok-link.ensures c.add.new.self c.in-Ok.ensures.free c.in-Ok.ensures.added

pub returns-in-Err-Occupied-clause-linked : goal.returns-in-Err-Occupied-clause-linked
returns-in-Err-Occupied-clause-linked c =
    let way = rw c.in-Err-Occupied.field-0-is at c.in-Err-Occupied.ensures.refused in
    subst (λ new. LinksBody (link_of c.args.body.now) (policies_in c.args.set.now) (Err replies.IdConflict) (policies_in new)) (sym c.in-Err-Occupied.ensures.err)
    (link_conflicts c.policy_sets_are_worlds.ensures.finds c.args.set.now c.requires (link_of c.args.body.now) c.in_ok-link.link c.in_ok-link.ensures _ way)
