use Rattle.std.proofs.Common.{◌≡◌, drop, false}
use Rattle.cedar_typechecker.proofs.Reaching.{reached_so_far}
use Rattle.cedar_typechecker.proofs.relations.is_action_within_items.Given as goal

abbrev pub invariant-loop-item : goal.invariant-loop-item
invariant-loop-item g l =
    let e = g.E.RequestEnv.environment l.env in
    reached_so_far e l.action l.is_within (drop l.item-index l.items) ≡ reached_so_far e l.action false l.items
