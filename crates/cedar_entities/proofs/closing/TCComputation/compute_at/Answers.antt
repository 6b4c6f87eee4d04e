-- What `rebuild_tc_at` leaves of the map, and its refusals, read on entities by their uids.
use Rattle.std.proofs.Common.{refl, sym, subst}
use Rattle.std.specs.Prelude.{IfErr}
use Rattle.cedar_entities.specs.Kept.{in_map}
use Rattle.cedar_entities.specs.Modes.{IsClosureRefusal}
use Rattle.cedar_entities.specs.declared.closing.TCComputation.TheVariants.{ComputeNow}
use Rattle.cedar_entities.proofs.Closed.{computed, built_beside, acyclic_beside, left_beside, rebuilding_refused, clones_are_equal}
use Rattle.cedar_entities.proofs.Passing.{at_err, on_err}
use Rattle.cedar_entities.proofs.closing.TCComputation.compute_at.Goals as goal

pub rebuild_tc_at-requires-clause-clones : goal.rebuild_tc_at-requires-clause-clones
rebuild_tc_at-requires-clause-clones c = clones_are_equal

pub rebuild_tc_at-requires-clause-beside : goal.rebuild_tc_at-requires-clause-beside
rebuild_tc_at-requires-clause-beside c = built_beside (in_map c.args.entities.now) c.args.stale.now c.requires

pub returns-clause-computed : goal.returns-clause-computed
returns-clause-computed c =
    computed (in_map c.args.entities.now) (in_map c.rebuild_tc_at.new.nodes) c.rebuild_tc_at.ensures.same c.in_ok-rebuild_tc_at.ensures.edges
    (acyclic_beside (in_map c.args.entities.now) c.args.stale.now c.requires (c.in_ok-rebuild_tc_at.ensures.acyclic refl))

pub returns-in_err-rebuild_tc_at-clause-refused : goal.returns-in_err-rebuild_tc_at-clause-refused
returns-in_err-rebuild_tc_at-clause-refused c =
    let Refused = IsClosureRefusal ComputeNow (in_map c.args.entities.now) in
    at_err (λ r. IfErr r Refused) _ c.from_residual.result c.from_residual.ensures.1
    (λ e is. subst Refused (sym is) (rebuilding_refused (in_map c.args.entities.now) c.args.stale.now c.in_err-rebuild_tc_at.field-0.0 c.in_err-rebuild_tc_at.ensures.refused))

pub returns-in_err-rebuild_tc_at-clause-beside : goal.returns-in_err-rebuild_tc_at-clause-beside
returns-in_err-rebuild_tc_at-clause-beside c =
    on_err c.from_residual.result (left_beside (in_map c.args.entities.now) (in_map c.rebuild_tc_at.new.nodes) c.args.stale.now c.rebuild_tc_at.ensures.same c.in_err-rebuild_tc_at.ensures.others_left)
