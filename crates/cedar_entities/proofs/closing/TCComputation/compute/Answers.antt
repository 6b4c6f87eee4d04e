-- What `rebuild_tc` leaves of the map, and its refusals, read on entities by their uids.
use Rattle.std.proofs.Common.{refl, sym, subst}
use Rattle.std.specs.Prelude.{IfErr}
use Rattle.cedar_entities.specs.Kept.{in_map}
use Rattle.cedar_entities.specs.Modes.{IsClosureRefusal}
use Rattle.cedar_entities.specs.declared.closing.TCComputation.TheVariants.{ComputeNow}
use Rattle.cedar_entities.proofs.Closed.{computed, computing_refused, clones_are_equal}
use Rattle.cedar_entities.proofs.Passing.{at_err}
use Rattle.cedar_entities.proofs.closing.TCComputation.compute.Goals as goal

pub rebuild_tc-requires : goal.rebuild_tc-requires
rebuild_tc-requires c = clones_are_equal

pub returns-clause-computed : goal.returns-clause-computed
returns-clause-computed c = computed (in_map c.args.entities.now) (in_map c.rebuild_tc.new.nodes) c.rebuild_tc.ensures.same c.in_ok-rebuild_tc.ensures.edges (c.in_ok-rebuild_tc.ensures.acyclic refl)

pub returns-in_err-rebuild_tc-clause-refused : goal.returns-in_err-rebuild_tc-clause-refused
returns-in_err-rebuild_tc-clause-refused c =
    let Refused = IsClosureRefusal ComputeNow (in_map c.args.entities.now) in
    at_err (λ r. IfErr r Refused) _ c.from_residual.result c.from_residual.ensures.1 (λ e is. subst Refused (sym is) (computing_refused (in_map c.args.entities.now) c.in_err-rebuild_tc.field-0.0 c.in_err-rebuild_tc.ensures.refused))
