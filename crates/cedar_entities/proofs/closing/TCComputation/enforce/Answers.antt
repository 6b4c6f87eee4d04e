-- What `enforce_tc_and_dag` says of the map, and its refusals, read on entities by their uids.
use Rattle.std.proofs.Common.{sym, subst}
use Rattle.std.specs.Prelude.{IfErr}
use Rattle.cedar_entities.specs.Kept.{in_map}
use Rattle.cedar_entities.specs.Modes.{IsClosureRefusal}
use Rattle.cedar_entities.specs.declared.closing.TCComputation.TheVariants.{EnforceAlreadyComputed}
use Rattle.cedar_entities.proofs.Closed.{enforced, enforcing_refused, clones_are_equal}
use Rattle.cedar_entities.proofs.Passing.{at_err}
use Rattle.cedar_entities.proofs.closing.TCComputation.enforce.Goals as goal

pub enforce_tc_and_dag-requires : goal.enforce_tc_and_dag-requires
enforce_tc_and_dag-requires c = clones_are_equal

pub returns-clause-enforced : goal.returns-clause-enforced
returns-clause-enforced c = enforced (in_map c.args.entities.now) c.in_ok-enforce_tc_and_dag.ensures.closed c.in_ok-enforce_tc_and_dag.ensures.acyclic

pub returns-in_err-enforce_tc_and_dag-clause-refused : goal.returns-in_err-enforce_tc_and_dag-clause-refused
returns-in_err-enforce_tc_and_dag-clause-refused c =
    let Refused = IsClosureRefusal EnforceAlreadyComputed (in_map c.args.entities.now) in
    at_err (λ r. IfErr r Refused) _ c.from_residual.result c.from_residual.ensures.1 (λ e is. subst Refused (sym is) (enforcing_refused (in_map c.args.entities.now) c.in_err-enforce_tc_and_dag.field-0.0 c.in_err-enforce_tc_and_dag.ensures.refused))
