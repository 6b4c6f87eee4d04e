-- What either tells, both together tell.
use Rattle.cedar_faults.proofs.Telling.{flat_tells, handed_on}
use Rattle.cedar_policy_conversion.proofs.clauses.join_clause.Goals as goal

pub returns-in_err-earlier-clause-told : goal.returns-in_err-earlier-clause-told
returns-in_err-earlier-clause-told c =
    handed_on c.from_residual.result _ _ c.from_residual.ensures (flat_tells c.args.earlier c.args.next _ c.in_err-earlier.ensures)
