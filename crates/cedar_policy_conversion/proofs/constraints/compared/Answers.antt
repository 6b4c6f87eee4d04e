-- An operator that a scope has not is told of itself.
use Rattle.std.proofs.Common.{refl}
use Rattle.cedar_cst.specs.LeafView.{view_rel_op}
use Rattle.cedar_faults.specs.declared.kinds.ToASTErrorKind.TheVariants as kinds
use Rattle.cedar_faults.proofs.Telling.{tells_one}
use Rattle.cedar_policy_conversion.specs.PartsShow.{operator_shows}
use Rattle.cedar_policy_conversion.proofs.Parting.{of_others}
use Rattle.cedar_policy_conversion.proofs.constraints.compared.Goals as goal

pub returns-in-Less-clause-shown : goal.returns-in-Less-clause-shown
returns-in-Less-clause-shown g c =
    tells_one _ _ _ _ c.fault-in-Less.ensures.kind (of_others (λ o. operator_shows (view_rel_op o) (kinds.InvalidScopeOperator o)) refl refl refl refl refl c.args.op c.in-Less.is)
