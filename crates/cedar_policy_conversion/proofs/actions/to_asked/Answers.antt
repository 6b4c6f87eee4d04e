-- An operator that a scope has not is told of itself.
use Rattle.std.proofs.Common.{refl, sym, subst}
use Rattle.std.specs.Option.{option_map}
use Rattle.cedar_grammar.specs.Loose as loose
use Rattle.cedar_cst.specs.LeafView.{view_rel_op}
use Rattle.cedar_cst.specs.View.{shown_expr}
use Rattle.cedar_faults.specs.declared.kinds.ToASTErrorKind.TheVariants as kinds
use Rattle.cedar_faults.specs.Telling.{TellsOnly}
use Rattle.cedar_faults.proofs.Telling.{tells_one}
use Rattle.cedar_policy_conversion.specs.PartsShow.{action_compared_shows, action_asked_shows}
use Rattle.cedar_policy_conversion.proofs.Parting.{of_others}
use Rattle.cedar_policy_conversion.proofs.actions.to_asked.Goals as goal

pub returns-in-Less-clause-shown : goal.returns-in-Less-clause-shown
returns-in-Less-clause-shown g c =
    let x = shown_expr c.in-Some.node in
    subst (λ o. TellsOnly c.fault-in-Less.result (action_asked_shows (option_map {U = loose.RelOp × loose.Expr} (λ y. (view_rel_op y.0, shown_expr y.1)) o))) (sym c.in-Some.is)
    (tells_one _ _ _ _ c.fault-in-Less.ensures.kind (of_others (λ o. action_compared_shows (view_rel_op o) x (kinds.InvalidActionScopeOperator o)) refl refl refl refl refl c.in-Some.op c.in-Less.is))
