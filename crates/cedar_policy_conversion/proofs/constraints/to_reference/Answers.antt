-- That a test of a type stands behind `in` is a fault as well, so the target lacks either way.
use Rattle.std.proofs.Common.{sym, ap, subst}
use Rattle.cedar_grammar.specs.Loose as loose
use Rattle.cedar_grammar.specs.Converting.{target}
use Rattle.cedar_cst.specs.LeafView.{view_rel_op}
use Rattle.cedar_cst.specs.View.{shown_expr}
use Rattle.cedar_faults.specs.Telling.{TellsOnly}
use Rattle.cedar_policy_conversion.specs.Own.{own_word}
use Rattle.cedar_policy_conversion.specs.PartsShow.{target_shows, inverted_shows, compared_shows}
use Rattle.cedar_policy_conversion.proofs.Finding.{is_fault, replaced}
use Rattle.cedar_policy_conversion.proofs.Showing.{replaced_tells}
use Rattle.cedar_policy_conversion.proofs.constraints.to_reference.Goals as goal

pub returns-in-In-clause-target : goal.returns-in-In-clause-target
returns-in-In-clause-target g c =
    let e = c.in-Err.error in
    let want = target (own_word c.args.v) (shown_expr c.args.node.now) in
    replaced e c.unless_inverted.result want c.in-Err.ensures.target (c.unless_inverted.ensures.fault (is_fault e want c.in-Err.ensures.target) c.fault-inverted.ensures.fault) c.unless_inverted.ensures.memory

pub returns-in-In-clause-shown : goal.returns-in-In-clause-shown
returns-in-In-clause-shown g c =
    let own = own_word c.args.v in
    let x = shown_expr c.args.node.now in
    subst (λ o. TellsOnly c.unless_inverted.result (compared_shows own o x)) (sym (ap view_rel_op c.in-In.is))
    (replaced_tells c.in-Err.error c.fault-inverted.result c.unless_inverted.result _ (target_shows own x) (inverted_shows loose.in_ x) _ _ c.unless_inverted.ensures.told c.in-Err.ensures.shown c.fault-inverted.ensures.kind (λ is. is))
