-- Where no actions are found one fault may take the other's place, since a fault is all that is said.
use Rattle.std.proofs.Common.{Some}
use Rattle.cedar_grammar.specs.Policy.{action_within_any}
use Rattle.cedar_grammar.specs.Converting.{alone, actions_among}
use Rattle.cedar_cst.specs.View.{shown_expr}
use Rattle.cedar_faults.specs.Reasons.{reason}
use Rattle.cedar_policy_conversion.specs.PartsShow.{actions_show, type_test_shows}
use Rattle.cedar_policy_conversion.proofs.Finding.{early, is_fault, replaced, through}
use Rattle.cedar_policy_conversion.proofs.Showing.{replaced_tells}
use Rattle.cedar_policy_conversion.proofs.actions.to_within.Goals as goal

pub returns-in-Err-clause-constraint : goal.returns-in-Err-clause-constraint
returns-in-Err-clause-constraint g c =
    let e = c.in-Err.error in
    let x = shown_expr c.args.node.now in
    replaced e c.unless_inverted.result _
    (through (reason e) (actions_among x (alone x)) _ c.in-Err.ensures.actions (early (actions_among x (alone x)) (λ us. Some (action_within_any us))))
    (c.unless_inverted.ensures.fault (is_fault e (actions_among x (alone x)) c.in-Err.ensures.actions) c.fault-inverted.ensures.fault)
    c.unless_inverted.ensures.memory

pub returns-in-Err-clause-shown : goal.returns-in-Err-clause-shown
returns-in-Err-clause-shown g c =
    let x = shown_expr c.args.node.now in
    replaced_tells c.in-Err.error c.fault-inverted.result c.unless_inverted.result _ (actions_show x) (type_test_shows x) _ _ c.unless_inverted.ensures.told c.in-Err.ensures.shown c.fault-inverted.ensures.kind (λ is. is)
