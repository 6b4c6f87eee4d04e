-- One group after the other.
use Rattle.std.proofs.Common.{Some, ◌++◌, map, refl}
use Rattle.cedar_policy_parts.specs.Effects.{effect_of}
use Rattle.cedar_evaluator.specs.Residuals.{left_open, left_satisfied, left_false}
use Rattle.cedar_evaluator.proofs.Responding.{if_ok}
use Rattle.cedar_evaluator.proofs.Sought.{found_first, found_behind}
use Rattle.cedar_evaluator.proofs.readers.found_at.Goals as goal

pub returns-in-Some : goal.returns-in-Some
returns-in-Some c =
    let id = c.args.id.now in
    let residuals = map (left_open (effect_of c.args.effect)) c.args.residuals.now in
    let satisfied = map (left_satisfied (effect_of c.args.effect)) c.args.satisfied.now in
    let others = map (left_false (effect_of c.args.effect)) c.args.others.now in
    let policy = c.in-Some.policy in
    found_first id (residuals ++ satisfied) others policy (Some policy) refl
    (found_first id residuals satisfied policy c.in_ok-policy.field-0 c.in-Some.is c.in_ok-policy.ensures)

pub returns-in-Some-2 : goal.returns-in-Some-2
returns-in-Some-2 c =
    let id = c.args.id.now in
    let residuals = map (left_open (effect_of c.args.effect)) c.args.residuals.now in
    let satisfied = map (left_satisfied (effect_of c.args.effect)) c.args.satisfied.now in
    let others = map (left_false (effect_of c.args.effect)) c.args.others.now in
    found_first id (residuals ++ satisfied) others c.in-Some-2.policy c.in_ok-policy-in-None.field-0 c.in-Some-2.is
    (found_behind id residuals satisfied c.in_ok-policy-in-None.field-0 c.in_ok-policy.field-0 c.in-None.is c.in_ok-policy.ensures c.in_ok-policy-in-None.ensures)

pub returns-in-None-2 : goal.returns-in-None-2
returns-in-None-2 c =
    let id = c.args.id.now in
    let residuals = map (left_open (effect_of c.args.effect)) c.args.residuals.now in
    let satisfied = map (left_satisfied (effect_of c.args.effect)) c.args.satisfied.now in
    let others = map (left_false (effect_of c.args.effect)) c.args.others.now in
    if_ok c.false_at.result
    (λ found is. found_behind id (residuals ++ satisfied) others found c.in_ok-policy-in-None.field-0 c.in-None-2.is
    (found_behind id residuals satisfied c.in_ok-policy-in-None.field-0 c.in_ok-policy.field-0 c.in-None.is c.in_ok-policy.ensures c.in_ok-policy-in-None.ensures) is)
    c.false_at.ensures
