-- One more stands before those that are put.
use Rattle.std.proofs.Common.{◌≡◌, ◌<◌, ◌≤◌, length, drop, sym, subst, arith}
use Rattle.std.specs.Prelude.{map}
use Rattle.std.proofs.lemmas.List.{drop_all}
use Rattle.cedar_schema_resolution.specs.Declarations.{action_view}
use Rattle.cedar_validator_schema.specs.Actions.{AreActions}
use Rattle.cedar_validator_schema.proofs.Cases.{lower}
use Rattle.cedar_validator_schema.proofs.actions.Actions.of.Goals as goal

pub loop-number-init : goal.loop-number-init
loop-number-init c =
    let actions = c.new-actions.result in
    record {
      put = subst (λ as_. AreActions c.args.names (map action_view as_) actions) (sym (drop_all _ c.args.declared.now (omega arith)))
          (λ d l n. c.new-actions.ensures d l);
    }

pub loop-number-preserved : goal.loop-number-preserved
loop-number-preserved c =
    let k = c.loop-number.number in
    let high : c.loop-number.number ≤ length c.args.declared.now = omega arith in
    let low : 0 < c.loop-number.number = omega arith in
    let cut = lower action_view c.args.declared.now k c.index-declared-number.result low high c.index-declared-number.is in
    record {
      put = subst (λ as_. AreActions c.args.names as_ c.put.new.self) (sym cut)
          (λ d l n. c.in_ok-put.ensures d l (map action_view (drop k c.args.declared.now)) n (c.loop-number.invariant.put d l n));
    }

pub returns : goal.returns
returns c =
    let done : c.loop-number.number ≡ 0 = omega arith in
    subst (λ k. AreActions c.args.names (map action_view (drop k c.args.declared.now)) c.loop-number.actions) done c.loop-number.invariant.put
