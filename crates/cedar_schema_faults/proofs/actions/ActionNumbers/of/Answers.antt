-- One more stands before those that are put.
use Rattle.std.proofs.Common.{◌≡◌, ◌<◌, ◌≤◌, length, drop, arith, subst}
use Rattle.std.specs.Prelude.{map}
use Rattle.cedar_schema_resolution.specs.Declarations.{action_view}
use Rattle.cedar_schema_faults.specs.Actions.{HaveNumbersFrom}
use Rattle.cedar_schema_faults.proofs.Numbering.{number_lower, none_numbered}
use Rattle.cedar_schema_faults.proofs.actions.ActionNumbers.of.Goals as goal

pub loop-number-init : goal.loop-number-init
loop-number-init c = record { put = none_numbered c.args.actions.now _ c.new-numbers.result (omega arith) c.new-numbers.ensures }

pub loop-number-preserved : goal.loop-number-preserved
loop-number-preserved c =
    let high : c.loop-number.number ≤ length c.args.actions.now = omega arith in
    let low : 0 < c.loop-number.number = omega arith in
    record {
      put = number_lower c.args.actions.now c.loop-number.number c.index-actions-number.result c.in_ok-uid.uid c.loop-number.numbers c.put.new.self
          low high c.index-actions-number.is c.in_ok-uid.ensures c.loop-number.invariant.put c.in_ok-put.ensures;
    }

pub returns : goal.returns
returns c =
    let done : c.loop-number.number ≡ 0 = omega arith in
    subst (λ k. HaveNumbersFrom k (map action_view (drop k c.args.actions.now)) c.loop-number.numbers) done c.loop-number.invariant.put
