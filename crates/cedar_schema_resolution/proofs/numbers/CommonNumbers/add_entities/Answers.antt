-- One more stands before those that are put.
use Rattle.std.proofs.Common.{◌≡◌, ◌<◌, ◌≤◌, length, drop, arith, subst}
use Rattle.std.specs.Prelude.{map}
use Rattle.cedar_schema_resolution.specs.Declarations.{entity_view}
use Rattle.cedar_schema_resolution.specs.Numbers.{HasNone}
use Rattle.cedar_schema_resolution.proofs.Numbering.{none_lower, none_at_first}
use Rattle.cedar_schema_resolution.proofs.numbers.CommonNumbers.add_entities.Goals as goal

pub loop-number-init : goal.loop-number-init
loop-number-init c = record { put = none_at_first c.args.entities.now _ c.args.self.now (omega arith) }

pub loop-number-preserved : goal.loop-number-preserved
loop-number-preserved c =
    let high : c.loop-number.number ≤ length c.args.entities.now = omega arith in
    let low : 0 < c.loop-number.number = omega arith in
    record {
      put = none_lower c.args.entities.now c.loop-number.number c.index-entities-number.result c.args.self.now c.loop-number.self
          c.add_entity.new.self low high c.index-entities-number.is c.loop-number.invariant.put c.in_ok-add_entity.ensures;
    }

pub returns : goal.returns
returns c =
    let done : c.loop-number.number ≡ 0 = omega arith in
    subst (λ k. HasNone (map entity_view (drop k c.args.entities.now)) c.args.self.now c.loop-number.self) done c.loop-number.invariant.put
