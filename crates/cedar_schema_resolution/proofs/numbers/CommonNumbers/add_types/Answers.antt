-- One more stands before those that are put.
use Rattle.std.proofs.Common.{◌≡◌, ◌<◌, ◌≤◌, length, drop, arith, subst}
use Rattle.std.specs.Prelude.{map}
use Rattle.cedar_schema_resolution.specs.Declarations.{type_view}
use Rattle.cedar_schema_resolution.specs.Numbers.{AreNumbered}
use Rattle.cedar_schema_resolution.proofs.Numbering.{number_lower, number_at_first}
use Rattle.cedar_schema_resolution.proofs.numbers.CommonNumbers.add_types.Goals as goal

pub loop-number-init : goal.loop-number-init
loop-number-init c = record { put = number_at_first c.args.types.now _ c.args.self.now (omega arith) }

pub loop-number-preserved : goal.loop-number-preserved
loop-number-preserved c =
    let high : c.loop-number.number ≤ length c.args.types.now = omega arith in
    let low : 0 < c.loop-number.number = omega arith in
    record {
      put = number_lower c.args.types.now c.loop-number.number c.index-types-number.result c.args.self.now c.loop-number.self
          c.add_type.new.self low high c.index-types-number.is c.loop-number.invariant.put c.in_ok-add_type.ensures;
    }

pub returns : goal.returns
returns c =
    let done : c.loop-number.number ≡ 0 = omega arith in
    subst (λ k. AreNumbered k (map type_view (drop k c.args.types.now)) c.args.self.now c.loop-number.self) done c.loop-number.invariant.put
