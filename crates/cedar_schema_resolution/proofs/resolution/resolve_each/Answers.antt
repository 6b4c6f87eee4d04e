-- One more is resolved.
use Rattle.std.proofs.Common.{◌<◌, length, slice_index, arith, refl}
use Rattle.cedar_schema_resolution.specs.Declarations.{declared_view}
use Rattle.cedar_schema_resolution.proofs.Resolving.{one_more_resolved}
use Rattle.cedar_schema_resolution.proofs.resolution.resolve_each.Goals as goal

pub loop-number-preserved : goal.loop-number-preserved
loop-number-preserved c =
    let low : c.loop-number.number-index < length c.args.order.now = omega arith in
    record {
      done = one_more_resolved (declared_view c.args.declared.now) c.args.numbers.now c.args.order.now c.loop-number.number-index
          (slice_index c.args.order.now c.loop-number.number-index) c.args.table.now c.loop-number.table c.resolve_one.new.table low refl
          c.loop-number.invariant.done c.in_ok-resolve_one.ensures;
    }
