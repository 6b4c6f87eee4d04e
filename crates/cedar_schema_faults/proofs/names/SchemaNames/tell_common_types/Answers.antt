-- The faults of one more are told.
use Rattle.std.proofs.Common.{◌≡◌, ◌<◌, ◌≤◌, length, get_or, arith, refl}
use Rattle.cedar_schema_grammar.specs.Faults.{common_type_faults}
use Rattle.cedar_schema_resolution.specs.Declarations.{type_view}
use Rattle.cedar_schema_faults.proofs.Telling.{tells_nothing, tells_next, tells_each}
use Rattle.cedar_schema_faults.proofs.names.SchemaNames.tell_common_types.Goals as goal

pub loop-common-init : goal.loop-common-init
loop-common-init c = record { far = tells_nothing c.args.self.now c.args.told.now _ (λ d l has. refl) }

pub loop-common-preserved : goal.loop-common-preserved
loop-common-preserved c =
    let low : c.loop-common.common-index < length c.args.types.now = omega arith in
    let here : c.common-item.result ≡ get_or c.args.types.now c.loop-common.common-index c.common-item.result = cc in
    record {
      far = tells_next c.args.self.now type_view (λ d l. common_type_faults d l) c.args.types.now c.loop-common.common-index c.common-item.result
          c.args.told.now
          c.loop-common.told c.tell_common_type.new.told low here c.loop-common.invariant.far c.in_ok-tell_common_type.ensures;
    }

pub returns : goal.returns
returns c =
    let past : length c.args.types.now ≤ c.loop-common.common-index = omega arith in
    tells_each c.args.self.now type_view (λ d l. common_type_faults d l) c.args.types.now c.loop-common.common-index c.args.told.now c.loop-common.told past
    c.loop-common.invariant.far
