-- The faults of one more are told.
use Rattle.std.proofs.Common.{◌≡◌, ◌<◌, ◌≤◌, length, get_or, arith, refl}
use Rattle.cedar_schema_grammar.specs.Faults.{entity_name_faults}
use Rattle.cedar_schema_syntax.specs.View.{path_view}
use Rattle.cedar_schema_faults.proofs.Telling.{tells_nothing, tells_next, tells_each}
use Rattle.cedar_schema_faults.proofs.names.SchemaNames.tell_undefined_entities.Goals as goal

pub loop-path-init : goal.loop-path-init
loop-path-init c = record { far = tells_nothing c.args.self.now c.args.told.now _ (λ d l has. refl) }

pub loop-path-preserved : goal.loop-path-preserved
loop-path-preserved c =
    let low : c.loop-path.path-index < length c.args.paths.now = omega arith in
    let here : c.path-item.result ≡ get_or c.args.paths.now c.loop-path.path-index c.path-item.result = cc in
    record {
      far = tells_next c.args.self.now path_view (λ d l. entity_name_faults d c.args.namespace.now) c.args.paths.now c.loop-path.path-index
          c.path-item.result c.args.told.now
          c.loop-path.told c.tell_undefined_entity.new.told low here c.loop-path.invariant.far c.in_ok-tell_undefined_entity.ensures;
    }

pub returns : goal.returns
returns c =
    let past : length c.args.paths.now ≤ c.loop-path.path-index = omega arith in
    tells_each c.args.self.now path_view (λ d l. entity_name_faults d c.args.namespace.now) c.args.paths.now c.loop-path.path-index c.args.told.now
    c.loop-path.told past
    c.loop-path.invariant.far
