-- The faults of one more are told.
use Rattle.std.proofs.Common.{◌≡◌, ◌<◌, ◌≤◌, length, get_or, arith, refl}
use Rattle.cedar_schema_grammar.specs.Faults.{entity_faults}
use Rattle.cedar_schema_resolution.specs.Declarations.{entity_view}
use Rattle.cedar_schema_faults.proofs.Telling.{tells_nothing, tells_next, tells_each}
use Rattle.cedar_schema_faults.proofs.names.SchemaNames.tell_entities.Goals as goal

pub loop-entity-init : goal.loop-entity-init
loop-entity-init c = record { far = tells_nothing c.args.self.now c.args.told.now _ (λ d l has. refl) }

pub loop-entity-preserved : goal.loop-entity-preserved
loop-entity-preserved c =
    let low : c.loop-entity.entity-index < length c.args.entities.now = omega arith in
    let here : c.entity-item.result ≡ get_or c.args.entities.now c.loop-entity.entity-index c.entity-item.result = cc in
    record {
      far = tells_next c.args.self.now entity_view (λ d l. entity_faults d l) c.args.entities.now c.loop-entity.entity-index c.entity-item.result
          c.args.told.now
          c.loop-entity.told c.tell_entity.new.told low here c.loop-entity.invariant.far c.in_ok-tell_entity.ensures;
    }

pub returns : goal.returns
returns c =
    let past : length c.args.entities.now ≤ c.loop-entity.entity-index = omega arith in
    tells_each c.args.self.now entity_view (λ d l. entity_faults d l) c.args.entities.now c.loop-entity.entity-index c.args.told.now c.loop-entity.told past
    c.loop-entity.invariant.far
