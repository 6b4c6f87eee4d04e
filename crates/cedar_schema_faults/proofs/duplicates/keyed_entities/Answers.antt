-- One more has its key.
use Rattle.std.proofs.Common.{◌≡◌, ◌<◌, ◌≤◌, length, get_or, arith, sym, ap, subst}
use Rattle.std.specs.Prelude.{map}
use Rattle.std.proofs.lemmas.List.{take_all}
use Rattle.cedar_schema_grammar.specs.Faults as grammar
use Rattle.cedar_schema_grammar.specs.Declared.{entity_name}
use Rattle.cedar_schema_resolution.specs.Declarations.{entity_view}
use Rattle.cedar_schema_faults.specs.Repeats.{HaveKeys}
use Rattle.cedar_schema_faults.proofs.Keying.{one_more_keyed}
use Rattle.cedar_schema_faults.proofs.duplicates.keyed_entities.Goals as goal

pub loop-entity-preserved : goal.loop-entity-preserved
loop-entity-preserved c =
    let low : c.loop-entity.entity-index < length c.args.entities.now = omega arith in
    let here : c.entity-item.result ≡ get_or c.args.entities.now c.loop-entity.entity-index c.entity-item.result = cc in
    record {
      keys = one_more_keyed grammar.DuplicateEntityType entity_view entity_name c.args.entities.now c.loop-entity.entity-index c.entity-item.result
          c.loop-entity.keyed.items
          c.key_entity.new.keyed.items low here c.loop-entity.invariant.keys c.in_ok-key_entity.ensures;
    }

pub returns : goal.returns
returns c =
    let past : length c.args.entities.now ≤ c.loop-entity.entity-index = omega arith in
    subst (λ xs. HaveKeys grammar.DuplicateEntityType (map entity_name (map entity_view xs)) c.loop-entity.keyed.items) (take_all
    c.loop-entity.entity-index c.args.entities.now past)
    c.loop-entity.invariant.keys
