-- One more is put.
use Rattle.std.proofs.Common.{◌≡◌, ◌<◌, ◌≤◌, length, get_or, Some, arith, subst, ◌∙◌}
use Rattle.std.specs.Prelude.{map}
use Rattle.std.proofs.lemmas.List.{take_all}
use Rattle.cedar_typing.specs.Types.{Entities}
use Rattle.cedar_schema_grammar.specs.Declared.{entity_name}
use Rattle.cedar_schema_resolution.specs.Declarations.{entity_view}
use Rattle.cedar_schema_resolution.specs.Puts.{ArePut}
use Rattle.cedar_schema_resolution.proofs.Putting.{put_more}
use Rattle.cedar_schema_resolution.proofs.table.put_entities.Goals as goal

pub loop-entity-preserved : goal.loop-entity-preserved
loop-entity-preserved c =
    let low : c.loop-entity.entity-index < length c.args.entities.now = omega arith in
    let here : c.entity-item.result ≡ get_or c.args.entities.now c.loop-entity.entity-index c.entity-item.result = cc in
    record {
      put = put_more (λ x. entity_name (entity_view x)) (λ n. Some (Entities n)) c.args.entities.now c.loop-entity.entity-index c.entity-item.result
          c.args.table.now c.loop-entity.table c.put_entity.new.table
          low here c.loop-entity.invariant.put c.in_ok-put_entity.ensures.put;
      built_in = λ n. c.in_ok-put_entity.ensures.built_in n ∙ c.loop-entity.invariant.built_in n;
    }

pub returns-clause-put : goal.returns-clause-put
returns-clause-put c =
    let past : length c.args.entities.now ≤ c.loop-entity.entity-index = omega arith in
    subst (λ xs. ArePut (map (λ x. entity_name (entity_view x)) xs) (λ n. Some (Entities n)) c.args.table.now c.loop-entity.table)
    (take_all c.loop-entity.entity-index c.args.entities.now past) c.loop-entity.invariant.put
