-- One more has its name.
use Rattle.std.proofs.Common.{◌≡◌, ◌<◌, ◌≤◌, length, get_or, arith, subst}
use Rattle.std.specs.Prelude.{map}
use Rattle.std.proofs.lemmas.List.{take_all}
use Rattle.cedar_schema_resolution.specs.Declarations.{entity_view}
use Rattle.cedar_schema_resolution.specs.Parents.{HaveNames}
use Rattle.cedar_schema_resolution.proofs.Parenting.{one_name}
use Rattle.cedar_schema_resolution.proofs.parents.EntityNames.of.Goals as goal

pub loop-entity-preserved : goal.loop-entity-preserved
loop-entity-preserved c =
    let low : c.loop-entity.entity-index < length c.args.entities.now = omega arith in
    let here : c.entity-item.result ≡ get_or c.args.entities.now c.loop-entity.entity-index c.entity-item.result = cc in
    record {
      names = one_name c.args.entities.now c.loop-entity.entity-index c.entity-item.result c.in_ok-name.field-0 c.loop-entity.names c.put.new.self
          low here c.in_ok-name.ensures c.loop-entity.invariant.names c.in_ok-put.ensures;
    }

pub returns : goal.returns
returns c =
    let past : length c.args.entities.now ≤ c.loop-entity.entity-index = omega arith in
    subst (λ es. HaveNames (map entity_view es) c.loop-entity.names) (take_all c.loop-entity.entity-index c.args.entities.now past)
    c.loop-entity.invariant.names
