-- The type stands at its name.
use Rattle.std.proofs.Common.{◌≡◌, rules, cond, ap, ◌∙◌}
use Rattle.std.specs.BTreeMap.{is_at}
use Rattle.cedar_language.specs.Order.{name_cmp}
use Rattle.cedar_schema_resolution.specs.Declarations.{entity_view}
use Rattle.cedar_validator_schema.specs.Hierarchies.{targets_at}
use Rattle.cedar_validator_schema.proofs.Putting.{put_type}
use Rattle.cedar_validator_schema.proofs.entity_types.EntityTypes.put.Goals as goal

pub returns : goal.returns
returns c = λ d l es is names before.
    let same : c.in_ok-copy.copy ≡ c.in_ok-name.name = search rules in
    let rows = c.in_ok-parents.parents.items in
    let old = c.args.self.now in
    put_type d l es (entity_view c.args.entity.now) c.in_ok-entity_type.entity_type c.in_ok-name.name rows old
    (record { by_name = c.insert.new.self; parents = c.set.new.self }) c.in_ok-name.ensures c.in_ok-insert.ensures.updates.0
    (λ n. c.in_ok-set.ensures n ∙ ap (λ k. cond (is_at (name_cmp k) n) rows (targets_at name_cmp old.parents n)) same)
    (c.in_ok-entity_type.ensures.shape d l is) c.in_ok-entity_type.ensures.ids (c.in_ok-parents.ensures d names) before
