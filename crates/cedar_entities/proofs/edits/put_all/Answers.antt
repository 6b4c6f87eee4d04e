-- One more entity stands under its uid, in the place of what stood there (Lookups, Beside).
use Rattle.std.proofs.Common.{◌≡◌, ◌∷◌, Some, rules, ◌∙◌}
use Rattle.cedar_entities.specs.Kept.{in_map}
use Rattle.cedar_entities.proofs.Beside.{beside_put, passing_goes_on}
use Rattle.cedar_entities.proofs.Lookups.{puts_on}
use Rattle.cedar_entities.proofs.Ordered.{changed_at}
use Rattle.cedar_entities.proofs.edits.put_all.Goals as goal

pub loop-entity-preserved-in_ok-insert : goal.loop-entity-preserved-in_ok-insert
loop-entity-preserved-in_ok-insert c =
    let before = in_map c.args.map.now in
    let now = in_map c.loop-entity.map in
    let next = in_map c.insert.new.self in
    let es = c.args.entities.items in
    let rest = c.loop-entity.entity-iterator.rest.items in
    let more = c.next.new.self.rest.items in
    let step : c.loop-entity.entity-iterator.rest.items ≡ c.in-Some.entity ∷ c.next.new.self.rest.items = search (rules, c.in-Some.ensures.steps) in
    let is = c.in_ok-key.ensures ∙ c.uid.ensures in
    let puts = changed_at c.loop-entity.map c.insert.new.self c.in_ok-key.key (Some c.in-Some.entity) c.in_ok-insert.ensures.updates in (
      puts_on before now next es rest more c.in-Some.entity c.in_ok-key.key step is puts c.loop-entity.invariant.0,
      passing_goes_on (λ e. e.uid) before now next es rest more c.in-Some.entity step (beside_put now next c.in-Some.entity c.in_ok-key.key is puts) c.loop-entity.invariant.1,
    )

pub loop-entity-preserved : goal.loop-entity-preserved
loop-entity-preserved c =
    let before = in_map c.args.map.now in
    let now = in_map c.loop-entity.map in
    let next = in_map c.insert.new.self in
    let es = c.args.entities.items in
    let rest = c.loop-entity.entity-iterator.rest.items in
    let more = c.next.new.self.rest.items in
    let step : c.loop-entity.entity-iterator.rest.items ≡ c.in-Some.entity ∷ c.next.new.self.rest.items = search (rules, c.in-Some.ensures.steps) in
    let is = c.in_ok-key.ensures ∙ c.uid.ensures in
    let puts = changed_at c.loop-entity.map c.insert.new.self c.in_ok-key.key (Some c.in-Some.entity) c.in_ok-insert.ensures.updates in (
      puts_on before now next es rest more c.in-Some.entity c.in_ok-key.key step is puts c.loop-entity.invariant.0,
      passing_goes_on (λ e. e.uid) before now next es rest more c.in-Some.entity step (beside_put now next c.in-Some.entity c.in_ok-key.key is puts) c.loop-entity.invariant.1,
    )
