-- One uid more is that of the next entity (Gathering).
use Rattle.std.proofs.Common.{◌≡◌, ◌<◌, ◌≤◌, ◌+◌, ◌∷◌, sym, ap, ◌∙◌, drop, length, arith}
use Rattle.std.proofs.Math.ListN.{drop_of_length-le}
use Rattle.std.proofs.lemmas.List.{drop_more}
use Rattle.cedar_entities.proofs.Gathering.{uid_added, uids_added}
use Rattle.cedar_entities.proofs.Ordered.{inserted}
use Rattle.cedar_entities.proofs.edits.uids_of.Goals as goal

pub loop-entity-preserved : goal.loop-entity-preserved
loop-entity-preserved c =
    let es = c.args.entities.now in
    let i = c.loop-entity.entity-index in
    let x = c.entity-item.result in
    let here : c.loop-entity.entity-index < length c.args.entities.now = omega arith in
    let step : drop i es ≡ x ∷ drop (i + 1) es = drop_more es i x here ∙ ap (λ y. y ∷ drop (i + 1) es) (sym c.entity-item.is) in
    uid_added es (drop i es) (drop (i + 1) es) x c.loop-entity.uids.keys c.insert.new.self.keys c.in_ok-clone.field-0 step (c.in_ok-clone.ensures ∙ c.uid.ensures) (inserted c.loop-entity.uids c.insert.new.self c.in_ok-clone.field-0 c.in_ok-insert.ensures.updates) c.loop-entity.invariant

pub returns : goal.returns
returns c =
    let es = c.args.entities.now in
    let past : length c.args.entities.now ≤ c.loop-entity.entity-index = omega arith in
    uids_added es (drop c.loop-entity.entity-index es) c.loop-entity.uids.keys (drop_of_length-le es past) c.loop-entity.invariant
