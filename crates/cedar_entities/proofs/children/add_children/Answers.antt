-- One entity more is known as a child of its parents (Known).
use Rattle.std.proofs.Common.{◌≡◌, ◌<◌, ◌≤◌, ◌+◌, ◌∷◌, IsTrue, sym, ap, subst, ◌∙◌, drop, length, arith}
use Rattle.std.specs.FinSet as set
use Rattle.std.proofs.Math.ListN.{drop_of_length-le}
use Rattle.std.proofs.lemmas.List.{drop_more}
use Rattle.cedar_language.specs.Uid.{Uid}
use Rattle.cedar_language.specs.Order.{uid_cmp}
use Rattle.cedar_closure.specs.Sources.{has_source}
use Rattle.cedar_entities.proofs.Known.{all_added_begins, all_added_goes_on, all_added}
use Rattle.cedar_entities.proofs.children.add_children.Goals as goal

pub loop-entity-init : goal.loop-entity-init
loop-entity-init c = all_added_begins c.args.entities.now c.args.index.now

pub loop-entity-preserved : goal.loop-entity-preserved
loop-entity-preserved c =
    let es = c.args.entities.now in
    let i = c.loop-entity.entity-index in
    let x = c.entity-item.result in
    let here : c.loop-entity.entity-index < length c.args.entities.now = omega arith in
    let step : drop i es ≡ x ∷ drop (i + 1) es = drop_more es i x here ∙ ap (λ y. y ∷ drop (i + 1) es) (sym c.entity-item.is) in
    let known = subst (λ (u : Uid). (b : Uid) → IsTrue (set.contains x.parents b) → IsTrue (has_source uid_cmp c.add_child.new.index b u)) c.uid.ensures c.in_ok-add_child.ensures.known in
    all_added_goes_on es (drop i es) (drop (i + 1) es) x c.args.index.now c.loop-entity.index c.add_child.new.index step known c.in_ok-add_child.ensures.kept c.loop-entity.invariant

pub returns-clause-known : goal.returns-clause-known
returns-clause-known c =
    let es = c.args.entities.now in
    let past : length c.args.entities.now ≤ c.loop-entity.entity-index = omega arith in
    all_added es (drop c.loop-entity.entity-index es) c.args.index.now c.loop-entity.index (drop_of_length-le es past) c.loop-entity.invariant
