-- Once those below it have gained, and the entity stands in its place, the map is closed (GainedEdges, Gained).
use Rattle.std.proofs.Common.{Some, cond, sym, ap, subst, ◌∙◌}
use Rattle.cedar_language.specs.Order.{same_uid}
use Rattle.cedar_entities.specs.Beside.{among}
use Rattle.cedar_entities.specs.Data.{EntityData}
use Rattle.cedar_entities.specs.Gaining.{Gains, HasGained}
use Rattle.cedar_entities.specs.Kept.{in_map}
use Rattle.cedar_entities.proofs.Beside.{beside_put}
use Rattle.cedar_entities.proofs.Gained.{nothing_gained, gained_unchanged}
use Rattle.cedar_entities.proofs.GainedEdges.{gain_computes}
use Rattle.cedar_entities.proofs.Ordered.{changed_at}
use Rattle.cedar_entities.proofs.Passing.{on_err}
use Rattle.cedar_entities.proofs.gaining.gain_all.Goals as goal

pub returns-in_err-gain_each-clause-by_uid : goal.returns-in_err-gain_each-clause-by_uid
returns-in_err-gain_each-clause-by_uid c =
    let old = in_map c.args.map.now in
    (c.gain_each.ensures.gained old (subst (λ xs. HasGained old old xs) (sym c.requires.none) (nothing_gained old))).by_uid

pub returns-in_err-insert-clause-gained : goal.returns-in_err-insert-clause-gained
returns-in_err-insert-clause-gained c =
    let old = in_map c.args.map.now in
    on_err c.from_residual-in_err-insert.result (gained_unchanged old c.gain_each.new.map c.insert.new.self c.gain_each.new.added.items
    c.in_err-insert.ensures.err
    (c.gain_each.ensures.gained old (subst (λ xs. HasGained old old xs) (sym c.requires.none) (nothing_gained old))))

pub returns-in_err-insert-clause-by_uid : goal.returns-in_err-insert-clause-by_uid
returns-in_err-insert-clause-by_uid c =
    let old = in_map c.args.map.now in
    (gained_unchanged old c.gain_each.new.map c.insert.new.self c.gain_each.new.added.items c.in_err-insert.ensures.err
    (c.gain_each.ensures.gained old (subst (λ xs. HasGained old old xs) (sym c.requires.none) (nothing_gained old)))).by_uid

pub returns-clause-edited : goal.returns-clause-edited
returns-clause-edited c =
    let old = in_map c.args.map.now in
    let mid = in_map c.gain_each.new.map in
    let new = in_map c.insert.new.self in
    let e = c.args.entity in
    let w = c.set_ancestors.new.self in
    let below = c.args.below.now in
    let is = c.in_ok-uid.ensures ∙ c.uid.ensures in
    let gained = c.gain_each.ensures.gained old (subst (λ xs. HasGained old old xs) (sym c.requires.none) (nothing_gained old)) in
    let puts = changed_at c.gain_each.new.map c.insert.new.self c.in_ok-uid.uid (Some w) c.in_ok-insert.ensures.updates in
    gain_computes old e c.requires.closed c.requires.gain.keeps c.args.gain c.requires.gain below c.requires.below mid new w
    (subst (λ u. Gains old mid u c.args.gain.more (among below)) is c.in_ok-gain_each.ensures.gains) gained.held c.set_ancestors.ensures (λ q. puts q
    ∙ ap (λ u. cond (same_uid u q) (Some w) (mid q)) is)

pub returns-clause-by_uid : goal.returns-clause-by_uid
returns-clause-by_uid c = λ by.
    let old = in_map c.args.map.now in
    let mid = in_map c.gain_each.new.map in
    let w = c.set_ancestors.new.self in
    let is = c.in_ok-uid.ensures ∙ c.uid.ensures ∙ sym (ap (λ (d : EntityData). d.uid) c.set_ancestors.ensures) in
    let gained = c.gain_each.ensures.gained old (subst (λ xs. HasGained old old xs) (sym c.requires.none) (nothing_gained old)) in
    let puts = changed_at c.gain_each.new.map c.insert.new.self c.in_ok-uid.uid (Some w) c.in_ok-insert.ensures.updates in
    (beside_put mid (in_map c.insert.new.self) w c.in_ok-uid.uid is puts).by_uid (gained.by_uid by)
