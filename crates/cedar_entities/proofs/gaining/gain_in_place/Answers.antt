-- What the entity's parents are is known before it is put (Known).
use Rattle.std.proofs.Common.{◌≡◌, [], ◌∷◌, IfSome, length, ap, arith, subst, ◌∙◌}
use Rattle.cedar_entities.specs.Children.{KnowsAll}
use Rattle.cedar_entities.specs.Gaining.{put_one}
use Rattle.cedar_entities.specs.Kept.{in_map}
use Rattle.cedar_entities.proofs.GainedEdges.{first_alone}
use Rattle.cedar_entities.proofs.Known.{known_along, put_known}
use Rattle.cedar_entities.proofs.gaining.gain_in_place.Goals as goal

pub gain_all-requires-clause-gain : goal.gain_all-requires-clause-gain
gain_all-requires-clause-gain c =
    let e = c.remove-entity.result in
    c.requires.gain e (first_alone c.args.entities.items c.requires.gains.one e c.requires.gains.are c.remove-entity.ensures.value)

pub gain_all-requires-clause-below : goal.gain_all-requires-clause-below
gain_all-requires-clause-below c =
    let e = c.remove-entity.result in
    c.requires.below e (first_alone c.args.entities.items c.requires.gains.one e c.requires.gains.are c.remove-entity.ensures.value)

pub returns-in-Ok-clause-known : goal.returns-in-Ok-clause-known
returns-in-Ok-clause-known c =
    let old = in_map c.args.map.now in
    let children = c.learn.new.children in
    let es = c.args.entities.items in
    let e = c.remove-entity.result in
    let are : es ≡ e ∷ [] = first_alone es c.requires.gains.one e c.requires.gains.are c.remove-entity.ensures.value in
    let learnt = subst (λ xs. IfSome c.learn.new.children (λ index. KnowsAll index xs)) (c.deref.ensures.value ∙ are) c.in_ok-learn.ensures.known in
    known_along (put_one old e) (in_map c.gain_all.new.map) children c.in-Ok.ensures.edited.held (put_known old (e ∷ []) children (c.learn.ensures.kept old
    c.requires.known) learnt)
