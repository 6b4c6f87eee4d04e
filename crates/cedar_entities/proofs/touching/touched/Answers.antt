-- The lemmas of Gathering: those walked over that keep one of the edited are listed.
use Rattle.std.proofs.Common.{◌≡◌, [], ◌∷◌, ◌++◌, sym, subst, ◌∙◌}
use Rattle.cedar_entities.specs.Kept.{in_map}
use Rattle.cedar_entities.proofs.Gathering.{IsWalking, walk_begins, walks_on, walks_past, walked}
use Rattle.cedar_entities.proofs.touching.touched.Goals as goal

pub loop-uid-init : goal.loop-uid-init
loop-uid-init c =
    let m = c.args.map.now in
    let edited = c.args.edited.now.keys in
    subst (IsWalking (in_map m) edited c.in_ok-uids.uids.items) (sym (c.into_iter-uid-iterator.ensures.into_iter_gives ∙ c.iter-uid-items.ensures.rest)) (walk_begins m edited c.in_ok-uids.uids.items c.in_ok-uids.ensures c.iter-uid-items.ensures.found)

pub loop-uid-preserved-in_ok-push : goal.loop-uid-preserved-in_ok-push
loop-uid-preserved-in_ok-push c =
    let found = in_map c.args.map.now in
    let edited = c.args.edited.now.keys in
    let kept : c.in_ok-clone.field-0 ≡ c.in-Some.uid.now = c.in_ok-clone.ensures in
    subst (λ us. IsWalking found edited us c.next.new.self) (sym c.in_ok-push.ensures.items)
    (subst (λ k. IsWalking found edited (c.loop-uid.uids.items ++ k ∷ []) c.next.new.self) (sym kept)
    (walks_on found edited c.loop-uid.uids.items c.loop-uid.uid-iterator c.next.new.self c.in-Some.uid.now c.in-Some.entity.now c.in-Some.ensures.steps c.loop-uid.invariant))

pub loop-uid-preserved : goal.loop-uid-preserved
loop-uid-preserved c =
    walks_past (in_map c.args.map.now) c.args.edited.now.keys c.loop-uid.uids.items c.loop-uid.uid-iterator c.next.new.self c.in-Some.uid.now c.in-Some.entity.now c.in-Some.ensures.steps c.loop-uid.invariant (sym c.is_descendant_of_one.ensures ∙ c.if-is_descendant_of_one.false)

pub returns : goal.returns
returns c = walked (in_map c.args.map.now) c.args.edited.now.keys c.loop-uid.uids.items c.loop-uid.uid-iterator c.in-None.ensures.steps.0 c.loop-uid.invariant
