-- What was walked over is known (Known).
use Rattle.std.proofs.Common.{sym, subst, ◌∙◌}
use Rattle.cedar_entities.specs.Kept.{in_map}
use Rattle.cedar_entities.proofs.Known.{IsIndexing, indexing_begins, indexing_goes_on, indexed}
use Rattle.cedar_entities.proofs.children.children_of.Goals as goal

pub loop-uid-init : goal.loop-uid-init
loop-uid-init c =
    let m = c.args.map.now in
    let none = c.new-index.result in
    subst (IsIndexing (in_map m) none) (sym (c.into_iter-uid-iterator.ensures.into_iter_gives ∙ c.iter-uid-items.ensures.rest)) (indexing_begins m none c.iter-uid-items.ensures.found)

pub loop-uid-preserved : goal.loop-uid-preserved
loop-uid-preserved c =
    indexing_goes_on (in_map c.args.map.now) c.loop-uid.index c.add_child.new.index c.loop-uid.uid-iterator c.next.new.self c.in-Some.uid.now c.in-Some.entity.now c.in-Some.ensures.steps
    c.in_ok-add_child.ensures.known c.in_ok-add_child.ensures.kept c.loop-uid.invariant

pub returns : goal.returns
returns c = indexed (in_map c.args.map.now) c.loop-uid.index c.loop-uid.uid-iterator c.in-None.ensures.steps.0 c.loop-uid.invariant
