-- One parent more has the child (Known).
use Rattle.cedar_entities.proofs.Closed.{clones_are_equal}
use Rattle.cedar_entities.proofs.Known.{adding_goes_on}
use Rattle.cedar_entities.proofs.children.add_child.Goals as goal

pub add-requires : goal.add-requires
add-requires c = clones_are_equal

pub loop-parent-preserved : goal.loop-parent-preserved
loop-parent-preserved c =
    adding_goes_on c.args.uid.now c.args.entity.now.parents c.loop-parent.parent-iterator c.next.new.self c.in-Some.parent.now c.args.index.now c.loop-parent.index c.add.new.self c.in-Some.ensures.steps c.in_ok-add.ensures.added c.loop-parent.invariant
