-- A uid is listed where it is in the set, or is still to be put there.
use Rattle.std.proofs.lemmas.List.{drop_all}
use Rattle.cedar_entities.proofs.Ordered.{inserted}
use Rattle.cedar_held.proofs.Sets.{put_next, all_put}
use Rattle.cedar_held.proofs.making.set_of.Goals as goal

pub loop-uid-preserved : goal.loop-uid-preserved
loop-uid-preserved c =
    put_next c.args.uids.now c.loop-uid.made.keys c.insert.new.self.keys c.args.uids.now c.loop-uid.uid-index c.uid-item.result c.in_ok-clone.field-0 c.loop-uid-test.true c.uid-item.is c.in_ok-clone.ensures
    (inserted c.loop-uid.made c.insert.new.self c.in_ok-clone.field-0 c.in_ok-insert.ensures.updates) c.loop-uid.invariant

pub returns : goal.returns
returns c = all_put c.args.uids.now c.loop-uid.made.keys _ c.loop-uid.invariant (drop_all c.loop-uid.uid-index c.args.uids.now c.loop-uid-test.false)
