-- What stands without the uids still to come is what stood without them all (Removing).
use Rattle.std.proofs.Common.{None}
use Rattle.cedar_entities.specs.Kept.{in_map}
use Rattle.cedar_entities.proofs.Ordered.{changed_at}
use Rattle.cedar_entities.proofs.Removing.{drops_on, all_dropped}
use Rattle.cedar_entities.proofs.edits.drop_all.Goals as goal

pub loop-uid-preserved : goal.loop-uid-preserved
loop-uid-preserved c =
    drops_on (in_map c.args.map.now) (in_map c.loop-uid.map) (in_map c.remove.new.self) c.args.uids.now.keys c.loop-uid.uid-iterator c.next.new.self c.in-Some.uid.now c.in-Some.ensures.steps (changed_at c.loop-uid.map c.remove.new.self c.in-Some.uid.now None c.remove.ensures.updates) c.loop-uid.invariant

pub loop-uid-preserved-in-Some : goal.loop-uid-preserved-in-Some
loop-uid-preserved-in-Some c =
    drops_on (in_map c.args.map.now) (in_map c.loop-uid.map) (in_map c.remove.new.self) c.args.uids.now.keys c.loop-uid.uid-iterator c.next.new.self c.in-Some.uid.now c.in-Some.ensures.steps (changed_at c.loop-uid.map c.remove.new.self c.in-Some.uid.now None c.remove.ensures.updates) c.loop-uid.invariant

pub returns : goal.returns
returns c = all_dropped (in_map c.args.map.now) (in_map c.loop-uid.map) c.args.uids.now.keys c.loop-uid.uid-iterator c.in-None.ensures.steps.0 c.loop-uid.invariant
