-- Rests on the three parts of a fault's line, each put behind the other.
use Rattle.std.proofs.Common.{◌++◌, codes}
use Rattle.cedar_frames.specs.Frames.{fault_name}
use Rattle.cedar_frames.proofs.Bytes.{puts_more}
use Rattle.cedar_session.proofs.finishing.put_end.Goals as goal

pub returns-in-Fault : goal.returns-in-Fault
returns-in-Fault g c =
    let name = rw (c.as_bytes.ensures.value, c.name.ensures) at c.put-in-Fault-2.ensures in
    let begun = puts_more _ _ _ _ _ _ (codes "fault ") (fault_name c.in-Fault.fault) c.put-in-Fault.ensures name in
    rw c.in-Fault.is (puts_more _ _ _ _ _ _ (codes "fault " ++ fault_name c.in-Fault.fault) (codes "\n") begun c.put-in-Fault-3.ensures)
