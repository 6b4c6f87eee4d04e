-- One fault more is told of (Told).
use Rattle.std.proofs.Common.{[], ◌≤◌, List, length, string_bytes, subst, arith}
use Rattle.std.proofs.lemmas.List.{take_all}
use Rattle.cedar_messages.specs.declared.fault.Fault.{Fault}
use Rattle.cedar_messages.specs.Faults.{Tells}
use Rattle.cedar_messages.specs.Telling.{TellsEach}
use Rattle.cedar_messages.proofs.Told.{TellsEach-more}
use Rattle.cedar_messages.proofs.faults.tell_all.Goals as goal

pub loop-fault-preserved : goal.loop-fault-preserved
loop-fault-preserved c =
    TellsEach-more (Tells c.args.name.now) [] c.args.faults.now c.loop-fault.fault-index c.fault-item.result (string_bytes c.loop-fault.told) (string_bytes c.tell_fault.new.told)
    (omega arith) c.fault-item.is c.loop-fault.invariant c.in_ok-tell_fault.ensures

pub returns : goal.returns
returns c =
    let past : length c.args.faults.now ≤ c.loop-fault.fault-index = omega arith in
    let P : List Fault → Type 0 = λ faults. TellsEach (Tells c.args.name.now) faults (string_bytes c.loop-fault.told) in
    subst P (take_all c.loop-fault.fault-index c.args.faults.now past) c.loop-fault.invariant
