-- The command, its answer, and the faults of its text (Below).
use Rattle.std.proofs.Common.{string_bytes}
use Rattle.std.proofs.lemmas.Result.{on_ok_weaker}
use Rattle.cedar_messages.specs.Telling.{AreBelow}
use Rattle.cedar_messages.proofs.Below.{below_more, both_added}
use Rattle.cedar_authoring.proofs.wrong.tell_wrong.Goals as goal

pub returns-in-Ok : goal.returns-in-Ok
returns-in-Ok g c =
    both_added AreBelow below_more (string_bytes c.args.told.now) (string_bytes c.tell_command.new.told) (string_bytes c.tell_answer.new.told)
    c.in_ok-tell_command.ensures c.in_ok-tell_answer.ensures

pub returns-in-Err : goal.returns-in-Err
returns-in-Err g c =
    let start = string_bytes c.args.told.now in
    let mid = string_bytes c.tell_answer.new.told in
    let first = both_added AreBelow below_more start (string_bytes c.tell_command.new.told) mid c.in_ok-tell_command.ensures c.in_ok-tell_answer.ensures in
    on_ok_weaker c.tell_refused.result (λ faults. both_added AreBelow below_more start mid (string_bytes c.tell_refused.new.told) first faults) c.tell_refused.ensures
