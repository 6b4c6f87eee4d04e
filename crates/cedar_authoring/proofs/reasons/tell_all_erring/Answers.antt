-- Of one policy more it is told why it errs (Below).
use Rattle.std.proofs.Common.{string_bytes}
use Rattle.cedar_messages.specs.Telling.{AreBelow}
use Rattle.cedar_messages.proofs.Below.{below_more, both_added}
use Rattle.cedar_authoring.proofs.reasons.tell_all_erring.Goals as goal

pub loop-id-preserved : goal.loop-id-preserved
loop-id-preserved g c =
    both_added AreBelow below_more (string_bytes c.args.told.now) (string_bytes c.loop-id.told) (string_bytes c.tell_erring.new.told)
    c.loop-id.invariant c.in_ok-tell_erring.ensures
