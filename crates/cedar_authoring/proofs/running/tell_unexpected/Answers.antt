-- What is told of the command, and then why policies err (Below).
use Rattle.std.proofs.Common.{string_bytes}
use Rattle.cedar_messages.specs.Telling.{AreBelow}
use Rattle.cedar_messages.proofs.Below.{below_more, both_added}
use Rattle.cedar_authoring.proofs.running.tell_unexpected.Goals as goal

pub returns-in_ok-tell_reasons : goal.returns-in_ok-tell_reasons
returns-in_ok-tell_reasons g c =
    both_added AreBelow below_more (string_bytes c.args.wrong.now) (string_bytes c.tell_wrong.new.told) (string_bytes c.tell_reasons.new.told)
    c.in_ok-tell_wrong.ensures c.in_ok-tell_reasons.ensures
