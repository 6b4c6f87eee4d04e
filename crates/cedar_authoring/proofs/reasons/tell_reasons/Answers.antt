-- Last it is told that there is no context (Below).
use Rattle.std.proofs.Common.{string_bytes}
use Rattle.cedar_messages.specs.Telling.{AreBelow}
use Rattle.cedar_messages.proofs.Below.{below_more, both_added}
use Rattle.cedar_authoring.proofs.reasons.tell_reasons.Goals as goal

pub returns-in_ok-push_indented : goal.returns-in_ok-push_indented
returns-in_ok-push_indented g c =
    both_added AreBelow below_more (string_bytes c.args.told.now) (string_bytes c.tell_all_erring.new.told) (string_bytes c.push_indented.new.told)
    c.in_ok-tell_all_erring.ensures c.in_ok-push_indented.ensures
