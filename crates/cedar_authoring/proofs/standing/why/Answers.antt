-- One line is added (Below).
use Rattle.std.proofs.Common.{string_bytes}
use Rattle.cedar_messages.specs.Telling.{AreBelow}
use Rattle.cedar_messages.proofs.Below.{from_nothing}
use Rattle.cedar_authoring.proofs.standing.why.Goals as goal

pub returns : goal.returns
returns c = from_nothing AreBelow (string_bytes c.new-told.result) (string_bytes c.push_indented.new.told) c.new-told.ensures.bytes c.in_ok-push_indented.ensures
