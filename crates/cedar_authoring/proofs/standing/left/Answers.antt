-- Two lines are added (Below).
use Rattle.std.proofs.Common.{string_bytes}
use Rattle.cedar_messages.specs.Telling.{AreBelow}
use Rattle.cedar_messages.proofs.Below.{below_more, both_added, from_nothing}
use Rattle.cedar_authoring.proofs.standing.left.Goals as goal

pub returns : goal.returns
returns c =
    let start = string_bytes c.new-told.result in
    let rest = string_bytes c.push_indented.new.told in
    let new = string_bytes c.push_indented-2.new.told in
    from_nothing AreBelow start new c.new-told.ensures.bytes (both_added AreBelow below_more start rest new c.in_ok-push_indented.ensures c.in_ok-push_indented-2.ensures)
