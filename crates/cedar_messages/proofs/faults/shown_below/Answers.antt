-- The source line, what was expected, and help (Below).
use Rattle.std.proofs.Common.{string_bytes}
use Rattle.cedar_messages.specs.Telling.{AreBelow}
use Rattle.cedar_messages.proofs.Below.{below_more, both_added, from_nothing}
use Rattle.cedar_messages.proofs.faults.shown_below.Goals as goal

pub returns : goal.returns
returns c =
    let start = string_bytes c.new-below.result in
    let marked = string_bytes c.push_source.new.told in
    let expected = string_bytes c.push_if_any.new.told in
    let new = string_bytes c.push_help.new.told in
    let two = both_added AreBelow below_more start marked expected c.in_ok-push_source.ensures c.in_ok-push_if_any.ensures in
    from_nothing AreBelow start new c.new-below.ensures.bytes (both_added AreBelow below_more start expected new two c.in_ok-push_help.ensures)
