-- The line below is told (Below).
use Rattle.std.proofs.Common.{string_bytes, sym, subst}
use Rattle.cedar_messages.specs.Telling.{AreBelow}
use Rattle.cedar_messages.proofs.Below.{from_nothing}
use Rattle.cedar_authoring.proofs.running.fail_long.Goals as goal

pub returns : goal.returns
returns c =
    let start = string_bytes c.new-wrong.result in
    let new = string_bytes c.push_indented.new.told in
    let below = from_nothing AreBelow start new c.new-wrong.ensures.bytes c.in_ok-push_indented.ensures in
    rw c.as_str-2.ensures.value at c.tell_test.ensures (subst AreBelow (sym c.as_str-3.ensures.value) below)
