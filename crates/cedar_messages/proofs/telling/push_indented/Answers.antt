-- The line begins with a space (Below).
use Rattle.std.proofs.Common.{string_bytes}
use Rattle.cedar_messages.proofs.Below.{indented}
use Rattle.cedar_messages.proofs.telling.push_indented.Goals as goal

pub returns : goal.returns
returns c =
    indented (string_bytes c.args.told.now) (string_bytes c.push_str.new.self) (string_bytes c.push_on_line.new.told) (string_bytes c.push_str-2.new.self)
    c.in_ok-push_str.ensures.bytes c.in_ok-push_on_line.ensures c.in_ok-push_str-2.ensures.bytes
