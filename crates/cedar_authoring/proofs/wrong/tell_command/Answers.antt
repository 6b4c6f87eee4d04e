-- Its line begins with a space (Below).
use Rattle.std.proofs.Common.{string_bytes}
use Rattle.cedar_messages.proofs.Below.{headed}
use Rattle.cedar_authoring.proofs.wrong.tell_command.Goals as goal

pub returns : goal.returns
returns c =
    headed (string_bytes c.args.told.now) (string_bytes c.push_str.new.self) (string_bytes c.push_on_line.new.told) (string_bytes c.push_on_line-2.new.told) (string_bytes c.push_str-2.new.self)
    c.in_ok-push_str.ensures.bytes c.in_ok-push_on_line.ensures c.in_ok-push_on_line-2.ensures c.in_ok-push_str-2.ensures.bytes
