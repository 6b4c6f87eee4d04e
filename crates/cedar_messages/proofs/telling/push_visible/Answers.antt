-- It is no control character (Visible).
use Rattle.std.proofs.Common.{◌≡◌, false, string_bytes, arith}
use Rattle.std.proofs.lemmas.Grind.{common_steps}
use lib.Utf8.{encode}
use Rattle.cedar_messages.specs.Telling.{hides, IsLine}
use Rattle.cedar_messages.proofs.Below.{appended}
use Rattle.cedar_messages.proofs.Visible.{visible}
use Rattle.cedar_messages.proofs.telling.push_visible.Goals as goal

pub returns : goal.returns
returns c =
    let shown : hides c.args.c ≡ false = grind (arith, common_steps) in
    appended IsLine (string_bytes c.args.told.now) (encode c.args.c) (string_bytes c.push.new.self) (visible c.args.c shown) c.in_ok-push.ensures.bytes
