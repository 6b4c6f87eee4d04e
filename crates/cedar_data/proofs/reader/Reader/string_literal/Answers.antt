-- A string is the literal of what it stands for.
use Rattle.std.proofs.Common.{refl}
use Rattle.std.specs.Rc.{rc_str_bytes}
use Rattle.cedar_data.proofs.Rules.{string_read}
use Rattle.cedar_data.proofs.reader.Reader.string_literal.Goals as goal

pub returns : goal.returns
returns c =
    string_read _ c.args.self.now c.string.new.self c.in_ok-text.ensures.raw (rc_str_bytes c.in_ok-text.text) c.in_ok-text.ensures.takes c.in_ok-text.ensures.is refl
