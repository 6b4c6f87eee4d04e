-- A plain text stands there as it is.
use Rattle.std.proofs.Common.{sym, ◌∙◌}
use Rattle.std.specs.Prelude.{string_bytes}
use Rattle.std.specs.Str.{chars}
use Rattle.cedar_json.specs.Written.{escaped}
use Rattle.cedar_json.proofs.Appending.{on_same, on_text, plain_escaped}
use Rattle.cedar_json.proofs.writing.write_inside.Goals as goal

pub returns-then-are_plain : goal.returns-then-are_plain
returns-then-are_plain c =
    let r = c.push_str.result in
    let a = string_bytes c.args.out.now in
    let b = string_bytes c.push_str.new.self in
    let s = chars c.args.text.now in
    on_same r a b s (escaped s) (sym (plain_escaped s (sym c.if-are_plain.ensures))) (on_text r a b c.args.text.now c.utf8.text c.push_str.ensures.bytes)
