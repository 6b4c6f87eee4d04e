-- Each of its parts is on one line (Below).
use Rattle.std.proofs.Common.{string_bytes, codes, refl}
use Rattle.cedar_messages.specs.Telling.{IsLine}
use Rattle.cedar_messages.proofs.Below.{appended, both_added, line_more}
use Rattle.cedar_messages.proofs.telling.push_escape.Goals as goal

pub returns : goal.returns
returns c =
    let start = string_bytes c.args.told.now in
    let a = string_bytes c.push_str.new.self in
    let b = string_bytes c.push_str-2.new.self in
    let d = string_bytes c.push_str-3.new.self in
    let new = string_bytes c.push_str-4.new.self in
    let one = appended IsLine start (codes "\\u{") a refl c.in_ok-push_str.ensures.bytes in
    let two = appended IsLine a c.first_digit.result.now b c.first_digit.ensures c.in_ok-push_str-2.ensures.bytes in
    let three = appended IsLine b c.digit.result.now d c.digit.ensures c.in_ok-push_str-3.ensures.bytes in
    let four = appended IsLine d (codes "}") new refl c.in_ok-push_str-4.ensures.bytes in
    both_added IsLine line_more start d new (both_added IsLine line_more start b d (both_added IsLine line_more start a b one two) three) four
