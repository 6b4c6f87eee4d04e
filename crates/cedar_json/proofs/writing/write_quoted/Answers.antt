use Rattle.std.proofs.Common.{◌∷◌, []}
use Rattle.std.specs.Prelude.{string_bytes}
use Rattle.std.specs.Str.{chars}
use Rattle.cedar_grammar.specs.Tokens.{quote}
use Rattle.cedar_json.specs.Written.{escaped}
use Rattle.cedar_json.proofs.Appending.{grown, pushed, on_grown, on_pushed}
use Rattle.cedar_json.proofs.writing.write_quoted.Goals as goal

pub returns : goal.returns
returns c =
    let a = string_bytes c.args.out.now in
    let b = string_bytes c.push.new.self in
    let d = string_bytes c.write_inside.new.out in
    let e = string_bytes c.push-2.new.self in
    let s = escaped (chars c.args.text.now) in
    on_grown c.push-2.result a d e (quote ∷ s) (quote ∷ [])
    (grown a b d (quote ∷ []) s (pushed a b quote c.in_ok-push.ensures.bytes) c.in_ok-write_inside.ensures)
    (on_pushed c.push-2.result d e quote c.push-2.ensures.bytes)
