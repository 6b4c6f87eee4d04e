use Rattle.std.proofs.Common.{◌∷◌, []}
use Rattle.std.specs.Prelude.{string_bytes}
use Rattle.std.specs.Str.{chars}
use Rattle.cedar_grammar.specs.Tokens.{quote}
use Rattle.cedar_json.proofs.Appending.{grown, pushed}
use Rattle.cedar_json.proofs.told.write_string.Goals as goal

pub returns-clause-written : goal.returns-clause-written
returns-clause-written c =
    let a = string_bytes c.args.out.now in
    let b = string_bytes c.push.new.self in
    let d = string_bytes c.write_text.new.out in
    let e = string_bytes c.push-2.new.self in
    let raw = chars c.args.raw.now in
    grown a d e (quote ∷ raw) (quote ∷ [])
    (grown a b d (quote ∷ []) raw (pushed a b quote c.in_ok-push.ensures.bytes) c.in_ok-write_text.ensures)
    (pushed d e quote c.in_ok-push-2.ensures.bytes)
