-- What is written for a string is read as this one.
use Rattle.std.proofs.Common.{sym, ap, ◌∙◌, ◌++◌}
use Rattle.std.specs.Prelude.{string_bytes, encode_utf8_all}
use Rattle.std.proofs.lemmas.Str.{IsUtf8-string_bytes}
use Rattle.cedar_language.specs.Tree.{Lit, String}
use Rattle.cedar_json.specs.Written.{quoted}
use Rattle.cedar_json.proofs.Literals.{string_spelled}
use Rattle.cedar_json_commands.proofs.Standing.{spelled_text}
use Rattle.cedar_named_sessions.proofs.bodies.id_body.Goals as goal

pub returns : goal.returns
returns c =
    let id = c.args.id.now in
    let is = c.in_ok-write_quoted.ensures ∙ ap (λ bytes. bytes ++ encode_utf8_all (quoted id)) c.new-text.ensures.bytes in
    spelled_text (quoted id) (Lit (String id)) (string_bytes c.write_quoted.new.out) (λ names calls. string_spelled names id c.utf8.id)
    (IsUtf8-string_bytes c.write_quoted.new.out) (sym is)
