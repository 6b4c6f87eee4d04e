use Rattle.std.proofs.Common.{is_some, sym, ap}
use Rattle.std.specs.Prelude.{string_bytes}
use Rattle.std.specs.Str.{chars}
use Rattle.cedar_grammar.specs.Tokens.{tokens_of}
use Rattle.cedar_world.specs.Bodies.{and_then}
use Rattle.cedar_json.specs.Questions.{path_in, uid_told, uid_read}
use Rattle.cedar_json.specs.QuestionsWritten.{told_written, read_written}
use Rattle.cedar_json.proofs.Appending.{on_same}
use Rattle.cedar_json.proofs.Paths.{tells_same, tokens_are, no_tokens}
use Rattle.cedar_json.proofs.told.write_told.Goals as goal

pub returns-in-Ok-clause-told : goal.returns-in-Ok-clause-told
returns-in-Ok-clause-told c =
    let s = c.args.text.now in
    let ts = c.in-Ok.tokens.left in
    tells_same c.write_path.result (uid_told (path_in ts)) (uid_read s)
    (sym (ap (λ o. is_some (and_then o (λ us. uid_told (path_in us)))) (tokens_are s ts c.in-Ok.ensures.tokens))) c.write_path.ensures.told

pub returns-in-Ok-clause-written : goal.returns-in-Ok-clause-written
returns-in-Ok-clause-written c =
    let s = c.args.text.now in
    let ts = c.in-Ok.tokens.left in
    on_same c.write_path.result (string_bytes c.args.out.now) (string_bytes c.write_path.new.out) (told_written (path_in ts))
    (read_written (tokens_of (chars s)))
    (sym (ap read_written (tokens_are s ts c.in-Ok.ensures.tokens))) c.write_path.ensures.written

pub returns-in-Err-clause-told : goal.returns-in-Err-clause-told
returns-in-Err-clause-told c = no_tokens c.args.text.now c.in-Err.field-0 c.in-Err.ensures.refused
