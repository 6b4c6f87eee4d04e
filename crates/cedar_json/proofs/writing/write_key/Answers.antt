use Rattle.std.proofs.Common.{◌∷◌, [], lit<}
use Rattle.std.specs.Prelude.{string_bytes}
use Rattle.cedar_grammar.specs.Tokens.{colon}
use Rattle.cedar_json.specs.Written.{quoted}
use Rattle.cedar_json.proofs.Appending.{on_grown, on_two}
use Rattle.cedar_json.proofs.writing.write_key.Goals as goal

pub returns : goal.returns
returns c =
    let a = string_bytes c.args.out.now in
    let b = string_bytes c.write_quoted.new.out in
    let d = string_bytes c.push_str.new.self in
    on_grown c.push_str.result a b d (quoted c.args.key.now) (colon ∷ 32 ∷ []) c.in_ok-write_quoted.ensures
    (on_two c.push_str.result b d colon 32 (lit< tt) (lit< tt) c.push_str.ensures.bytes)
