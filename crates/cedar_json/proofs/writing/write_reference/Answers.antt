use Rattle.std.proofs.Common.{◌∷◌, [], ◌++◌, append_assoc, lit<}
use Rattle.std.specs.Prelude.{string_bytes}
use Rattle.std.specs.Str.{chars}
use Rattle.cedar_grammar.specs.Tokens.{colon}
use Rattle.cedar_json.specs.Written.{quoted, uid_text}
use Rattle.cedar_json.proofs.Appending.{grown, two_pushed, on_grown, on_same}
use Rattle.cedar_json.proofs.writing.write_reference.Goals as goal

pub returns : goal.returns
returns c =
    let r = c.write_quoted.result in
    let a = string_bytes c.args.out.now in
    let b = string_bytes c.write_text.new.out in
    let d = string_bytes c.push_str.new.self in
    let e = string_bytes c.write_quoted.new.out in
    let type = chars c.args.entity_type.now in
    let id = quoted c.args.id.now in
    let both = grown a b d type (colon ∷ colon ∷ []) c.in_ok-write_text.ensures
    (two_pushed b d colon colon (lit< tt) (lit< tt) c.in_ok-push_str.ensures.bytes) in
    on_same r a e ((type ++ colon ∷ colon ∷ []) ++ id) (uid_text c.args.entity_type.now c.args.id.now) (append_assoc type (colon ∷ colon ∷ []) id)
    (on_grown r a d e (type ++ colon ∷ colon ∷ []) id both c.write_quoted.ensures)
