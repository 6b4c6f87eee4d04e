use Rattle.std.proofs.Common.{◌∷◌, [], ◌++◌, ap, ◌∙◌}
use Rattle.std.specs.Prelude.{string_bytes, encode_utf8_all}
use Rattle.json.specs.Value.{value_view}
use Rattle.cedar_json.specs.EntitiesWritten.{one_written}
use Rattle.cedar_json.proofs.Appending.{grown, pushed}
use Rattle.cedar_json.proofs.bodies.item_text.Goals as goal

pub returns : goal.returns
returns c =
    let a = string_bytes c.new-text.result in
    let b = string_bytes c.write_one.new.out in
    let d = string_bytes c.push.new.self in
    let one = one_written (value_view c.args.item.now) in
    grown a b d one (44 ∷ []) c.in_ok-write_one.ensures (pushed b d 44 c.in_ok-push.ensures.bytes)
    ∙ ap (λ s. s ++ encode_utf8_all (one ++ 44 ∷ [])) c.new-text.ensures.bytes
