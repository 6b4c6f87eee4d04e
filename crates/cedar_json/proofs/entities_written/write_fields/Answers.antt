use Rattle.std.proofs.Common.{◌++◌, ap, ◌∙◌}
use Rattle.std.specs.Prelude.{string_bytes, encode_utf8_all}
use Rattle.json.specs.Value.{members_view}
use Rattle.cedar_json.specs.Entities.{under}
use Rattle.cedar_json.specs.EntitiesWritten.{fields_written}
use Rattle.cedar_json.proofs.Appending.{on_part}
use Rattle.cedar_json.proofs.entities_written.write_fields.Goals as goal

pub returns : goal.returns
returns c =
    let key = c.args.key.now in
    let o = under key (members_view c.args.members.now.items) in
    let b = string_bytes c.write_key.new.out in
    on_part c.push.result (string_bytes c.args.out.now) b (string_bytes c.write_fields_found.new.out) (string_bytes c.push.new.self) key (fields_written o)
    c.in_ok-write_key.ensures (c.in_ok-write_fields_found.ensures ∙ ap (λ v. b ++ encode_utf8_all (fields_written v)) c.find.ensures) c.push.ensures.bytes
