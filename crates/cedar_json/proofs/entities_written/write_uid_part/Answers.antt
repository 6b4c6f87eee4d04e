use Rattle.std.proofs.Common.{◌++◌, ap, ◌∙◌}
use Rattle.std.specs.Prelude.{codes, string_bytes, encode_utf8_all}
use Rattle.json.specs.Value.{members_view}
use Rattle.cedar_json.specs.Entities.{under}
use Rattle.cedar_json.specs.EntitiesWritten.{uid_part}
use Rattle.cedar_json.proofs.Appending.{on_part}
use Rattle.cedar_json.proofs.entities_written.write_uid_part.Goals as goal

pub returns : goal.returns
returns c =
    let key = (codes "uid") in
    let o = under key (members_view c.args.members.now.items) in
    let b = string_bytes c.write_key.new.out in
    on_part c.push.result (string_bytes c.args.out.now) b (string_bytes c.write_uid_found.new.out) (string_bytes c.push.new.self) key (uid_part o)
    c.in_ok-write_key.ensures (c.in_ok-write_uid_found.ensures ∙ ap (λ v. b ++ encode_utf8_all (uid_part v)) c.find.ensures) c.push.ensures.bytes
