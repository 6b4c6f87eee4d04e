use Rattle.std.specs.Prelude.{codes, string_bytes}
use Rattle.json.specs.Value.{members_view}
use Rattle.cedar_json.specs.Entities.{under}
use Rattle.cedar_json.specs.EntitiesWritten.{parents_written, uid_part, fields_written}
use Rattle.cedar_json.proofs.Appending.{on_parts}
use Rattle.cedar_json.proofs.entities_written.write_body.Goals as goal

pub returns : goal.returns
returns c =
    let ms = members_view c.args.members.now.items in
    on_parts c.push-2.result (string_bytes c.args.out.now) (string_bytes c.push.new.self) (string_bytes c.write_uid_part.new.out)
    (string_bytes c.write_parents.new.out) (string_bytes c.write_fields.new.out)
    (string_bytes c.write_fields-2.new.out) (string_bytes c.push-2.new.self) (codes "uid") (uid_part (under (codes "uid") ms)) (codes "parents")
    (parents_written (under (codes "parents") ms))
    (codes "attrs") (fields_written (under (codes "attrs") ms)) (codes "tags") (fields_written (under (codes "tags") ms))
    (record {
      opened = c.in_ok-push.ensures.bytes;
      first = c.in_ok-write_uid_part.ensures;
      second = c.in_ok-write_parents.ensures;
      third = c.in_ok-write_fields.ensures;
      fourth = c.in_ok-write_fields-2.ensures;
    })
    c.push-2.ensures.bytes
