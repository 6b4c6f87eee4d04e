use Rattle.std.specs.Prelude.{codes, string_bytes}
use Rattle.json.specs.Value.{members_view}
use Rattle.cedar_json.specs.Entities.{under}
use Rattle.cedar_json.specs.Parts.{part_written}
use Rattle.cedar_json_commands.specs.LinksWritten.{string_part}
use Rattle.cedar_json_commands.specs.PartialQuestionsWritten.{given_written}
use Rattle.cedar_json_commands.proofs.Putting.{braced_put}
use Rattle.cedar_json_commands.proofs.links.write_link_by.Goals as goal

pub returns-clause-written : goal.returns-clause-written
returns-clause-written c =
    let ms = members_view c.args.members.now.items in
    let slots = members_view c.args.slots.now.items in
    braced_put (string_bytes c.args.out.now) (string_bytes c.push.new.self) (string_bytes c.write_string_under.new.out)
    (string_bytes c.write_string_under-2.new.out) (string_bytes c.write_given_under.new.out) (string_bytes c.write_given_under-2.new.out)
    (string_bytes c.push-2.new.self) (part_written (codes "template") (string_part (under c.args.template.now ms)))
    (part_written (codes "id") (string_part (under c.args.id.now ms))) (given_written (codes "principal") (under (codes "?principal") slots))
    (given_written (codes "resource") (under (codes "?resource") slots))
    (record {
      opened = c.in_ok-push.ensures.bytes;
      first = c.in_ok-write_string_under.ensures.written;
      second = c.in_ok-write_string_under-2.ensures.written;
      third = c.in_ok-write_given_under.ensures.written;
      fourth = c.in_ok-write_given_under-2.ensures.written;
    })
    c.in_ok-push-2.ensures.bytes
