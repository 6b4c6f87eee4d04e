use Rattle.std.specs.Prelude.{codes, string_bytes}
use Rattle.json.specs.Value.{members_view}
use Rattle.cedar_json.specs.Entities.{under}
use Rattle.cedar_json.specs.EntitiesWritten.{fields_written}
use Rattle.cedar_json.specs.QuestionsWritten.{part_written}
use Rattle.cedar_json.proofs.Appending.{parts_put}
use Rattle.cedar_json.proofs.questions.write_question.Goals as goal

pub returns-clause-written : goal.returns-clause-written
returns-clause-written c =
    let ms = members_view c.args.members.now.items in
    parts_put (string_bytes c.args.out.now) (string_bytes c.push.new.self) (string_bytes c.write_part.new.out) (string_bytes c.write_part-2.new.out)
    (string_bytes c.write_part-3.new.out) (string_bytes c.write_context.new.out) (string_bytes c.push-2.new.self)
    (codes "principal") (part_written (under (codes "principal") ms)) (codes "action") (part_written (under (codes "action") ms))
    (codes "resource") (part_written (under (codes "resource") ms)) (codes "context") (fields_written (under (codes "context") ms))
    (record {
      opened = c.in_ok-push.ensures.bytes;
      first = c.in_ok-write_part.ensures.written;
      second = c.in_ok-write_part-2.ensures.written;
      third = c.in_ok-write_part-3.ensures.written;
      fourth = c.in_ok-write_context.ensures.written;
    })
    c.in_ok-push-2.ensures.bytes
