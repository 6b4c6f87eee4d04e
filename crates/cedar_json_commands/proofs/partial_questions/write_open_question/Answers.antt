use Rattle.std.specs.Prelude.{codes, string_bytes}
use Rattle.json.specs.Value.{members_view}
use Rattle.cedar_json.specs.Entities.{under}
use Rattle.cedar_json_commands.specs.PartialQuestionsWritten.{given_written, open_written, context_written}
use Rattle.cedar_json_commands.proofs.Putting.{braced_put}
use Rattle.cedar_json_commands.proofs.partial_questions.write_open_question.Goals as goal

pub returns-clause-written : goal.returns-clause-written
returns-clause-written c =
    let ms = members_view c.args.members.now.items in
    braced_put (string_bytes c.args.out.now) (string_bytes c.push.new.self) (string_bytes c.write_open_part.new.out)
    (string_bytes c.write_open_action.new.out) (string_bytes c.write_open_part-2.new.out) (string_bytes c.write_open_context.new.out)
    (string_bytes c.push-2.new.self) (open_written (codes "principal") (codes "principal_type") (under (codes "principal") ms))
    (given_written (codes "action") (under (codes "action") ms))
    (open_written (codes "resource") (codes "resource_type") (under (codes "resource") ms)) (context_written (under (codes "context") ms))
    (record {
      opened = c.in_ok-push.ensures.bytes;
      first = c.in_ok-write_open_part.ensures.written;
      second = c.in_ok-write_open_action.ensures.written;
      third = c.in_ok-write_open_part-2.ensures.written;
      fourth = c.in_ok-write_open_context.ensures.written;
    })
    c.in_ok-push-2.ensures.bytes
