use Rattle.std.specs.Prelude.{string_bytes}
use Rattle.json.specs.Value.{value_view}
use Rattle.cedar_json.specs.QuestionsWritten.{asked_written}
use Rattle.cedar_json.proofs.Appending.{part_put}
use Rattle.cedar_json_commands.proofs.parts.write_given.Goals as goal

pub returns-clause-written : goal.returns-clause-written
returns-clause-written c =
    part_put (string_bytes c.args.out.now) (string_bytes c.write_key.new.out) (string_bytes c.write_asked.new.out) (string_bytes c.push.new.self) c.args.key.now
    (asked_written (value_view c.args.value.now)) c.in_ok-write_key.ensures c.in_ok-write_asked.ensures.written c.in_ok-push.ensures.bytes
