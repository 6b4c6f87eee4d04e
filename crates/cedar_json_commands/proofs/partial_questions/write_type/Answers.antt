use Rattle.std.specs.Prelude.{string_bytes}
use Rattle.cedar_json.specs.Written.{quoted}
use Rattle.cedar_json.proofs.Appending.{part_put}
use Rattle.cedar_json_commands.proofs.partial_questions.write_type.Goals as goal

pub returns-clause-written : goal.returns-clause-written
returns-clause-written c =
    part_put (string_bytes c.args.out.now) (string_bytes c.write_key.new.out) (string_bytes c.write_quoted.new.out) (string_bytes c.push.new.self) c.args.key.now
    (quoted c.args.name.now) c.in_ok-write_key.ensures c.in_ok-write_quoted.ensures c.in_ok-push.ensures.bytes
