use Rattle.std.specs.Prelude.{string_bytes}
use Rattle.json.specs.Value.{value_view}
use Rattle.cedar_json.proofs.Appending.{part_put}
use Rattle.cedar_json_commands.specs.Others.{string_written}
use Rattle.cedar_json_commands.proofs.links.write_string.Goals as goal

pub returns-clause-written : goal.returns-clause-written
returns-clause-written c =
    part_put (string_bytes c.args.out.now) (string_bytes c.write_key.new.out) (string_bytes c.write_id.new.out) (string_bytes c.push.new.self) c.args.key.now
    (string_written (value_view c.args.value.now)) c.in_ok-write_key.ensures c.in_ok-write_id.ensures.written c.in_ok-push.ensures.bytes
