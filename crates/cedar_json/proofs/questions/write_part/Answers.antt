use Rattle.std.proofs.Common.{◌++◌, ap, ◌∙◌}
use Rattle.std.specs.Prelude.{string_bytes, encode_utf8_all}
use Rattle.json.specs.Value.{members_view}
use Rattle.cedar_json.specs.Entities.{under}
use Rattle.cedar_json.specs.QuestionsWritten.{part_written}
use Rattle.cedar_json.proofs.Appending.{part_put}
use Rattle.cedar_json.proofs.questions.write_part.Goals as goal

pub returns-clause-written : goal.returns-clause-written
returns-clause-written c =
    let key = c.args.key.now in
    let b = string_bytes c.write_key.new.out in
    part_put (string_bytes c.args.out.now) b (string_bytes c.write_asked.new.out) (string_bytes c.push.new.self) key
    (part_written (under key (members_view c.args.members.now.items))) c.in_ok-write_key.ensures
    (c.in_ok-write_asked.ensures.written ∙ ap (λ v. b ++ encode_utf8_all (part_written v)) c.in-Some.ensures) c.in_ok-push.ensures.bytes
