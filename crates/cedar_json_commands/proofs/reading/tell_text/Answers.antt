use Rattle.std.proofs.Common.{◌≡◌, true, false, sym, ◌∙◌, arith}
use Rattle.std.specs.Prelude.{string_bytes}
use Rattle.std.proofs.lemmas.Str.{IsUtf8-string_bytes}
use Rattle.json.specs.Value.{value_view}
use Rattle.cedar_world.specs.Bodies.{tell_body}
use Rattle.cedar_json.specs.Entities.{fields_in}
use Rattle.cedar_json.specs.Written.{written}
use Rattle.cedar_json_commands.proofs.OtherTexts.{tell_text}
use Rattle.cedar_json_commands.proofs.Saying.{body_said, body_unsaid}
use Rattle.cedar_json_commands.proofs.reading.tell_text.Goals as goal

pub returns-then-not-is_record-clause-unsaid : goal.returns-then-not-is_record-clause-unsaid
returns-then-not-is_record-clause-unsaid c =
    let no : c.is_record.result ≡ false = grind arith in
    λ json d. body_unsaid fields_in json (value_view c.args.value.now) d (sym (c.is_record.ensures c.requires.keys) ∙ no)

pub returns-clause-said : goal.returns-clause-said
returns-clause-said c =
    let yes : c.is_record.result ≡ true = grind arith in
    λ json d.
    body_said fields_in tell_body written tell_text json (string_bytes c.new-text.result) (string_bytes c.write_value.new.out) (value_view c.args.value.now) d
    (sym (c.is_record.ensures c.requires.keys) ∙ yes) c.holds_texts.ensures (IsUtf8-string_bytes c.write_value.new.out) (c.new-text.ensures.bytes, c.in_ok-write_value.ensures)
