use Rattle.std.specs.Prelude.{string_bytes}
use Rattle.std.proofs.lemmas.Str.{IsUtf8-string_bytes}
use Rattle.json.specs.Value.{value_view}
use Rattle.json.specs.Find.{as_str}
use Rattle.cedar_world.specs.Bodies.{string_of}
use Rattle.cedar_json_commands.specs.Others.{string_written}
use Rattle.cedar_json_commands.proofs.OtherTexts.{id_text}
use Rattle.cedar_json_commands.proofs.Saying.{body_said}
use Rattle.cedar_json_commands.proofs.reading.id_text.Goals as goal

pub returns-clause-said : goal.returns-clause-said
returns-clause-said c =
    λ json d.
    body_said as_str string_of string_written id_text json (string_bytes c.new-text.result) (string_bytes c.write_id.new.out) (value_view c.args.value.now) d
    c.in_ok-write_id.ensures.told c.holds_texts.ensures (IsUtf8-string_bytes c.write_id.new.out) (c.new-text.ensures.bytes, c.in_ok-write_id.ensures.written)
