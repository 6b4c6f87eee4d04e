use Rattle.std.specs.Prelude.{string_bytes}
use Rattle.std.proofs.lemmas.Str.{IsUtf8-string_bytes}
use Rattle.json.specs.Value.{value_view}
use Rattle.cedar_json.proofs.Saying.{question_said}
use Rattle.cedar_json.proofs.reading.question_text.Goals as goal

pub returns-clause-said : goal.returns-clause-said
returns-clause-said c =
    λ json d.
    question_said json (string_bytes c.new-text.result) (string_bytes c.write_asks.new.out) (value_view c.args.value.now) d
    (c.in_ok-write_asks.ensures.told c.requires.keys) c.holds_texts.ensures (IsUtf8-string_bytes c.write_asks.new.out)
    (c.new-text.ensures.bytes, c.in_ok-write_asks.ensures.written)
