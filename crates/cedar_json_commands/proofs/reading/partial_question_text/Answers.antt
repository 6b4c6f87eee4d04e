use Rattle.std.specs.Prelude.{string_bytes}
use Rattle.std.proofs.lemmas.Str.{IsUtf8-string_bytes}
use Rattle.json.specs.Value.{value_view}
use Rattle.cedar_world.specs.Bodies.{ask_body}
use Rattle.cedar_json_commands.specs.PartialQuestions.{partial_question_in}
use Rattle.cedar_json_commands.specs.PartialQuestionsWritten.{partial_question_written}
use Rattle.cedar_json_commands.proofs.PartialQuestionTexts.{partial_question_text}
use Rattle.cedar_json_commands.proofs.Saying.{body_said}
use Rattle.cedar_json_commands.proofs.reading.partial_question_text.Goals as goal

pub returns-clause-said : goal.returns-clause-said
returns-clause-said c =
    λ json d.
    body_said partial_question_in ask_body partial_question_written partial_question_text json (string_bytes c.new-text.result) (string_bytes c.write_partial_question.new.out) (value_view c.args.value.now) d
    (c.in_ok-write_partial_question.ensures.told c.requires.keys) c.holds_texts.ensures (IsUtf8-string_bytes c.write_partial_question.new.out) (c.new-text.ensures.bytes, c.in_ok-write_partial_question.ensures.written)
