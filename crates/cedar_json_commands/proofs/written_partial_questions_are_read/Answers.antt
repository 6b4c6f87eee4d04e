-- By the parts that stand.
use Rattle.cedar_world.specs.Bodies.{ask_body}
use Rattle.cedar_json_commands.specs.PartialQuestions.{partial_question_in}
use Rattle.cedar_json_commands.specs.PartialQuestionsWritten.{partial_question_written}
use Rattle.cedar_json_commands.proofs.PartialQuestionTexts.{partial_question_text}
use Rattle.cedar_json_commands.proofs.Saying.{written_said}
use Rattle.cedar_json_commands.proofs.written_partial_questions_are_read.Goals as goal

pub returns : goal.returns
returns c =
    λ json text j question d a e u is. written_said partial_question_in ask_body partial_question_written partial_question_text json text j question d a e u is
