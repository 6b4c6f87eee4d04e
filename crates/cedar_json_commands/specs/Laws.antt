-- What is proved of JSON and of the bodies that are written for it.
use Rattle.std.specs.Prelude.{◌≡◌, Some, IsUtf8, encode_utf8_all}
use Rattle.json.specs.Json.{Json, document}
use Rattle.cedar_language.specs.Uid.{Text}
use Rattle.cedar_world.specs.Asking.{Question}
use Rattle.cedar_world.specs.Bodies.{LinkBody, link_body, ask_body}
use Rattle.cedar_json.specs.Questions.{question_of}
use Rattle.cedar_json.specs.Written.{AreTexts}
use Rattle.cedar_json_commands.specs.Links.{link_in, link_of}
use Rattle.cedar_json_commands.specs.LinksWritten.{link_written}
use Rattle.cedar_json_commands.specs.PartialQuestions.{partial_question_in, partial_question_of}
use Rattle.cedar_json_commands.specs.PartialQuestionsWritten.{partial_question_written}
use Rattle.cedar_json_commands.specs.Said.{SaysBody}

-- what is written for a question with open parts is a text of a body of just this one
abbrev pub WrittenPartialQuestionsAreRead : Type 0
WrittenPartialQuestionsAreRead = (json text : Text) (j : Json) (question : Question) → document json ≡ Some j → AreTexts j
    → partial_question_in j ≡ Some question → IsUtf8 text → encode_utf8_all (partial_question_written j) ≡ text → SaysBody partial_question_of ask_body json text

-- what is written for a link is a text of a body of just this one
abbrev pub WrittenLinksAreRead : Type 0
WrittenLinksAreRead = (json text : Text) (j : Json) (link : LinkBody) → document json ≡ Some j → AreTexts j
    → link_in j ≡ Some link → IsUtf8 text → encode_utf8_all (link_written j) ≡ text → SaysBody link_of link_body json text

-- where all parts of a question stand, leave to leave some open changes nothing of what is asked
abbrev pub WholeQuestionsArePartial : Type 0
WholeQuestionsArePartial = (json : Text) (question : Question) → question_of json ≡ Some question → partial_question_of json ≡ Some question
