-- What is proved of JSON and its Cedar texts.
use Rattle.std.specs.Prelude.{◌≡◌, List, Some, IsUtf8, encode_utf8_all}
use Rattle.json.specs.Json.{Json, document}
use Rattle.json.specs.Strict.{HasUniqueKeys}
use Rattle.cedar_language.specs.Uid.{Text}
use Rattle.cedar_language.specs.Tree.{Tree}
use Rattle.cedar_world.specs.Asking.{Question}
use Rattle.cedar_world.specs.Bodies.{EntityBody, entity_bodies, ask_body}
use Rattle.cedar_json.specs.Entities.{entities_in, entities_of}
use Rattle.cedar_json.specs.EntitiesWritten.{entities_written}
use Rattle.cedar_json.specs.Questions.{question_in, question_of}
use Rattle.cedar_json.specs.QuestionsWritten.{asks_written}
use Rattle.cedar_json.specs.Values.{datum, IsTextOf, Says}
use Rattle.cedar_json.specs.Written.{AreTexts, written}

-- what is written for the value of a text of JSON is a text of that value
abbrev pub WrittenValuesAreRead : Type 0
WrittenValuesAreRead = (json text : Text) (j : Json) (t : Tree) → document json ≡ Some j → AreTexts j → datum j ≡ Some t → IsUtf8 text → encode_utf8_all (written j) ≡ text → Says json text

-- where an object has a key twice, at any depth, no value is said
abbrev pub ValuesHaveUniqueKeys : Type 0
ValuesHaveUniqueKeys = (j : Json) (t : Tree) → datum j ≡ Some t → HasUniqueKeys j

-- what is written for the entities of a text of JSON is a text of a body of just these
abbrev pub WrittenEntitiesAreRead : Type 0
WrittenEntitiesAreRead = (json text : Text) (j : Json) (es : List EntityBody) → document json ≡ Some j → AreTexts j → entities_in j ≡ Some es → IsUtf8 text → encode_utf8_all (entities_written j) ≡ text
    → (entities_of json ≡ Some es) × (t : Tree) × IsTextOf text t × (entity_bodies t ≡ Some es)

-- what is written for the question of a text of JSON is a text of a body of just this one
abbrev pub WrittenQuestionsAreRead : Type 0
WrittenQuestionsAreRead = (json text : Text) (j : Json) (question : Question) → document json ≡ Some j → AreTexts j → question_in j ≡ Some question → IsUtf8 text → encode_utf8_all (asks_written j) ≡ text
    → (question_of json ≡ Some question) × (t : Tree) × IsTextOf text t × (ask_body t ≡ Some question)
