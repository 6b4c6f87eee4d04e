-- The question that the JSON asks is the one that the session read.
use Rattle.cedar_language.specs.Uid.{Text}
use Rattle.cedar_language.specs.Height.{height}
use Rattle.cedar_json.specs.Said.{SaysQuestion}
use Rattle.cedar_grammar.specs.Functions.{body_names}
use Rattle.cedar_world.specs.KnownQuestions.{KnownQuestionsAreAnswered}
use Rattle.cedar_world.specs.Setting.{Setting, IsBody}
use Rattle.cedar_calls.specs.Laws.{KnowsCalls, JsonQuestionsAreAnswered}

is_body : (by : Setting) (json text : Text) (said : SaysQuestion json text) → KnowsCalls by said.2 → IsBody by text said.2
is_body by json text said knows = (height said.2, said.3 (body_names by.functions) knows)

pub questions_are_answered : KnownQuestionsAreAnswered → JsonQuestionsAreAnswered
questions_are_answered law by commands replies world new json text answer answers said step =
    let known = law.after_commands by commands replies world new text answer answers step in
    (known.0, λ knows is_known. known.1 said.2 said.0 (is_body by json text said knows) said.4 is_known)
