-- What commands of JSON do, and what questions are answered after any commands.
use Rattle.std.specs.Prelude.{◌≡◌, true, Option, List}
use Rattle.cedar_json.specs.Entities.{entities_of}
use Rattle.cedar_json.specs.Questions.{question_of}
use Rattle.cedar_json.specs.Said.{SaysQuestion}
use Rattle.cedar_json_commands.specs.Links.{link_of}
use Rattle.cedar_json_commands.specs.Others.{tell_of, id_of, named_entities_of}
use Rattle.cedar_json_commands.specs.PartialQuestions.{partial_question_of}
use Rattle.cedar_json_commands.specs.Said.{SaysBody}
use Rattle.cedar_grammar.specs.Calls.{calls_only}
use Rattle.cedar_grammar.specs.Functions.{body_names}
use Rattle.cedar_grammar.specs.Names.{is_function}
use Rattle.cedar_language.specs.Authorization.{Known}
use Rattle.cedar_language.specs.Facts.{Facts}
use Rattle.cedar_language.specs.Tree.{Tree}
use Rattle.cedar_language.specs.Uid.{Text}
use Rattle.cedar_world.specs.Answer.{Answer}
use Rattle.cedar_world.specs.Asking.{Question}
use Rattle.cedar_world.specs.Bodies.{string_of, uids_of, link_body, entity_bodies, ask_body, tell_body}
use Rattle.cedar_world.specs.Commands.{Verb, Link, Unlink, RemoveStatic, RemoveTemplate, Add, Put, Remove, Ask, Tell, Reply, Done, Answered}
use Rattle.cedar_world.specs.KnownQuestions.{Asks, AnswersByMeaning}
use Rattle.cedar_world.specs.Question.{IsKnown}
use Rattle.cedar_world.specs.Session.{Command, Answers, IsReached}
use Rattle.cedar_world.specs.Setting.{Setting}
use Rattle.cedar_world.specs.Step.{Step, LinkSays, TakeAwaySays, AddSays, PutSays, RemoveSays, AskSays, TellSays}
use Rattle.cedar_world.specs.World.{World, AreFacts, new_world}

-- the session knows each function that the tree calls
abbrev pub KnowsCalls : Setting → Tree → Type 0
KnowsCalls by tree = calls_only (is_function (body_names by.functions)) tree ≡ true

-- the question is answered by what the conditions of the world's policies mean for it
abbrev pub IsAnsweredAs : Setting → World → Question → Answer → Type 0
IsAnsweredAs by world question answer =
    (facts : Facts) × (request : Known) × AreFacts by.functions world.entities facts × Asks facts request question
    × AnswersByMeaning facts request world.policies answer

-- Whatever commands were answered before, the world holds what they led to; and an accepted question that a text of JSON asks is answered
-- as the one that the JSON says, where the session knows the functions that it calls and nothing in it is unknown.
abbrev pub JsonQuestionsAreAnswered : Type 0
JsonQuestionsAreAnswered =
    (by : Setting) (commands : List Command) (replies : List Reply) (world new : World) (json text : Text) (answer : Answer)
    → Answers by new_world commands replies world → (said : SaysQuestion json text) → Step by world Ask text (Answered answer) new
    → IsReached by commands replies world × (KnowsCalls by said.2 → IsKnown said.0 → IsAnsweredAs by world said.0 answer)

module _ (by : Setting) (old new : World) (json text : Text) where
  -- Once the command of a text that says what the JSON says is accepted, this is so of what is said, where the session knows the functions
  -- that it calls.
  abbrev pub DoesWhatIsSaid : {B : Type 0} → (Text → Option B) → (Tree → Option B) → Verb → Reply → (B → Type 0) → Type 0
  DoesWhatIsSaid of read verb reply Says = (said : SaysBody of read json text) → Step by old verb text reply new → KnowsCalls by said.2 → Says said.0

  -- so it is of each command
  pub record JsonCommandsDoWhatIsSaid : Type 0 where
    pub link : DoesWhatIsSaid link_of link_body Link Done (LinkSays by old text new)
    pub unlink : DoesWhatIsSaid id_of string_of Unlink Done (TakeAwaySays by old text new)
    pub remove_static : DoesWhatIsSaid id_of string_of RemoveStatic Done (TakeAwaySays by old text new)
    pub remove_template : DoesWhatIsSaid id_of string_of RemoveTemplate Done (TakeAwaySays by old text new)
    pub add : DoesWhatIsSaid entities_of entity_bodies Add Done (AddSays by old text new)
    pub put : DoesWhatIsSaid entities_of entity_bodies Put Done (PutSays by old text new)
    pub remove : DoesWhatIsSaid named_entities_of uids_of Remove Done (RemoveSays by old text new)
    pub ask : (answer : Answer) → DoesWhatIsSaid question_of ask_body Ask (Answered answer) (AskSays by old text new answer)
    pub ask_partial : (answer : Answer) → DoesWhatIsSaid partial_question_of ask_body Ask (Answered answer) (AskSays by old text new answer)
    pub tell : (answer : Answer) → DoesWhatIsSaid tell_of tell_body Tell (Answered answer) (TellSays by old text new answer)
