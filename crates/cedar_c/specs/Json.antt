-- What an open session does with commands of which JSON says the body.
use Rattle.std.specs.Prelude.{◌≡◌, ◌⊎◌, ℕ, List, [], length, Option, Some, None, true, not, is_some, codes, IsUtf8}
use Rattle.json.specs.Json.{document}
use Rattle.cedar_json.specs.Answers.{answer_json}
use Rattle.cedar_json.specs.FaultTexts.{faults_written}
use Rattle.cedar_json.specs.declared.faults.JsonFault.{JsonFault}
use Rattle.cedar_json_commands.specs.declared.verbs.JsonVerb.{JsonVerb}
use Rattle.cedar_json_commands.specs.declared.verbs.JsonVerb.TheVariants as verb
use Rattle.cedar_json_commands.specs.Verbs.{says_body}
use Rattle.cedar_calls.specs.declared.answering.JsonReply.{JsonReply}
use Rattle.cedar_calls.specs.declared.answering.JsonReply.TheVariants.{Unread}
use Rattle.cedar_calls.specs.declared.answering.Unanswered.TheVariants.{Unsaid}
use Rattle.cedar_calls.specs.Steps.{JsonStep}
use Rattle.cedar_world.specs.Answer.{Answer}
use Rattle.cedar_world.specs.Setting.{Setting}
use Rattle.cedar_world.specs.World.{World}
use Rattle.cedar_c.specs.Opened.{setting_in, world_in, last_answer}
use Rattle.cedar_c.specs.declared.open_session.OpenSession.{OpenSession}

-- how a command of JSON is spelled: as a frame's verb is, but for the question that may leave parts open
abbrev pub json_word : JsonVerb → List ℕ
json_word verb.AskPartial = codes "ask-partial"
json_word verb.Link = codes "link"
json_word verb.Unlink = codes "unlink"
json_word verb.RemoveStatic = codes "remove-static"
json_word verb.RemoveTemplate = codes "remove-template"
json_word verb.Add = codes "add"
json_word verb.Put = codes "put"
json_word verb.Remove = codes "remove"
json_word verb.Ask = codes "ask"
json_word verb.Tell = codes "tell"

abbrev pub IsJsonWord : List ℕ → Type 0
IsJsonWord word = (v : JsonVerb) × (word ≡ json_word v)

-- bytes that are no text say nothing, and change nothing
abbrev pub BytesStep : Setting → World → JsonVerb → List ℕ → JsonReply → World → Type 0
BytesStep by old v json reply new = ((IsUtf8 json → ⊥) × (reply ≡ Unread Unsaid) × (new ≡ old)) ⊎ (IsUtf8 json × JsonStep by old v json reply new)

-- From the one state to the other the command of this verb is done, of which JSON says the body, and its reply is kept.
pub record DoesJson (old : OpenSession) (word json : List ℕ) (new : OpenSession) : Type 0 where
  pub verb : JsonVerb
  pub spelled : word ≡ json_word verb
  pub reply : JsonReply
  pub step : BytesStep (setting_in old.session) (world_in old.session) verb json reply (world_in new.session)
  pub setting : setting_in new.session ≡ setting_in old.session
  pub kept : new.answered ≡ Some reply

-- JSON tells an answer; no text tells that there is none
abbrev pub TellsIfAny : Option Answer → List ℕ → Type 0
TellsIfAny None text = text ≡ []
TellsIfAny (Some answer) text = document text ≡ Some (answer_json answer)

-- the text tells the answer to the last command, where that was a question which was accepted
abbrev pub TellsAnswer : OpenSession → List ℕ → Type 0
TellsAnswer session text = TellsIfAny (last_answer session) text

-- such a text takes so many bytes
abbrev pub TellsAnswerIn : OpenSession → ℕ → Type 0
TellsAnswerIn session count = (text : List ℕ) × TellsAnswer session text × (length text ≡ count)

-- There is a fault just where the bytes are no text, or a text that says no body of the command.
abbrev pub IsBytesFault : JsonVerb → List ℕ → Option JsonFault → Type 0
IsBytesFault v json fault = ((IsUtf8 json → ⊥) × (is_some fault ≡ true)) ⊎ (IsUtf8 json × (is_some fault ≡ not (says_body v json)))

-- A JSON list tells why these bytes say no body of the command that is spelled so.
pub record TellsJsonWhy (word json text : List ℕ) : Type 0 where
  pub verb : JsonVerb
  pub spelled : word ≡ json_word verb
  pub fault : Option JsonFault
  pub told : IsBytesFault verb json fault
  pub list : text ≡ faults_written fault

-- such a list takes so many bytes
abbrev pub TellsJsonWhyIn : List ℕ → List ℕ → ℕ → Type 0
TellsJsonWhyIn word json count = (list : List ℕ) × TellsJsonWhy word json list × (length list ≡ count)
