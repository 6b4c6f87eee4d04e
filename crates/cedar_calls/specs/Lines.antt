-- What a line of JSON does: its one member is a command, and the value of that the body.
use Rattle.std.specs.Prelude.{◌≡◌, ◌≢◌, ◌⊎◌, ◌<◌, Some, length, codes}
use Rattle.json.specs.Json.{Json, string, object, no_members, member, document}
use Rattle.json.specs.Strict.{HasUniqueKeys}
use Rattle.json.specs.Value.{value_view}
use Rattle.cedar_frames.specs.Heads.{body_limit}
use Rattle.cedar_json_commands.specs.declared.verbs.JsonVerb.{JsonVerb}
use Rattle.cedar_json_commands.specs.declared.verbs.JsonVerb.TheVariants as verb
use Rattle.cedar_language.specs.Uid.{Text}
use Rattle.cedar_replies.specs.Replies.{reply_of}
use Rattle.cedar_world.specs.Commands.{Load}
use Rattle.cedar_world.specs.Setting.{Setting}
use Rattle.cedar_world.specs.World.{World}
use Rattle.cedar_calls.specs.declared.answering.JsonReply.{JsonReply}
use Rattle.cedar_calls.specs.declared.answering.JsonReply.TheVariants.{Unread, Replied}
use Rattle.cedar_calls.specs.declared.answering.Unanswered.TheVariants.{Unsaid, Long, Memory}
use Rattle.cedar_calls.specs.declared.lines.LineCommand.{LineCommand}
use Rattle.cedar_calls.specs.declared.lines.LineCommand.TheVariants as command
use Rattle.cedar_calls.specs.declared.lines.LineReply.{LineReply}
use Rattle.cedar_calls.specs.declared.lines.LineReply.TheVariants as line_reply
use Rattle.cedar_calls.specs.Steps.{OrdinaryStep, JsonStep}

-- the name of a command in a line
abbrev pub name_of : JsonVerb → Text
name_of verb.Link = codes "link"
name_of verb.Unlink = codes "unlink"
name_of verb.RemoveStatic = codes "removeStatic"
name_of verb.RemoveTemplate = codes "removeTemplate"
name_of verb.Add = codes "add"
name_of verb.Put = codes "put"
name_of verb.Remove = codes "remove"
name_of verb.Ask = codes "ask"
name_of verb.AskPartial = codes "askPartial"
name_of verb.Tell = codes "tell"

abbrev pub IsNoName : Text → Type 0
IsNoName name = (v : JsonVerb) → name ≢ name_of v

-- an object of this name and value alone
abbrev pub single : Text → Json → Json
single name body = object (member name body no_members)

abbrev pub IsNotSingle : Json → Type 0
IsNotSingle j = (name : Text) (body : Json) → j ≢ single name body

-- JSON gives no command: neither one that takes JSON nor a load of a string
abbrev pub IsNoCommand : Json → Type 0
IsNoCommand j = ((v : JsonVerb) (body : Json) → j ≢ single (name_of v) body) × ((text : Text) → j ≢ single (codes "load") (string text))

abbrev pub IsCommandIn : Json → LineCommand → Type 0
IsCommandIn j (command.Load text) = j ≡ single (codes "load") (string text.now)
IsCommandIn j (command.Json v body) = j ≡ single (name_of v) (value_view body.now)

-- the policies of a text are loaded, unless it is longer than a body may be
abbrev pub LoadStep : Setting → World → Text → JsonReply → World → Type 0
LoadStep by old text (Unread Long) new = (body_limit < length text) × (new ≡ old)
LoadStep by old text (Unread Unsaid) new = ⊥
LoadStep by old text (Unread Memory) new = ⊥
LoadStep by old text (Replied outcome) new = OrdinaryStep by old Load text (reply_of outcome) new

-- the command of a line is answered: a load of a string, or one of which a text of JSON says the body
abbrev pub CommandStep : Setting → World → Text → JsonReply → World → Type 0
CommandStep by old line reply new =
    ((text : Text) × (document line ≡ Some (single (codes "load") (string text))) × LoadStep by old text reply new)
    ⊎ ((v : JsonVerb) × (body : Json) × (json : Text) × (document line ≡ Some (single (name_of v) body)) × (document json ≡ Some body)
    × JsonStep by old v json reply new)

-- no command stands in the line, unless a key stands there twice in one object
abbrev pub IsNoCommandLine : Text → Type 0
IsNoCommandLine line = (j : Json) → document line ≡ Some j → HasUniqueKeys j → IsNoCommand j

-- A line that gives no command changes nothing, and neither does one for which there is no memory; else its command is answered.
abbrev pub LineStep : Setting → World → Text → LineReply → World → Type 0
LineStep by old line line_reply.NoCommand new = IsNoCommandLine line × (new ≡ old)
LineStep by old line line_reply.Memory new = new ≡ old
LineStep by old line (line_reply.Answered reply) new = CommandStep by old line reply new
