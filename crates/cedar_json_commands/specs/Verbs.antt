-- What JSON says as the body of each command.
use Rattle.std.specs.Prelude.{Bool, is_some}
use Rattle.cedar_language.specs.Uid.{Text}
use Rattle.cedar_frames.specs.declared.verb.Verb.{Verb}
use Rattle.cedar_frames.specs.declared.verb.Verb.TheVariants as command
use Rattle.cedar_world.specs.Bodies.{string_of, uids_of, link_body, entity_bodies, ask_body, tell_body}
use Rattle.cedar_json.specs.declared.reading.Unread.{Unread}
use Rattle.cedar_json.specs.Entities.{entities_of}
use Rattle.cedar_json.specs.Questions.{question_of}
use Rattle.cedar_json.specs.Said.{IsUnsaid}
use Rattle.cedar_json_commands.specs.declared.verbs.JsonVerb.{JsonVerb}
use Rattle.cedar_json_commands.specs.declared.verbs.JsonVerb.TheVariants as verb
use Rattle.cedar_json_commands.specs.Links.{link_of}
use Rattle.cedar_json_commands.specs.Others.{tell_of, id_of, named_entities_of}
use Rattle.cedar_json_commands.specs.PartialQuestions.{partial_question_of}
use Rattle.cedar_json_commands.specs.Said.{SaysBody}

-- the command: both questions are asked
abbrev pub command_of : JsonVerb → Verb
command_of verb.Link = command.Link
command_of verb.Unlink = command.Unlink
command_of verb.RemoveStatic = command.RemoveStatic
command_of verb.RemoveTemplate = command.RemoveTemplate
command_of verb.Add = command.Add
command_of verb.Put = command.Put
command_of verb.Remove = command.Remove
command_of verb.Ask = command.Ask
command_of verb.AskPartial = command.Ask
command_of verb.Tell = command.Tell

-- the Cedar text is a body of the command, and says just what the JSON says
abbrev pub SaysAs : JsonVerb → Text → Text → Type 0
SaysAs verb.Link = SaysBody link_of link_body
SaysAs verb.Unlink = SaysBody id_of string_of
SaysAs verb.RemoveStatic = SaysBody id_of string_of
SaysAs verb.RemoveTemplate = SaysBody id_of string_of
SaysAs verb.Add = SaysBody entities_of entity_bodies
SaysAs verb.Put = SaysBody entities_of entity_bodies
SaysAs verb.Remove = SaysBody named_entities_of uids_of
SaysAs verb.Ask = SaysBody question_of ask_body
SaysAs verb.AskPartial = SaysBody partial_question_of ask_body
SaysAs verb.Tell = SaysBody tell_of tell_body

-- as the body of the command the JSON says nothing; of memory nothing is claimed
abbrev pub SaysNothingAs : JsonVerb → Text → Unread → Type 0
SaysNothingAs verb.Link json = IsUnsaid (link_of json)
SaysNothingAs verb.Unlink json = IsUnsaid (id_of json)
SaysNothingAs verb.RemoveStatic json = IsUnsaid (id_of json)
SaysNothingAs verb.RemoveTemplate json = IsUnsaid (id_of json)
SaysNothingAs verb.Add json = IsUnsaid (entities_of json)
SaysNothingAs verb.Put json = IsUnsaid (entities_of json)
SaysNothingAs verb.Remove json = IsUnsaid (named_entities_of json)
SaysNothingAs verb.Ask json = IsUnsaid (question_of json)
SaysNothingAs verb.AskPartial json = IsUnsaid (partial_question_of json)
SaysNothingAs verb.Tell json = IsUnsaid (tell_of json)

-- as the body of the command the JSON says something
abbrev pub says_body : JsonVerb → Text → Bool
says_body verb.Link json = is_some (link_of json)
says_body verb.Unlink json = is_some (id_of json)
says_body verb.RemoveStatic json = is_some (id_of json)
says_body verb.RemoveTemplate json = is_some (id_of json)
says_body verb.Add json = is_some (entities_of json)
says_body verb.Put json = is_some (entities_of json)
says_body verb.Remove json = is_some (named_entities_of json)
says_body verb.Ask json = is_some (question_of json)
says_body verb.AskPartial json = is_some (partial_question_of json)
says_body verb.Tell json = is_some (tell_of json)
