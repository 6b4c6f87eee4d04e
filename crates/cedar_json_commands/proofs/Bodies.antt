-- Whether something is said as the body of a command, by what the calls answer.
use Rattle.std.proofs.Common.{◌≡◌, true, false, ap}
use Rattle.std.specs.Prelude.{is_some}
use Rattle.cedar_language.specs.Uid.{Text}
use Rattle.json.specs.Find.{as_str}
use Rattle.cedar_world.specs.Bodies.{named_fields}
use Rattle.cedar_json.specs.declared.reading.Unread.{Unread}
use Rattle.cedar_json.specs.declared.reading.Unread.TheVariants as unread
use Rattle.cedar_json.specs.Entities.{fields_in, parents_in}
use Rattle.cedar_json.specs.Said.{IsUnparsed}
use Rattle.cedar_json.proofs.Saying.{entities_unparsed, question_unparsed}
use Rattle.cedar_json.proofs.Unique.{parents_unique, said_unique}
use Rattle.cedar_json_commands.specs.declared.verbs.JsonVerb.{JsonVerb}
use Rattle.cedar_json_commands.specs.declared.verbs.JsonVerb.TheVariants as verb
use Rattle.cedar_json_commands.specs.Links.{link_in}
use Rattle.cedar_json_commands.specs.PartialQuestions.{partial_question_in}
use Rattle.cedar_json_commands.proofs.Apart.{link_unique, partial_question_unique, string_unique}
use Rattle.cedar_json_commands.proofs.Saying.{body_unparsed}
use Rattle.cedar_json_commands.specs.Verbs.{SaysAs, SaysNothingAs, says_body}

pub a_body_is_said : (v : JsonVerb) (json text : Text) → SaysAs v json text → says_body v json ≡ true
a_body_is_said verb.Link json text said = ap is_some said.1
a_body_is_said verb.Unlink json text said = ap is_some said.1
a_body_is_said verb.RemoveStatic json text said = ap is_some said.1
a_body_is_said verb.RemoveTemplate json text said = ap is_some said.1
a_body_is_said verb.Add json text said = ap is_some said.1
a_body_is_said verb.Put json text said = ap is_some said.1
a_body_is_said verb.Remove json text said = ap is_some said.1
a_body_is_said verb.Ask json text said = ap is_some said.1
a_body_is_said verb.AskPartial json text said = ap is_some said.1
a_body_is_said verb.Tell json text said = ap is_some said.1

pub no_body_is_said : (v : JsonVerb) (json : Text) → SaysNothingAs v json unread.Unsaid → says_body v json ≡ false
no_body_is_said verb.Link json unsaid = ap is_some unsaid
no_body_is_said verb.Unlink json unsaid = ap is_some unsaid
no_body_is_said verb.RemoveStatic json unsaid = ap is_some unsaid
no_body_is_said verb.RemoveTemplate json unsaid = ap is_some unsaid
no_body_is_said verb.Add json unsaid = ap is_some unsaid
no_body_is_said verb.Put json unsaid = ap is_some unsaid
no_body_is_said verb.Remove json unsaid = ap is_some unsaid
no_body_is_said verb.Ask json unsaid = ap is_some unsaid
no_body_is_said verb.AskPartial json unsaid = ap is_some unsaid
no_body_is_said verb.Tell json unsaid = ap is_some unsaid

pub nothing_unparsed : (v : JsonVerb) (json : Text) (e : Unread) → IsUnparsed json e → SaysNothingAs v json e
nothing_unparsed verb.Link = body_unparsed link_in link_unique
nothing_unparsed verb.Unlink = body_unparsed as_str string_unique
nothing_unparsed verb.RemoveStatic = body_unparsed as_str string_unique
nothing_unparsed verb.RemoveTemplate = body_unparsed as_str string_unique
nothing_unparsed verb.Add = entities_unparsed
nothing_unparsed verb.Put = entities_unparsed
nothing_unparsed verb.Remove = body_unparsed parents_in parents_unique
nothing_unparsed verb.Ask = question_unparsed
nothing_unparsed verb.AskPartial = body_unparsed partial_question_in partial_question_unique
nothing_unparsed verb.Tell = body_unparsed fields_in (said_unique named_fields)
