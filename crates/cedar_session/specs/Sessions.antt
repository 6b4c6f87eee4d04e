-- What a session holds, as the world names it.
use Rattle.std.specs.Prelude.{Option, Result, Ok, Err, Vec}
use Rattle.std.specs.declared.alloc.Global.{Global}
use Rattle.cedar_policy_parts.specs.declared.policy_id.PolicyID.{PolicyID}
use Rattle.std.specs.Option.{option_map}
use Rattle.cedar_world.specs.World as world
use Rattle.cedar_world.specs.World.{World}
use Rattle.cedar_extensions.specs.declared.objects.ExtensionFunctionObject.{Ghosts}
use Rattle.cedar_session.specs.Settings.{setting_with}
use Rattle.cedar_world.specs.Setting.{Setting}
use Rattle.cedar_world.specs.Commands as commands
use Rattle.cedar_replies.specs.declared.answer.Answer.{Answer}
use Rattle.cedar_replies.specs.declared.refusal.Refusal.{Refusal}
use Rattle.cedar_replies.specs.Replies.{answer_of}
use Rattle.cedar_replies.specs.Refusals.{refusal_of}
use Rattle.cedar_telling.specs.Tells.{told_in}
use Rattle.cedar_evaluator.specs.declared.partial_response.PartialResponse.{PartialResponse}
use Rattle.cedar_session.specs.Asking.{body_tree}
use Rattle.cedar_session.specs.Open.{question_in}
use Rattle.cedar_session.specs.declared.asked.Asked.{Asked}
use Rattle.cedar_session.specs.declared.session.Session.{Session}

-- the functions that a session knows, and its limit
abbrev pub setting_of : {F : Type 0} {functions : Ghosts F} → Session F functions → Setting
setting_of {functions = functions} session = setting_with functions.answers session.extensions.now session.depth

abbrev pub asked_of : Asked → world.Asked
asked_of asked = record { question = question_in (body_tree asked.body); told = told_in asked.told.entries; last = answer_of asked.answer }

-- of these policies, templates and links, these entities, and this open question
abbrev pub world_holding : world.Policies → world.Entities → Option Asked → World
world_holding policies entities asked = record { policies = policies; entities = entities; asked = option_map asked_of asked }

-- the policies, templates and links, the entities held, and the open question
abbrev pub world_of : {F : Type 0} {functions : Ghosts F} → Session F functions → World
world_of session = world_holding session.policies session.entities session.asked

-- the first response to the open question
abbrev pub response_of : {F : Type 0} {functions : Ghosts F} → Session F functions → Option PartialResponse
response_of session = option_map (λ (a : Asked). a.first) session.asked

-- what a `load`, an edit, and an `ask` or a `tell` are answered
abbrev pub load_reply : Result (Vec PolicyID Global) Refusal → commands.Reply
load_reply (Ok ids) = commands.Named ids.items
load_reply (Err refusal) = commands.Refused (refusal_of refusal)

abbrev pub edit_reply : Result (Unit {0}) Refusal → commands.Reply
edit_reply (Ok done) = commands.Done
edit_reply (Err refusal) = commands.Refused (refusal_of refusal)

abbrev pub ask_reply : Result Answer Refusal → commands.Reply
ask_reply (Ok answer) = commands.Answered (answer_of answer)
ask_reply (Err refusal) = commands.Refused (refusal_of refusal)
