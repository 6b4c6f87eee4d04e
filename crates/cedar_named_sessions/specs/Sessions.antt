-- What a session by names holds.
use Rattle.std.specs.Prelude.{[], List, Result, Ok, Err, Vec}
use Rattle.std.specs.declared.alloc.Global.{Global}
use Rattle.cedar_extensions.specs.declared.objects.ExtensionFunctionObject.{Ghosts}
use Rattle.cedar_language.specs.Uid.{Text}
use Rattle.cedar_policy_parts.specs.declared.policy_id.PolicyID.{PolicyID}
use Rattle.cedar_replies.specs.Replies.{answer_of}
use Rattle.cedar_replies.specs.declared.answer.Answer.{Answer}
use Rattle.cedar_session.specs.Owning.{owned_setting, owned_world}
use Rattle.cedar_world.specs.Answer as world
use Rattle.cedar_world.specs.Setting.{Setting}
use Rattle.cedar_world.specs.World.{new_world}
use Rattle.cedar_named_sessions.specs.Steps.{Named}
use Rattle.cedar_named_sessions.specs.declared.refusals.NamedRefusal.{NamedRefusal}
use Rattle.cedar_named_sessions.specs.declared.session.NamedSession.{NamedSession}

abbrev pub setting_of : {F : Type 0} {functions : Ghosts F} → NamedSession F functions → Setting
setting_of session = owned_setting session.session

abbrev pub named_of : {F : Type 0} {functions : Ghosts F} → NamedSession F functions → Named
named_of session = record { world = owned_world session.session; names = session.names }

-- a session that was just made
abbrev pub new_named : Named
new_named = record { world = new_world; names = [] }

-- what a load, and a question, is answered
abbrev pub names_told : Result (Vec PolicyID Global) NamedRefusal → Result (List Text) NamedRefusal
names_told (Ok names) = Ok names.items
names_told (Err refusal) = Err refusal

abbrev pub answer_told : Result Answer NamedRefusal → Result world.Answer NamedRefusal
answer_told (Ok answer) = Ok (answer_of answer)
answer_told (Err refusal) = Err refusal
