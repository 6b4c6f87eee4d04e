-- What an open session does.
use Rattle.std.specs.Prelude.{◌≡◌, ℕ, ◌≤◌, List, [], length, Option, Some, None, codes}
use Rattle.cedar_frames.specs.Heads.{body_limit, verb_name}
use Rattle.cedar_frames.specs.declared.verb.Verb.{Verb}
use Rattle.cedar_replies.specs.Replies.{reply_of}
use Rattle.cedar_calls.specs.declared.answering.JsonReply.{JsonReply}
use Rattle.cedar_calls.specs.declared.answering.JsonReply.TheVariants.{Unread, Replied}
use Rattle.cedar_calls.specs.declared.answering.Unanswered.{Unanswered}
use Rattle.cedar_calls.specs.declared.answering.Unanswered.TheVariants.{Unsaid, Long, Memory}
use Rattle.cedar_session.specs.Owning.{owned_setting, owned_world}
use Rattle.cedar_session.specs.Programs.{KnowsAllWithin}
use Rattle.cedar_world.specs.Answer.{Answer}
use Rattle.cedar_world.specs.Commands.{Reply, Done, Named, Answered, Refused}
use Rattle.cedar_world.specs.Lines.{line_of}
use Rattle.cedar_world.specs.RunText.{BodyStep}
use Rattle.cedar_world.specs.Setting.{Setting}
use Rattle.cedar_world.specs.World.{World, new_world}
use Rattle.cedar_extension_types.specs.Tables.{standard_table}
use Rattle.cedar_messages.specs.Json.{json_of}
use Rattle.cedar_messages.specs.declared.fault.Fault.{Fault}
use Rattle.cedar_refusals.specs.Reasons.{ShowsWhy}
use Rattle.cedar_c.specs.declared.open_session.OpenSession.{OpenSession}
use Rattle.cedar_c.specs.declared.open_session.Tabled.{Tabled}
use Rattle.cedar_c.specs.declared.open_session.Tabled.TheVariants.{Bare, Standard}

abbrev pub setting_in : Tabled → Setting
setting_in (Bare session) = owned_setting session
setting_in (Standard session) = owned_setting session

abbrev pub world_in : Tabled → World
world_in (Bare session) = owned_world session
world_in (Standard session) = owned_world session

-- the line of JSON that wasn't read
abbrev pub unread_line : Unanswered → List ℕ
unread_line Unsaid = codes "refused Json\n"
unread_line Long = codes "refused Long\n"
unread_line Memory = codes "refused Memory\n"

abbrev pub line_after : Option JsonReply → List ℕ
line_after None = []
line_after (Some (Unread why)) = unread_line why
line_after (Some (Replied outcome)) = line_of (reply_of outcome)

-- the answer to a question that is accepted
abbrev pub answer_in : Reply → Option Answer
answer_in (Answered answer) = Some answer
answer_in Done = None
answer_in (Named ids) = None
answer_in (Refused why) = None

abbrev pub answer_after : Option JsonReply → Option Answer
answer_after None = None
answer_after (Some (Unread why)) = None
answer_after (Some (Replied outcome)) = answer_in (reply_of outcome)

-- the line that tells what the last command was answered; nothing before the first
abbrev pub answer_line : OpenSession → List ℕ
answer_line session = line_after session.answered

-- the answer to the last command, where that was a question which was accepted
abbrev pub last_answer : OpenSession → Option Answer
last_answer session = answer_after session.answered

-- It holds nothing, knows every extension, has this limit of depth, and has answered nothing.
pub record IsNewWithin (depth : ℕ) (session : OpenSession) : Type 0 where
  pub setting : KnowsAllWithin depth (setting_in session.session)
  pub world : world_in session.session ≡ new_world
  pub silent : answer_line session ≡ []

-- It holds nothing, knows Cedar's extension types and `unknown`, has this limit of depth, and has answered nothing.
pub record IsNewStandardWithin (depth : ℕ) (session : OpenSession) : Type 0 where
  pub setting : setting_in session.session ≡ record { functions = standard_table; depth = depth }
  pub world : world_in session.session ≡ new_world
  pub silent : answer_line session ≡ []

-- a verb is spelled so, and the body is no longer than a frame's may be
abbrev pub IsCommand : List ℕ → List ℕ → Type 0
IsCommand word body = (verb : Verb) × (word ≡ verb_name verb) × (length body ≤ body_limit)

-- From the one state to the other the command of this verb and this body is done, and the line is its answer's.
pub record Does (old : OpenSession) (word body : List ℕ) (new : OpenSession) : Type 0 where
  pub verb : Verb
  pub spelled : word ≡ verb_name verb
  pub reply : Reply
  pub step : BodyStep (setting_in old.session) (world_in old.session) verb body reply (world_in new.session)
  pub setting : setting_in new.session ≡ setting_in old.session
  pub said : answer_line new ≡ line_of reply
  pub answer : last_answer new ≡ answer_in reply

-- A JSON list tells the faults by which a session refuses the command of this verb and this body.
pub record TellsWhy (session : OpenSession) (word body json : List ℕ) : Type 0 where
  pub verb : Verb
  pub spelled : word ≡ verb_name verb
  pub faults : List Fault
  pub why : ShowsWhy (setting_in session.session) verb body faults
  pub list : json ≡ json_of faults

-- such a list takes so many bytes
abbrev pub TellsWhyIn : OpenSession → List ℕ → List ℕ → ℕ → Type 0
TellsWhyIn session word body count = (json : List ℕ) × TellsWhy session word body json × (length json ≡ count)
