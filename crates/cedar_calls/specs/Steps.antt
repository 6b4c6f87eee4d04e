-- What a command of JSON is answered in a world, and which world it leaves.
use Rattle.std.specs.Prelude.{◌≡◌, ◌<◌, length, ⊤}
use Rattle.cedar_frames.specs.Heads.{body_limit}
use Rattle.json.specs.Json.{Json}
use Rattle.cedar_json.specs.declared.reading.Unread.{Unread as WhyUnread}
use Rattle.cedar_json.specs.declared.reading.Unread.TheVariants as unread
use Rattle.cedar_json.specs.Said.{OfEachText}
use Rattle.cedar_json_commands.specs.declared.verbs.JsonVerb.{JsonVerb}
use Rattle.cedar_json_commands.specs.Verbs.{command_of, SaysAs, SaysNothingAs}
use Rattle.cedar_language.specs.Uid.{Text}
use Rattle.cedar_replies.specs.Replies.{reply_of}
use Rattle.cedar_world.specs.Commands.{Verb, Reply}
use Rattle.cedar_world.specs.OrdinaryReplies.{RepliesOrdinarily}
use Rattle.cedar_world.specs.Setting.{Setting}
use Rattle.cedar_world.specs.Step.{Step}
use Rattle.cedar_world.specs.World.{World}
use Rattle.cedar_calls.specs.declared.answering.JsonReply.{JsonReply}
use Rattle.cedar_calls.specs.declared.answering.JsonReply.TheVariants.{Unread, Replied}
use Rattle.cedar_calls.specs.declared.answering.Unanswered.{Unanswered}
use Rattle.cedar_calls.specs.declared.answering.Unanswered.TheVariants.{Unsaid, Long, Memory}

-- nothing is said as this command, or by a text that is longer than a body may be; of memory nothing is claimed
abbrev pub IsUnanswered : JsonVerb → Text → Unanswered → Type 0
IsUnanswered verb json Unsaid = SaysNothingAs verb json unread.Unsaid
IsUnanswered verb json Long = (text : Text) × SaysAs verb json text × (body_limit < length text)
IsUnanswered verb json Memory = ⊤

-- a command, answered with ordinary errors alone
abbrev pub OrdinaryStep : Setting → World → Verb → Text → Reply → World → Type 0
OrdinaryStep by old verb text reply new = Step by old verb text reply new × RepliesOrdinarily by old reply verb

-- What isn't read changes nothing; what is answered is the command of a text that says the same.
abbrev pub JsonStep : Setting → World → JsonVerb → Text → JsonReply → World → Type 0
JsonStep by old verb json (Unread why) new = IsUnanswered verb json why × (new ≡ old)
JsonStep by old verb json (Replied outcome) new =
    (text : Text) × SaysAs verb json text × OrdinaryStep by old (command_of verb) text (reply_of outcome) new

-- the same of a value: so it is of each of its texts
abbrev pub ValueStep : Setting → World → JsonVerb → Json → JsonReply → World → Type 0
ValueStep by old verb j reply new = OfEachText j (λ json. JsonStep by old verb json reply new)

abbrev pub unanswered : WhyUnread → Unanswered
unanswered unread.Memory = Memory
unanswered unread.Unsaid = Unsaid
