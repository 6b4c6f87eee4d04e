-- How a link is refused whose slots the JSON doesn't say.
use Rattle.cedar_json.specs.declared.reading.Unread.{Unread}
use Rattle.cedar_json.specs.declared.reading.Unread.TheVariants as unread
use Rattle.cedar_replies.specs.declared.refusal.Refusal.TheVariants.{Memory}
use Rattle.cedar_named_sessions.specs.declared.refusals.NamedRefusal.{NamedRefusal}
use Rattle.cedar_named_sessions.specs.declared.refusals.NamedRefusal.TheVariants.{Unsaid, Refused}

abbrev pub refusal_for : Unread → NamedRefusal
refusal_for unread.Unsaid = Unsaid
refusal_for unread.Memory = Refused Memory
