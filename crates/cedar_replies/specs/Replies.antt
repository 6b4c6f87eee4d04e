-- Replies and refusals, as the world names them.
use Rattle.std.specs.Prelude.{Result, Ok, Err}
use Rattle.std.specs.Option.{option_map}
use Rattle.cedar_world.specs.Answer as world_answer
use Rattle.cedar_world.specs.Commands as world
use Rattle.cedar_replies.specs.declared.answer.Answer as declared_answer
use Rattle.cedar_replies.specs.declared.answer.Reply.{Reply}
use Rattle.cedar_replies.specs.declared.answer.Reply.TheVariants.{Done, Ids, Answer}
use Rattle.cedar_replies.specs.declared.refusal.Refusal.{Refusal}
use Rattle.cedar_policy_parts.specs.Decisions.{decision_of}
use Rattle.cedar_replies.specs.Refusals.{refusal_of}

abbrev pub answer_of : declared_answer.Answer → world_answer.Answer
answer_of a = record { decision = option_map decision_of a.decision; must = a.must; may = a.may; erring = a.erring }

-- what an accepted command is answered
abbrev pub accepted : Reply → world.Reply
accepted Done = world.Done
accepted (Ids ids) = world.Named ids.items
accepted (Answer answer) = world.Answered (answer_of answer)

-- what a command is answered, whether it is accepted or refused
abbrev pub reply_of : Result Reply Refusal → world.Reply
reply_of (Ok reply) = accepted reply
reply_of (Err refusal) = world.Refused (refusal_of refusal)
