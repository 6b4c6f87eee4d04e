-- That no answer names a failed look-up of a function after any list of commands, and none a slot that isn't linked but where more
-- is told and a clause has a slot. (Cedar language reference, "Extension functions" and "Policy templates".)
use Rattle.std.specs.Prelude.{List}
use Rattle.cedar_world.specs.Answer.{Answer}
use Rattle.cedar_world.specs.Commands.{Ask, Reply, Answered}
use Rattle.cedar_world.specs.Session.{Command, IsReached}
use Rattle.cedar_world.specs.Setting.{Setting}
use Rattle.cedar_world.specs.World.{World}
use Rattle.cedar_frames.specs.declared.verb.Verb.{Verb}
use Rattle.cedar_world.specs.Lookups.{ClausesHoldNoSlot, NamesOrdinaryErrors, NamesFoundErrors}

-- an answer to a question that is asked, in a world to which commands lead
abbrev pub AnswersOrdinarily : Setting → World → Answer → Type 0
AnswersOrdinarily by world answer = (commands : List Command) (replies : List Reply) → IsReached by commands replies world → NamesOrdinaryErrors answer

-- One to a question of which more is told: what was left of a link may hold a slot of a clause, which isn't bound any more. Where no
-- clause has a slot, none is named.
pub record AnswersToldOrdinarily (by : Setting) (world : World) (answer : Answer) : Type 0 where
  pub finds : (commands : List Command) (replies : List Reply) → IsReached by commands replies world → NamesFoundErrors answer
  pub without_slots : ClausesHoldNoSlot world.policies → AnswersOrdinarily by world answer

-- and a reply that is an answer, to a command of this verb
abbrev pub RepliesOrdinarily : Setting → World → Reply → Verb → Type 0
RepliesOrdinarily by world (Answered answer) Ask = AnswersOrdinarily by world answer
RepliesOrdinarily by world (Answered answer) verb = AnswersToldOrdinarily by world answer
RepliesOrdinarily by world reply verb = Unit {0}
