-- The contract of a session's commands, `Step`, makes the theorem true.
use Rattle.std.specs.Prelude.{◌≡◌, Some, List}
use Rattle.cedar_language.specs.Uid.{Text}
use Rattle.cedar_language.specs.Tree.{Tree}
use Rattle.cedar_language.specs.Authorization.{Known}
use Rattle.cedar_world.specs.Answer.{Answer}
use Rattle.cedar_world.specs.Asking.{Question}
use Rattle.cedar_world.specs.Bodies.{ask_body}
use Rattle.cedar_world.specs.Commands.{Ask, Reply, Answered}
use Rattle.cedar_world.specs.Setting.{Setting, IsBody}
use Rattle.cedar_world.specs.Question.{IsKnown}
use Rattle.cedar_world.specs.World.{World, new_world}
use Rattle.cedar_world.specs.Step.{Step}
use Rattle.cedar_world.specs.Session.{Answers}
use Rattle.cedar_world.specs.RunText.{FrameStep}
use Rattle.cedar_world.specs.RunLaws.{AnswersFrames}
use Rattle.cedar_theorem.specs.Holdings.{Command}
use Rattle.cedar_theorem.specs.Theorem.{Asks, IsAnsweredByTheRules}

-- Whatever commands a new session was sent, each of them a step, and then an `ask` that is answered; and so in a run's frames.
pub record SessionsAnswerByTheRules : Type 0 where
  pub after_commands : (by : Setting) (commands : List Command) (replies : List Reply) (world new : World) (text : Text) (answer : Answer)
      → Answers by new_world commands replies world → Step by world Ask text (Answered answer) new
      → IsAnsweredByTheRules by.functions commands replies text answer
  pub in_runs : (by : Setting) (commands : List Command) (replies : List Reply) (world new : World) (text : Text) (answer : Answer)
      → AnswersFrames by new_world commands replies world → FrameStep by world Ask text (Answered answer) new
      → IsAnsweredByTheRules by.functions commands replies text answer

-- What the theorem speaks of is each question that is answered and in which, as the world has it, nothing is unknown.
abbrev pub KnownQuestionsAsk : Type 0
KnownQuestionsAsk =
    (by : Setting) (world new : World) (text : Text) (answer : Answer) (tree : Tree) (q : Question)
    → Step by world Ask text (Answered answer) new → IsBody by text tree → ask_body tree ≡ Some q → IsKnown q
    → (request : Known) × Asks by.functions text request
