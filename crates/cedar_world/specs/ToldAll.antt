-- Once accepted commands told all that is unknown, what is told is a filling.
use Rattle.std.specs.Prelude.{◌≡◌, ◌⊎◌, true, Some, None, IsSome, List}
use Rattle.std.specs.FinMap as map
use Rattle.cedar_language.specs.Uid.{Text}
use Rattle.cedar_language.specs.Authorization.{Known}
use Rattle.cedar_world.specs.Answer.{Answer}
use Rattle.cedar_world.specs.World.{World, Asked}
use Rattle.cedar_world.specs.Asking.{Question, Told}
use Rattle.cedar_world.specs.Question.{is_unknown}
use Rattle.cedar_world.specs.Setting.{Setting}
use Rattle.cedar_world.specs.Fillings.{IsFilling}
use Rattle.cedar_world.specs.Commands.{Ask, Tell, Reply, Answered}
use Rattle.cedar_world.specs.Session.{Command, Answers}
use Rattle.cedar_world.specs.Step.{Step}
use Rattle.cedar_world.specs.RunLaws.{AnswersFrames}

module _ (by : Setting) where
  -- An accepted `ask` led to this world, and accepted tells after it.
  pub data IsToldByCommands : World → Type 0 where
    asks : {old new : World} (text : Text) (answer : Answer) → Step by old Ask text (Answered answer) new → IsToldByCommands new
    tells : {old new : World} (text : Text) (answer : Answer) → IsToldByCommands old → Step by old Tell text (Answered answer) new → IsToldByCommands new

  -- no question is open, or one that was asked and told so
  abbrev pub OpensByCommands : World → Type 0
  OpensByCommands world = (world.asked ≡ None) ⊎ IsToldByCommands world

-- each missing part and each unknown name of the question has a value
abbrev pub TellsAll : Question → Told → Type 0
TellsAll q told = (n : Text) → is_unknown q n ≡ true → IsSome (map.get told n)

pub record ToldAllIsAFilling : Type 0 where
  -- once all is told, there is a known request that the values told make of the question, and there are no other values among them
  pub filling : (by : Setting) (world : World) (asked : Asked) → IsToldByCommands by world → world.asked ≡ Some asked
      → TellsAll asked.question asked.told → (request : Known) × IsFilling by asked.question asked.told request
  -- so are all questions of a session, and of a run
  pub commands : (by : Setting) (start end : World) (commands : List Command) (replies : List Reply)
      → OpensByCommands by start → Answers by start commands replies end → OpensByCommands by end
  pub frames : (by : Setting) (start end : World) (commands : List Command) (replies : List Reply)
      → OpensByCommands by start → AnswersFrames by start commands replies end → OpensByCommands by end
