-- Telling among other commands.
use Rattle.std.specs.Prelude.{◌≡◌, Some, List, [], ◌∷◌}
use Rattle.std.specs.FinMap as map
use Rattle.cedar_language.specs.Uid.{Text}
use Rattle.cedar_language.specs.Authorization.{Known}
use Rattle.cedar_world.specs.Answer.{Answer}
use Rattle.cedar_world.specs.World.{World, Asked}
use Rattle.cedar_world.specs.Asking.{Told}
use Rattle.cedar_world.specs.Question.{Portion, ArePortions}
use Rattle.cedar_world.specs.Setting.{Setting}
use Rattle.cedar_world.specs.Fillings.{IsFilling}
use Rattle.cedar_world.specs.Commands.{Ask, Tell, Reply, Answered, Refused}
use Rattle.cedar_world.specs.Session.{Command, Answers}
use Rattle.cedar_world.specs.Step.{Step}
use Rattle.cedar_world.specs.Telling.{Spells, EndsKnown}

-- each command is refused, or tells the next of these portions
abbrev pub TellEach : Setting → List Command → List Reply → List Portion → Type 0
TellEach by [] [] [] = Unit {0}
TellEach by (command ∷ commands) (Refused r ∷ replies) portions = TellEach by commands replies portions
TellEach by ((Tell, text) ∷ commands) (Answered answer ∷ replies) (portion ∷ portions) = Spells by text portion × TellEach by commands replies portions
TellEach by _ _ _ = ⊥

-- After an accepted `ask`, commands that are refused or tell all that is unknown, in any portions and order, end with what is
-- answered where all is known from the first, kinds of errors aside.
abbrev pub ToldCommandsEndKnown : Type 0
ToldCommandsEndKnown =
    (by : Setting) (before start end : World) (text : Text) (first : Answer) (asked : Asked) (commands : List Command) (replies : List Reply) (portions : List Portion) (filling : Told) (request : Known)
    → Step by before Ask text (Answered first) start → start.asked ≡ Some asked
    → Answers by start commands replies end → TellEach by commands replies portions
    → IsFilling by asked.question filling request → ArePortions map.empty portions filling
    → EndsKnown by before end asked.question filling request first
