-- Scripts of commands: what their tests pass by, and what is told of them.
use Rattle.std.specs.Prelude.{◌≡◌, ◌≢◌, ◌↔◌, ◌⊎◌, ◌<◌, ◌≤◌, ℕ, ◌+◌, List, [], ◌∷◌, ◌++◌, map, length, slice_index, codes, Bool, true, false, not, ◌&&◌, ◌||◌, ◌==◌, nat_eq, count_by, All, Option, Some, None, option_map, string_bytes}
use Rattle.std.specs.List.{Contains, starts_with}
use Rattle.std.specs.FinMap as finite
use Rattle.std.specs.Fmt.{decimal}
use Rattle.cedar_language.specs.Uid.{Text}
use Rattle.cedar_frames.specs.Heads.{body_limit}
use Rattle.cedar_world.specs.Commands.{Memory, Reply, Answered, Refused}
use Rattle.cedar_world.specs.Lines.{line_of}
use Rattle.cedar_world.specs.Session.{Command, Answers}
use Rattle.cedar_world.specs.Setting.{Setting}
use Rattle.cedar_world.specs.Step.{Step as Steps}
use Rattle.cedar_world.specs.World.{World, new_world}
use Rattle.cedar_scripts.specs.declared.script.Step.{Step}
use Rattle.cedar_scripts.specs.declared.script.Test.{Test}
use Rattle.cedar_scripts.specs.declared.script.Script.{Script}
use Rattle.cedar_messages.specs.Telling.{AreBelow}

-- ---- steps

abbrev pub command_of : Step → Command
command_of s = (s.verb, string_bytes s.body)

-- the text is one that a command may have
abbrev pub FitsCommand : Step → Type 0
FitsCommand s = length (string_bytes s.body) ≤ body_limit

-- the line begins with these words, and a space or its line feed stands behind them
abbrev pub says : Text → Text → Bool
says words line = starts_with nat_eq line words && (slice_index line (length words) == 10 || slice_index line (length words) == 32)

-- nothing but the line feed stands behind the words with which the line begins
abbrev pub is_whole : Text → Text → Bool
is_whole words line = nat_eq (length line) (length words + 1)

-- an answer by which some policy errs
abbrev pub errs : Reply → Bool
errs (Answered answer) = not (length (finite.entries answer.erring) == 0)
errs reply = false

-- What must be answered: a line that says these words, and all of it where a policy errs; where none are given, no refusal.
abbrev pub is_expected : Option Text → Reply → Bool
is_expected None (Refused r) = false
is_expected None reply = true
is_expected (Some words) reply = says words (line_of reply) && (not (errs reply) || is_whole words (line_of reply))

abbrev pub answers_step : Step → Reply → Bool
answers_step s reply = is_expected (option_map string_bytes s.expected) reply

-- each command is answered as is expected of it
abbrev pub as_expected : List Step → List Reply → Bool
as_expected [] [] = true
as_expected (s ∷ ss) (r ∷ rs) = answers_step s r && as_expected ss rs
as_expected _ _ = false

-- ---- sessions

-- a reply, but that memory is wanting
abbrev pub IsFed : Reply → Type 0
IsFed reply = reply ≢ Refused Memory

-- A session, which has the memory, is given the command of a step, and this says whether it is answered as is expected.
abbrev pub IsAnswered : Setting → World → Step → World → Bool → Type 0
IsAnswered by old s new fine =
    (reply : Reply) × Steps by old s.verb (string_bytes s.body) reply new × (fine ≡ answers_step s reply) × IsFed reply

-- It is given these commands, and this says whether each is answered so.
pub record AreAnswered (by : Setting) (old : World) (steps : List Step) (new : World) (fine : Bool) : Type 0 where
  pub replies : List Reply
  pub answered : Answers by old (map command_of steps) replies new
  pub expected : fine ≡ as_expected steps replies
  pub fed : All IsFed replies

-- ---- tests

-- A session that was just made is given these commands, and this says whether each is answered as is expected.
abbrev pub Passes : Setting → List Step → Bool → Type 0
Passes by steps passed = (new : World) × AreAnswered by new_world steps new passed

-- the line of a test that passed, and that of one that failed, with what was answered otherwise below it
abbrev pub TellsTest : Text → Bool → Text → Type 0
TellsTest name true told = told ≡ (codes "ok   " ++ name) ++ codes "\n"
TellsTest name false told = (more : Text) × AreBelow more × (told ≡ ((codes "FAIL " ++ name) ++ codes "\n") ++ more)

-- each text of the set-up and of the test is one that a command may have
abbrev pub FitTest : List Step → Test → Type 0
FitTest set_up test = All FitsCommand set_up × All FitsCommand test.steps.items

-- How a test went: it passes where a session that was just made answers the set-up, and then its commands, as is expected;
-- where a text is too long it doesn't run, nor pass.
pub record Went (by : Setting) (set_up : List Step) (test : Test) (passed : Bool) (told : Text) : Type 0 where
  pub ran : FitTest set_up test → Passes by (set_up ++ test.steps.items) passed
  pub long : (FitTest set_up test → ⊥) → passed ≡ false
  pub tells : TellsTest (string_bytes test.name) passed told

-- Each test ran in a session of its own, which was given the set-up first, and is told of.
abbrev pub TellsTests : Setting → List Step → List Test → List Bool → Text → Type 0
TellsTests by set_up [] [] told = told ≡ []
TellsTests by set_up (t ∷ ts) (p ∷ ps) told =
    (first others : Text) × Went by set_up t p first × TellsTests by set_up ts ps others × (told ≡ first ++ others)
TellsTests by set_up _ _ told = ⊥

-- ---- scripts

-- a command of a script
abbrev pub HasStep : Script → Step → Type 0
HasStep script s = Contains script.set_up.items s ⊎ ((t : Test) × Contains script.tests.items t × Contains t.steps.items s)

-- a line tells of a command of the script whose text is too long
abbrev pub TellsLong : Text → Script → Text → Type 0
TellsLong name script told =
    (s : Step) × HasStep script s × (FitsCommand s → ⊥)
    × (told ≡ ((name ++ codes ":") ++ decimal s.line) ++ codes ": the text is longer than 1,048,576 bytes\n")

-- each text is one that a command may have
abbrev pub Fits : Script → Type 0
Fits script = All FitsCommand script.set_up.items × All (λ t. All FitsCommand t.steps.items) script.tests.items

abbrev pub passed_of : List Bool → ℕ
passed_of results = count_by (λ p. p) results

abbrev pub failed_of : List Bool → ℕ
failed_of results = count_by not results

-- how many tests passed and failed
abbrev pub summary : List Bool → Text
summary results = ((decimal (passed_of results) ++ codes " passed, ") ++ decimal (failed_of results)) ++ codes " failed\n"

-- The tests of a script ran, each is told of, then how many passed; the status is 0 where some did and none failed.
pub record TellsScript (by : Setting) (script : Script) (status : ℕ) (told : Text) : Type 0 where
  pub results : List Bool
  pub lines : Text
  pub tests : TellsTests by script.set_up.items script.tests.items results lines
  pub whole : told ≡ lines ++ summary results
  pub fine : (status ≡ 0) ↔ ((0 < passed_of results) × (failed_of results ≡ 0))
