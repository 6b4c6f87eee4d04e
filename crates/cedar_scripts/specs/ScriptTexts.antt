-- Scripts: which commands and tests the lines of a text are.
use Rattle.std.specs.Prelude.{◌≡◌, ℕ, ◌+◌, List, [], ◌∷◌, ◌++◌, length, map, replicate, false, Option, Some, None, option_map, string_bytes}
use Rattle.std.specs.List.{flat_map}
use Rattle.std.specs.Str.{trim}
use Rattle.std.specs.Str.Lines.{lines}
use Rattle.cedar_language.specs.Uid.{Text}
use Rattle.cedar_frames.specs.declared.verb.Verb.{Verb}
use Rattle.cedar_scripts.specs.declared.script.Step.{Step}
use Rattle.cedar_scripts.specs.declared.script.Test.{Test}
use Rattle.cedar_scripts.specs.declared.script.Script.{Script}
use Rattle.cedar_scripts.specs.ScriptLines.{Said, Nothing, Further, Title, Answer, Command, SayInTurn, begins_with, is_blank}

-- ---- what is read, by its texts

-- a command: the lines on which it begins and ends, its verb and body, the file of the body, and what must be answered
pub record StepText : Type 0 where
  pub line : ℕ
  pub last_line : ℕ
  pub verb : Verb
  pub body : Text
  pub file : Option Text
  pub expected : Option Text

-- a test: the line on which it begins, its name and its commands
pub record TestText : Type 0 where
  pub line : ℕ
  pub name : Text
  pub steps : List StepText

-- the commands before the first test, and the tests
pub record ScriptText : Type 0 where
  pub set_up : List StepText
  pub tests : List TestText

abbrev pub step_text : Step → StepText
step_text s = record {
  line = s.line;
  last_line = s.last_line;
  verb = s.verb;
  body = string_bytes s.body;
  file = option_map string_bytes s.file;
  expected = option_map string_bytes s.expected;
}

abbrev pub test_text : Test → TestText
test_text t = record { line = t.line; name = string_bytes t.name; steps = map step_text t.steps.items }

abbrev pub script_text : Script → ScriptText
script_text s = record { set_up = map step_text s.set_up.items; tests = map test_text s.tests.items }

-- ---- commands

-- so many lines that say nothing
abbrev pub idle : ℕ → List Said
idle count = replicate count Nothing

-- the further lines of a body, each behind so many that say nothing
abbrev pub further_lines : List (ℕ × Text) → List Said
further_lines further = flat_map (λ p. idle p.0 ++ Further p.1 ∷ []) further

-- what they add to the body: a line feed for each line that says nothing, and one before the line itself
abbrev pub added : List (ℕ × Text) → Text
added further = flat_map (λ p. replicate (p.0 + 1) 10 ++ p.1) further

-- A body is its first words with the further lines, or stands in the file that is named behind `<`.
abbrev pub IsBody : Text → List (ℕ × Text) → Text → Option Text → Type 0
IsBody first further body None = (begins_with 60 first ≡ false) × (body ≡ first ++ added further)
IsBody first further body (Some file) = (words : Text) × (first ≡ 60 ∷ words) × (is_blank words ≡ false) × (file ≡ trim words) × (further ≡ []) × (body ≡ [])

-- The lines behind a body say what must be answered, or nothing.
abbrev pub IsAnswer : List Said → Option Text → Type 0
IsAnswer lines None = (count : ℕ) × (lines ≡ idle count)
IsAnswer lines (Some expected) =
    (before after : ℕ) × (words : Text) × (lines ≡ idle before ++ Answer words ∷ idle after) × (is_blank words ≡ false) × (expected ≡ trim words)

-- The lines, the first of which has this number, are this command.
pub record IsStep (number : ℕ) (lines : List Said) (step : StepText) : Type 0 where
  pub first : Text
  pub further : List (ℕ × Text)
  pub behind : List Said
  pub are : lines ≡ Command step.verb first ∷ (further_lines further ++ behind)
  pub begins : step.line ≡ number
  pub ends : step.last_line ≡ number + length (further_lines further)
  pub body : IsBody first further step.body step.file
  pub answer : IsAnswer behind step.expected

-- ---- tests and scripts

-- The lines, from this number on, are these values one behind the other.
abbrev pub AreInTurn : {A : Type 0} → (ℕ → List Said → A → Type 0) → ℕ → List Said → List A → Type 0
AreInTurn Is number lines [] = lines ≡ []
AreInTurn Is number lines (x ∷ xs) = (own more : List Said) × (lines ≡ own ++ more) × Is number own x × AreInTurn Is (number + length own) more xs

-- commands, behind lines that say nothing
abbrev pub AreSteps : ℕ → List Said → List StepText → Type 0
AreSteps number lines steps = (count : ℕ) × (own : List Said) × (lines ≡ idle count ++ own) × AreInTurn IsStep (number + count) own steps

-- a title, which isn't blank, and commands
pub record IsTest (number : ℕ) (lines : List Said) (test : TestText) : Type 0 where
  pub own : List Said
  pub are : lines ≡ Title test.name ∷ own
  pub begins : test.line ≡ number
  pub named : is_blank test.name ≡ false
  pub steps : AreSteps (number + 1) own test.steps

-- What lines say is this script: commands, and tests.
pub record MakeScript (said : List Said) (script : ScriptText) : Type 0 where
  pub own : List Said
  pub more : List Said
  pub are : said ≡ own ++ more
  pub set_up : AreSteps 1 own script.set_up
  pub tests : AreInTurn IsTest (1 + length own) more script.tests

-- these lines are this script
abbrev pub AreScript : List Text → ScriptText → Type 0
AreScript lines script = (said : List Said) × SayInTurn lines said × MakeScript said script

-- The text is this script.
abbrev pub IsScript : Text → ScriptText → Type 0
IsScript text script = AreScript (lines text) script

-- ---- one line more

-- Lines that are the old commands, with one behind them that has this number and says this, are the new ones.
abbrev pub StepsGoOn : ℕ → Said → List StepText → List StepText → Type 0
StepsGoOn number said old new =
    (start : ℕ) (lines : List Said) → number ≡ start + length lines → AreSteps start lines old → AreSteps start (lines ++ said ∷ []) new

-- Lines that are the old script, with one behind them that has this number and says this, are the new one.
abbrev pub ScriptGoesOn : ℕ → Said → ScriptText → ScriptText → Type 0
ScriptGoesOn number said old new = (lines : List Said) → number ≡ length lines + 1 → MakeScript lines old → MakeScript (lines ++ said ∷ []) new

-- The same of the line itself.
abbrev pub TextGoesOn : ℕ → Text → ScriptText → ScriptText → Type 0
TextGoesOn number line old new = (lines : List Text) → number ≡ length lines + 1 → AreScript lines old → AreScript (lines ++ line ∷ []) new
