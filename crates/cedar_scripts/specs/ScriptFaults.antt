-- Why a text is no script: the first line that can't stand where it does.
use Rattle.std.specs.Prelude.{◌≡◌, ℕ, ◌+◌, ◌⊎◌, List, [], ◌∷◌, ◌++◌, length, true, Option, Some, None, IsSome, MatchOption, ⊤}
use Rattle.std.specs.Str.Lines.{lines}
use Rattle.cedar_language.specs.Uid.{Text}
use Rattle.cedar_scripts.specs.declared.fault.ScriptError.{ScriptError}
use Rattle.cedar_scripts.specs.declared.fault.ScriptError.TheVariants.{Fault, Memory}
use Rattle.cedar_scripts.specs.declared.fault.ScriptFault.{ScriptFault}
use Rattle.cedar_scripts.specs.declared.fault.ScriptFault.TheVariants.{UnknownWord, NoCommand, NoName, NoAnswer, SecondAnswer, BehindAnswer, BehindFile, NoFile}
use Rattle.cedar_scripts.specs.ScriptLines.{Said, Nothing, Further, Title, Answer, Command, Says, SaysNone, is_blank}
use Rattle.cedar_scripts.specs.ScriptTexts.{StepText, TestText, ScriptText, AreScript}

-- the last of these, or this one where there is none
abbrev pub last_of : {A : Type 0} → Option A → List A → Option A
last_of before [] = before
last_of before (x ∷ xs) = last_of (Some x) xs

-- the commands of the last test, or those before the first
abbrev pub steps_of_last : List StepText → List TestText → List StepText
steps_of_last steps [] = steps
steps_of_last steps (t ∷ ts) = steps_of_last t.steps ts

-- the last command of a script, if a test or the set-up ends with one
abbrev pub last_step : ScriptText → Option StepText
last_step script = last_of None (steps_of_last script.set_up script.tests)

-- What a line says can't stand behind this command, or where none stands, for this reason.
abbrev pub CannotStand : Option StepText → Said → ScriptFault → Type 0
CannotStand last Nothing fault = ⊥
CannotStand last (Title name) fault = (fault ≡ NoName) × (is_blank name ≡ true)
CannotStand last (Command verb first) fault = (fault ≡ NoFile) × (words : Text) × (first ≡ 60 ∷ words) × (is_blank words ≡ true)
CannotStand None (Further text) fault = fault ≡ NoCommand
CannotStand None (Answer words) fault = fault ≡ NoCommand
CannotStand (Some step) (Further text) fault = MatchOption step.expected ((fault ≡ BehindFile) × IsSome step.file) (λ _. fault ≡ BehindAnswer)
CannotStand (Some step) (Answer words) fault = MatchOption step.expected ((fault ≡ NoAnswer) × (is_blank words ≡ true)) (λ _. fault ≡ SecondAnswer)

-- A line can't stand there: it says nothing that is known, or what can't stand there.
abbrev pub IsFault : Option StepText → Text → ScriptFault → Type 0
IsFault last line fault = ((fault ≡ UnknownWord) × SaysNone line) ⊎ ((said : Said) × Says line said × CannotStand last said fault)

-- The lines before the one with this number are a script, and it can't stand behind them.
pub record IsFirstFault (text : Text) (number : ℕ) (fault : ScriptFault) : Type 0 where
  pub before : List Text
  pub line : Text
  pub after : List Text
  pub are : lines text ≡ before ++ line ∷ after
  pub counted : number ≡ length before + 1
  pub script : ScriptText
  pub reads : AreScript before script
  pub why : IsFault (last_step script) line fault

-- why a text isn't read: its first fault, or want of memory
abbrev pub IsRefusal : Text → ScriptError → Type 0
IsRefusal text (Fault number fault) = IsFirstFault text number fault
IsRefusal text Memory = ⊤

-- ---- one line

-- the refusal of a line that has this number and says this
abbrev pub RefusesSaid : ℕ → Option StepText → Said → ScriptError → Type 0
RefusesSaid number last said (Fault at fault) = (at ≡ number) × CannotStand last said fault
RefusesSaid number last said Memory = ⊤

-- the refusal of the line that has this number
abbrev pub RefusesLine : ℕ → Option StepText → Text → ScriptError → Type 0
RefusesLine number last line (Fault at fault) = (at ≡ number) × IsFault last line fault
RefusesLine number last line Memory = ⊤
