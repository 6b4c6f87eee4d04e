-- What a run over an input in memory answers.
use Rattle.std.specs.Prelude.{◌≡◌, ℕ, List, [], ◌++◌, length, ◌⊎◌}
use Rattle.cedar_frames.specs.declared.fault.Fault.{Fault}
use Rattle.cedar_frames.specs.declared.fault.Fault.TheVariants.{Truncated}
use Rattle.cedar_world.specs.RunText.{End, Clean, Faulty, RunText}
use Rattle.cedar_world.specs.Setting.{Setting}
use Rattle.cedar_world.specs.World.{World, new_world}
use Rattle.cedar_session.specs.Programs.{KnowsAllWithin, program_depth}

-- ---- within a limit of depth
module _ (depth : ℕ) where
  -- A new session with this limit answers these bytes by this text, and the run ends so.
  abbrev pub AnswersWithin : List ℕ → End → List ℕ → Type 0
  AnswersWithin bytes end text = (by : Setting) × (new : World) × KnowsAllWithin depth by × RunText by bytes new_world text end new

  -- the text answers all of the input, which ends behind a whole frame
  abbrev pub AnswersAllWithin : List ℕ → List ℕ → Type 0
  AnswersAllWithin input text = AnswersWithin input Clean text

  -- The text answers the input up to a fault. Where that is that the input ends inside a frame, no byte is left.
  pub record AnswersToFaultWithin (input text : List ℕ) : Type 0 where
    pub fault : Fault
    pub read : List ℕ
    pub rest : List ℕ
    pub parts : input ≡ read ++ rest
    pub truncated : fault ≡ Truncated → rest ≡ []
    pub answers : AnswersWithin read (Faulty fault) text

  -- a text that answers the input has so many bytes
  abbrev pub AnswersInBytesWithin : List ℕ → ℕ → Type 0
  AnswersInBytesWithin input count = (text : List ℕ) × (AnswersAllWithin input text ⊎ AnswersToFaultWithin input text) × (length text ≡ count)

-- ---- within the program's

abbrev pub AnswersAll : List ℕ → List ℕ → Type 0
AnswersAll = AnswersAllWithin program_depth

abbrev pub AnswersToFault : List ℕ → List ℕ → Type 0
AnswersToFault = AnswersToFaultWithin program_depth

abbrev pub AnswersInBytes : List ℕ → ℕ → Type 0
AnswersInBytes = AnswersInBytesWithin program_depth
