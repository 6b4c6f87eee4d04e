-- What the program's exit status says.
use Rattle.std.specs.Prelude.{◌≡◌, ℕ, List, true, false, Option, Result, Ok, Err}
use Rattle.cedar_frames.specs.declared.watched.Watched.{Watched}
use Rattle.cedar_frames.specs.Watching.{watched_failed, watched_unsent}
use Rattle.cedar_frames.specs.Reading.{Reads}
use Rattle.cedar_extensions.specs.Answering.{no_answers}
use Rattle.cedar_extensions.specs.Lookups.{IsUnknownAlone}
use Rattle.cedar_extensions.specs.Tables.{functions_in}
use Rattle.cedar_extensions.specs.declared.extensions.Extensions.{Extensions}
use Rattle.cedar_extensions.specs.declared.objects.NoFunction.{NoFunction}
use Rattle.cedar_session.specs.Settings.{setting_with}
use Rattle.cedar_world.specs.RunText.{RunText, TextBeforeFailure}
use Rattle.cedar_world.specs.Setting.{Setting}
use Rattle.cedar_world.specs.World.{World, new_world}
use Rattle.cedar_session.specs.Running.{end_of, EndsInput, Adds, CutsShort}
use Rattle.cedar_session.specs.declared.running.End.{End}
use Rattle.cedar_session.specs.declared.running.End.TheVariants.{Clean, Fault}
use Rattle.cedar_session.specs.declared.running.RunError.{RunError}

-- the program's limit of depth
abbrev pub program_depth : ℕ
program_depth = 256

-- the functions of a table that has none of a caller's, with a limit of depth
abbrev pub setting_within : ℕ → Extensions NoFunction → Setting
setting_within depth table = setting_with (λ function. no_answers) table depth

-- every extension there is, that of the built-in `unknown`, with this limit
abbrev pub KnowsAllWithin : ℕ → Setting → Type 0
KnowsAllWithin depth by = (table : Extensions NoFunction) × IsUnknownAlone (functions_in table) × (by ≡ setting_within depth table)

abbrev pub IsProgramSetting : Setting → Type 0
IsProgramSetting = KnowsAllWithin program_depth

-- how a run that ended so is told
abbrev pub status_of : Result End RunError → ℕ
status_of (Ok Clean) = 0
status_of (Ok (Fault fault)) = 2
status_of (Err error) = 3

-- Of a reader and a writer, from their states before to those behind.
module _ {R W : Type 0} (remaining : R → Option (List ℕ)) (contents : W → Option (List ℕ)) (by : Setting) (input input' : Watched R) (output output' : Watched W) where
  -- these bytes were read and this text was written, of which this holds with a world that the session left
  abbrev pub Exchanges : (List ℕ → List ℕ → World → Type 0) → Type 0
  Exchanges Holds = (bytes text : List ℕ) × (new : World) × Reads remaining input input' bytes × Adds contents output output' text × Holds bytes text new

  -- a new session answered the input, which ended so, neither device failed, and what was written is out
  pub record Answers (end : End) : Type 0 where
    pub reader_sound : watched_failed input' ≡ false
    pub writer_sound : watched_failed output' ≡ false
    pub ends : EndsInput remaining (end_of end) input'
    pub sent : watched_unsent output' ≡ false
    pub text : Exchanges (λ bytes text new. RunText by bytes new_world text (end_of end) new)

  -- a new session answered the whole frames that came before the reader failed, and the answers are out
  pub record FailsToRead : Type 0 where
    pub failed : watched_failed input' ≡ true
    pub sent : watched_unsent output ≡ false → watched_unsent output' ≡ false
    pub text : Exchanges (λ bytes text new. TextBeforeFailure by bytes new_world text new)

  -- a new session answered the input until the writer failed
  pub record FailsToWrite : Type 0 where
    pub failed : watched_failed output' ≡ true
    pub text : Exchanges (λ bytes text new. CutsShort remaining input' by bytes new_world text new)
