-- What a status says of the run that it tells.
use Rattle.std.proofs.Common.{◌≡◌, ◌≢◌, ◌≤◌, ◌⊎◌, inl, inr, ℕ, List, true, false, Option, Result, Ok, Err, IfOk, refl, subst, arith}
use Rattle.std.specs.Prelude.{IsErrOf}
use Rattle.cedar_frames.specs.declared.fault.Fault as frames
use Rattle.cedar_frames.specs.declared.watched.Watched.{Watched}
use Rattle.cedar_frames.specs.Reading.{Reads}
use Rattle.cedar_frames.specs.Watching.{watched_failed, watched_unsent}
use Rattle.cedar_world.specs.RunText.{RunText, TextBeforeFailure}
use Rattle.cedar_world.specs.Setting.{Setting}
use Rattle.cedar_world.specs.World.{World, new_world}
use Rattle.cedar_session.specs.declared.running.End.{End}
use Rattle.cedar_session.specs.declared.running.End.TheVariants.{Clean, Fault}
use Rattle.cedar_session.specs.declared.running.RunError.{RunError}
use Rattle.cedar_session.specs.declared.running.RunError.TheVariants.{Read, Write}
use Rattle.cedar_session.specs.Programs.{status_of, Answers, FailsToRead, FailsToWrite}
use Rattle.cedar_session.specs.Running.{end_of, EndsInput, Adds, CutsShort}

pub is_one_of_three : (outcome : Result End RunError) → (status_of outcome ≢ 1) × (status_of outcome ≢ 4) × (status_of outcome ≤ 4)
is_one_of_three (Ok Clean) = (λ h. cc, λ h. cc, omega arith)
is_one_of_three (Ok (Fault fault)) = (λ h. cc, λ h. cc, omega arith)
is_one_of_three (Err error) = (λ h. cc, λ h. cc, omega arith)

pub at_end : (Holds : End → Type 0) (outcome : Result End RunError) → status_of outcome ≡ 0 → IfOk outcome Holds → Holds Clean
at_end Holds (Ok Clean) is h = h
at_end Holds (Ok (Fault fault)) is h = cc
at_end Holds (Err error) is h = cc

pub at_fault : (Holds : End → Type 0) (outcome : Result End RunError) → status_of outcome ≡ 2 → IfOk outcome Holds → (fault : frames.Fault) × Holds (Fault fault)
at_fault Holds (Ok Clean) is h = cc
at_fault Holds (Ok (Fault fault)) is h = (fault, h)
at_fault Holds (Err error) is h = cc

pub at_failure : (Reading Writing : Type 0) (outcome : Result End RunError) → status_of outcome ≡ 3 → (IsErrOf outcome Read → Reading) → (IsErrOf outcome Write → Writing) → Reading ⊎ Writing
at_failure Reading Writing (Ok Clean) is reading writing = cc
at_failure Reading Writing (Ok (Fault fault)) is reading writing = cc
at_failure Reading Writing (Err Read) is reading writing = inl (reading refl)
at_failure Reading Writing (Err Write) is reading writing = inr (writing refl)

-- ---- what the devices then show

module _ {R W : Type 0} (remaining : R → Option (List ℕ)) (contents : W → Option (List ℕ)) (input input' : Watched R) (output output' : Watched W)
    (given by : Setting) (same : given ≡ by) (start : World) (fresh : start ≡ new_world) (new : World) where
  -- what `run` says of a session that is a new one
  abbrev pub Reaches : End → Type 0
  Reaches end =
      (bytes text : List ℕ) × Reads remaining input input' bytes × EndsInput remaining (end_of end) input' × Adds contents output output' text
      × RunText given bytes start text (end_of end) new

  pub answers : (outcome : Result End RunError) → IfOk outcome (λ end. (watched_failed input' ≡ false) × (watched_failed output' ≡ false))
      → IfOk outcome (λ end. watched_unsent output' ≡ false) → IfOk outcome Reaches → IfOk outcome (Answers remaining contents by input input' output output')
  answers (Ok end) sound sent h = record {
    reader_sound = sound.0;
    writer_sound = sound.1;
    ends = h.3;
    sent = sent;
    text = (h.0, h.1, new, h.2, h.4, subst (λ s. RunText s h.0 new_world h.1 (end_of end) new) same (subst (λ w. RunText given h.0 w h.1 (end_of end) new) fresh h.5));
  }
  answers (Err error) sound sent h = tt

  pub fails_to_read : watched_failed input' ≡ true → (watched_unsent output ≡ false → watched_unsent output' ≡ false)
      → (bytes text : List ℕ) × Reads remaining input input' bytes × Adds contents output output' text × TextBeforeFailure given bytes start text new
      → FailsToRead remaining contents by input input' output output'
  fails_to_read failed sent h = record {
    failed = failed;
    sent = sent;
    text = (h.0, h.1, new, h.2, h.3, subst (λ s. TextBeforeFailure s h.0 new_world h.1 new) same (subst (λ w. TextBeforeFailure given h.0 w h.1 new) fresh h.4));
  }

  pub fails_to_write : watched_failed output' ≡ true
      → (bytes text : List ℕ) × Reads remaining input input' bytes × Adds contents output output' text × CutsShort remaining input' given bytes start text new
      → FailsToWrite remaining contents by input input' output output'
  fails_to_write failed h = record {
    failed = failed;
    text = (h.0, h.1, new, h.2, h.3, subst (λ s. CutsShort remaining input' s h.0 new_world h.1 new) same (subst (λ w. CutsShort remaining input' given h.0 w h.1 new) fresh h.4));
  }
