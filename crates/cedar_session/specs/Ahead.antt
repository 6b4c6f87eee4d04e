-- Frames that are answered from the middle of a run on.
use Rattle.std.specs.Prelude.{◌≡◌, ℕ, ◌<◌, ◌≤◌, List, ◌++◌, Option, None, true, false}
use Rattle.cedar_frames.specs.declared.watched.Watched.{Watched}
use Rattle.cedar_frames.specs.Watching.{watched_failed, watched_unsent}
use Rattle.cedar_frames.specs.Frames.{IsPartial}
use Rattle.cedar_frames.specs.Reading.{Reads}
use Rattle.cedar_world.specs.RunText.{most_frames, Ran, Ends, TextCutShort}
use Rattle.cedar_world.specs.Setting.{Setting}
use Rattle.cedar_world.specs.World.{World}
use Rattle.cedar_session.specs.Running.{end_of, EndsInput, Adds}
use Rattle.cedar_session.specs.declared.running.End.{End}
use Rattle.cedar_session.specs.declared.buffered.Turn.{Turn}
use Rattle.cedar_session.specs.declared.buffered.Turn.TheVariants.{Answered, Ended}

module _ (by : Setting) (before : ℕ) (mid : World) where
  -- Behind so many frames of any run that came to this world these bytes are frames too, this text is their lines, and then so
  -- many are answered.
  abbrev pub RunsOn : List ℕ → List ℕ → ℕ → World → Type 0
  RunsOn bytes text after new =
      (start : World) (frames said : List ℕ) → Ran by start before frames said mid → Ran by start after (frames ++ bytes) (said ++ text) new

  -- The same, but of the last line a beginning was written, all of it perhaps.
  abbrev pub CutsOn : List ℕ → List ℕ → World → Type 0
  CutsOn bytes text new =
      (start : World) (frames said : List ℕ) → Ran by start before frames said mid
      → (cut : TextCutShort by (frames ++ bytes) start (said ++ text) new) × (cut.ending ≡ None)

-- Of a reader and a writer, from their states before to those behind, and of a session from its world before to that behind.
module _ {R W : Type 0} (remaining : R → Option (List ℕ)) (contents : W → Option (List ℕ)) (by : Setting) (before : ℕ)
    (reader reader' : Watched R) (writer writer' : Watched W) (old new : World) where
  -- some frames were answered, and what was written is out
  pub record AnswersSome (after : ℕ) : Type 0 where
    pub some : before < after
    pub countable : after ≤ most_frames
    pub sent : watched_unsent writer' ≡ false
    pub bytes : List ℕ
    pub text : List ℕ
    pub read : Reads remaining reader reader' bytes
    pub wrote : Adds contents writer writer' text
    pub ran : RunsOn by before old bytes text after new

  -- nothing was answered, since the run is to end so
  pub record EndsHere (end : End) : Type 0 where
    pub tail : List ℕ
    pub read : Reads remaining reader reader' tail
    pub ends : Ends before (end_of end) tail
    pub input : EndsInput remaining (end_of end) reader'
    pub unwritten : writer' ≡ writer
    pub unchanged : new ≡ old

  -- frames were answered, or the run is to end
  abbrev pub TurnsTo : Turn → Type 0
  TurnsTo (Answered after) = AnswersSome after
  TurnsTo (Ended end) = EndsHere end

  -- nothing was answered, since the reader failed, and no whole frame was lost
  pub record FailsToReadOn : Type 0 where
    pub failed : watched_failed reader' ≡ true
    pub tail : List ℕ
    pub read : Reads remaining reader reader' tail
    pub partial : IsPartial tail
    pub unwritten : writer' ≡ writer
    pub unchanged : new ≡ old

  -- frames were answered until the writer failed
  pub record FailsToWriteOn : Type 0 where
    pub failed : watched_failed writer' ≡ true
    pub bytes : List ℕ
    pub text : List ℕ
    pub read : Reads remaining reader reader' bytes
    pub wrote : Adds contents writer writer' text
    pub cut : CutsOn by before old bytes text new
