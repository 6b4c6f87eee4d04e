-- How a run ends.
use Rattle.std.specs.Prelude.{◌≡◌, ℕ, List, ◌++◌, Option, IfSome}
use Rattle.std.specs.Io.KnownBytes.{Appends}
use Rattle.cedar_frames.specs.declared.fault.Fault.TheVariants.{Truncated}
use Rattle.cedar_frames.specs.declared.watched.Watched.{Watched}
use Rattle.cedar_frames.specs.Watching.{watched_inner}
use Rattle.cedar_frames.specs.Reading.{IsReadOut}
use Rattle.cedar_world.specs.RunText as world
use Rattle.cedar_world.specs.RunText.{Clean as Ended, Faulty, TextCutShort}
use Rattle.cedar_world.specs.Setting.{Setting}
use Rattle.cedar_world.specs.World.{World}
use Rattle.cedar_session.specs.declared.running.End.{End}
use Rattle.cedar_session.specs.declared.running.End.TheVariants.{Clean, Fault}

abbrev pub end_of : End → world.End
end_of Clean = Ended
end_of (Fault fault) = Faulty fault

-- the input is at its end where the run ends by it
abbrev pub EndsInput : {D : Type 0} → (D → Option (List ℕ)) → world.End → Watched D → Type 0
EndsInput remaining Ended reader = IsReadOut remaining reader
EndsInput remaining (Faulty fault) reader = fault ≡ Truncated → IsReadOut remaining reader

-- From the one state of a writer to the other this text was added.
abbrev pub Adds : {D : Type 0} → (D → Option (List ℕ)) → Watched D → Watched D → List ℕ → Type 0
Adds contents old new text = Appends (contents (watched_inner old)) (contents (watched_inner new)) text

-- a beginning of the text was added, all of it perhaps
abbrev pub AddsSome : {D : Type 0} → (D → Option (List ℕ)) → Watched D → Watched D → List ℕ → Type 0
AddsSome contents old new text = (part more : List ℕ) × (text ≡ part ++ more) × Adds contents old new part

-- This is the text of a run whose writer failed. Where the last line was due, the input is at its end if the run was to end by it.
abbrev pub CutsShort : {D : Type 0} → (D → Option (List ℕ)) → Watched D → Setting → List ℕ → World → List ℕ → World → Type 0
CutsShort remaining reader by bytes start text new = (cut : TextCutShort by bytes start text new) × IfSome cut.ending (λ end. EndsInput remaining end reader)
