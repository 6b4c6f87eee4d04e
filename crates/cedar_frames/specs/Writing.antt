-- What putting a text does to a watched writer.
use Rattle.std.specs.Prelude.{◌≡◌, ℕ, ◌<◌, ◌++◌, List, length, Option}
use Rattle.std.specs.Io.KnownBytes.{Keeps, Appends}
use Rattle.cedar_frames.specs.declared.watched.Calls.{Calls}
use Rattle.cedar_frames.specs.declared.watched.Calls.TheVariants.{Sound, Failed, Late}
use Rattle.cedar_frames.specs.declared.watched.Watched.{Watched}
use Rattle.cedar_frames.specs.Watching.{watched_inner, watched_calls}

-- From a writer whose calls were these, and which held this, to one whose calls are those, and which holds that: the text
-- stands at the end of what was held. Where the writer failed on the way, a beginning of the text does, and where it had
-- failed before, nothing was written. No call was made behind a failure.
abbrev pub Puts : Calls → Option (List ℕ) → Calls → Option (List ℕ) → List ℕ → Type 0
Puts Sound held Sound holds text = Appends held holds text
Puts Sound held Failed holds text = (part more : List ℕ) × (text ≡ part ++ more) × (0 < length more) × Appends held holds part
Puts Failed held Failed holds text = Keeps held holds
Puts Late held Late holds text = Keeps held holds
Puts before held after holds text = ⊥

-- This text was put, from the one state of a writer to the other.
abbrev pub Writes : {D : Type 0} → (D → Option (List ℕ)) → Watched D → Watched D → List ℕ → Type 0
Writes contents old new text = Puts (watched_calls old) (contents (watched_inner old)) (watched_calls new) (contents (watched_inner new)) text
