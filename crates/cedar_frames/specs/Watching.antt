-- What a clause reads of a watched device.
use Rattle.std.specs.Prelude.{ℕ, Bool, true, false, Result, Ok, Err, ◌==◌, not, ◌&&◌}
use Rattle.cedar_frames.specs.declared.watched.Calls.{Calls}
use Rattle.cedar_frames.specs.declared.watched.Calls.TheVariants.{Sound, Failed, Late}
use Rattle.cedar_frames.specs.declared.watched.Watched.{Watched}

-- the device inside
abbrev pub watched_inner : {D : Type 0} → Watched D → D
watched_inner w = w.inner

-- what became of the calls
abbrev pub watched_calls : {D : Type 0} → Watched D → Calls
watched_calls w = w.calls

abbrev pub have_failed : Calls → Bool
have_failed Sound = false
have_failed Failed = true
have_failed Late = true

abbrev pub are_late : Calls → Bool
are_late Sound = false
are_late Failed = false
are_late Late = true

-- whether a call has failed
abbrev pub watched_failed : {D : Type 0} → Watched D → Bool
watched_failed w = have_failed (watched_calls w)

-- whether a call was made behind one that failed
abbrev pub watched_late : {D : Type 0} → Watched D → Bool
watched_late w = are_late (watched_calls w)

-- whether something was written behind the last flush that didn't fail
abbrev pub watched_unsent : {D : Type 0} → Watched D → Bool
watched_unsent w = w.unsent

-- a write fails by an error, and by taking nothing of a slice that isn't empty
abbrev pub write_fails : {E : Type 0} → Result ℕ E → ℕ → Bool
write_fails (Ok count) offered = (count == 0) && not (offered == 0)
write_fails (Err _) offered = true

-- a write takes something
abbrev pub writes_some : {E : Type 0} → Result ℕ E → Bool
writes_some (Ok count) = not (count == 0)
writes_some (Err _) = false
