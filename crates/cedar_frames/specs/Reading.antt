-- What reads of a watched reader took.
use Rattle.std.specs.Prelude.{◌≡◌, ◌≢◌, ℕ, List, [], Option, MatchOption}
use Rattle.std.specs.Io.KnownBytes.{Consumes, IsAtEnd}
use Rattle.cedar_frames.specs.declared.fault.Fault.TheVariants.{Truncated, TooMany}
use Rattle.cedar_frames.specs.declared.frame.Next.{Next}
use Rattle.cedar_frames.specs.declared.frame.Next.TheVariants.{End, Fault as Faulty, Frame}
use Rattle.cedar_frames.specs.declared.watched.Watched.{Watched}
use Rattle.cedar_frames.specs.Frames.{IsFault, IsFrame}
use Rattle.cedar_frames.specs.Watching.{watched_inner}

-- From the one state of a reader to the other these bytes were read, where it is known what it gives.
abbrev pub Reads : {D : Type 0} → (D → Option (List ℕ)) → Watched D → Watched D → List ℕ → Type 0
Reads remaining old new taken = Consumes (remaining (watched_inner old)) (remaining (watched_inner new)) taken

-- Nothing is left to read, where it is known what the reader gives.
abbrev pub IsReadOut : {D : Type 0} → (D → Option (List ℕ)) → Watched D → Type 0
IsReadOut remaining reader = IsAtEnd (remaining (watched_inner reader))

-- These bytes were read where a frame should stand, this is what they are, and the reader is left so. A body that isn't kept
-- isn't empty.
abbrev pub ReadsNext : {D : Type 0} → (D → Option (List ℕ)) → Next → List ℕ → Watched D → Type 0
ReadsNext remaining End taken reader = (taken ≡ []) × IsReadOut remaining reader
ReadsNext remaining (Faulty fault) taken reader = IsFault fault taken × (fault ≡ Truncated → IsReadOut remaining reader) × (fault ≢ TooMany)
ReadsNext remaining (Frame verb body) taken reader = (bytes : List ℕ) × IsFrame taken verb bytes × MatchOption body (bytes ≢ []) (λ held. held.items ≡ bytes)
