-- What a reader shows of the bytes that it has read ahead.
use Rattle.std.specs.Prelude.{ℕ, ◌≤◌, List, length, Option, IfSome}
use Rattle.std.specs.Io.{StartsWith}
use Rattle.std.specs.Io.KnownBytes.{Keeps}
use Rattle.cedar_frames.specs.declared.watched.Watched.{Watched}
use Rattle.cedar_frames.specs.Watching.{watched_inner}

-- A reader that had this left has that left, which is the same where it is known, begins with these bytes, and any
-- beginning of them may be consumed.
abbrev pub IsShown : Option (List ℕ) → Option (List ℕ) → Option ℕ → List ℕ → Type 0
IsShown old new consumable ahead = Keeps old new × IfSome old (λ left. StartsWith left ahead × IfSome consumable (λ most. length ahead ≤ most))

-- From the one state of a reader to the other nothing was read, and these bytes are what it gives next.
abbrev pub Shows : {D : Type 0} → (D → Option (List ℕ)) → (D → Option ℕ) → Watched D → Watched D → List ℕ → Type 0
Shows remaining consumable old new ahead =
    IsShown (remaining (watched_inner old)) (remaining (watched_inner new)) (consumable (watched_inner new)) ahead
