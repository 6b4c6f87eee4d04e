-- What is put and what is gathered behind it.
use Rattle.std.specs.Prelude.{◌≡◌, ℕ, List, ◌++◌, Option}
use Rattle.cedar_frames.specs.declared.watched.Watched.{Watched}
use Rattle.cedar_frames.specs.Writing.{Writes}

-- from the one state of a writer to the other a beginning of the text was put, and the rest of it is gathered
abbrev pub WritesAll : {D : Type 0} → (D → Option (List ℕ)) → Watched D → Watched D → List ℕ → List ℕ → Type 0
WritesAll contents old new gathered text = (done : List ℕ) × (text ≡ done ++ gathered) × Writes contents old new done
