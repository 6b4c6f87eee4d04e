-- What a pointer owns that stands for a box, or for nothing.
use Rattle.std.specs.Prelude.{◌≡◌, Option, Some, None}
use base.Fml.{Fml, ftrue, fex}
use denote.RawPtr.{Ptr, null_ptr}

-- nothing at null, and else what the box of a value owns
abbrev pub held_at : {V : Type 0} → (Ptr → V → Fml) → Ptr → Option V → Fml
held_at owns at None = fex (at ≡ null_ptr) (λ _. ftrue)
held_at owns at (Some value) = owns at value
