-- The bound on the elements of a text.
use Rattle.std.specs.Prelude.{ℕ, ◌-◌, Option, Some, None}

-- how many elements may be printed after one more
abbrev pub one_less : Option ℕ → Option ℕ
one_less None = None
one_less (Some n) = Some (n - 1)
