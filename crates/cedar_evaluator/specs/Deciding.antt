-- The groups of a response that have a policy.
use Rattle.std.specs.Prelude.{Bool, true, false, List, [], ◌∷◌}

abbrev pub has_any : {X : Type 0} → List X → Bool
has_any [] = false
has_any (x ∷ xs) = true
