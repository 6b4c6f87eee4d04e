-- Maps from pairs whose keys differ.
use Rattle.std.specs.Prelude.{◌≡◌, ⊤, List, ◌∷◌, ◌++◌, Bool, true, Result, Ok, Err}
use Rattle.std.specs.List.{list_any, IsDistinct}
use Rattle.std.specs.Map.{lookup, keys_of}
use Rattle.std.specs.HashMap.{HashMap, get}
use Rattle.cedar_extensions.specs.declared.collecting.CollectError.{CollectError}
use Rattle.cedar_extensions.specs.declared.collecting.CollectError.TheVariants.{Duplicate, Memory}

-- the key k stands in the list, a key equal to it before it, and up to there no other key twice
pub record IsFirstRepeated {K : Type 0} (eq : K → K → Bool) (ks : List K) (k : K) : Type 0 where
  pub before : List K
  pub after : List K
  pub whole : ks ≡ before ++ k ∷ after
  pub distinct : IsDistinct eq before
  pub repeated : list_any (eq k) before ≡ true

-- each key stands once, and the map has at it what the pairs have; else the first key that stands before it too
abbrev pub Collects : {K V S : Type 0} → (K → K → Bool) → List (K × V) → Result (HashMap K V S) (CollectError K) → Type 0
Collects {K} eq es (Ok m) = IsDistinct eq (keys_of es) × ((q : K) → get eq m q ≡ lookup (eq q) es)
Collects eq es (Err (Duplicate k)) = IsFirstRepeated eq (keys_of es) k
Collects eq es (Err (Memory e)) = ⊤
