-- Numbers that stand for keys.
use Rattle.std.specs.Prelude.{Bool, false, ℕ, List, ◌++◌, length, ◌≡◌, ◌<◌, Some}
use Rattle.std.specs.Global.{Vec}
use Rattle.std.specs.List.{slice_get, list_any}
use Rattle.std.specs.Option.{option_map_or}
use Rattle.std.specs.Set.{is_member}
use Rattle.cedar_closure.specs.Numbers.{numbers_at, AreWithin}

module _ {K : Type 0} (eq : K → K → Bool) (keys : List K) where
  -- the number stands for the key
  abbrev pub stands_for : K → ℕ → Bool
  stands_for q i = option_map_or (eq q) (slice_get keys i) false

  -- one of the numbers stands for the key
  abbrev pub is_numbered : List ℕ → K → Bool
  is_numbered numbers q = list_any (stands_for q) numbers

  -- the numbers stand for just these keys
  abbrev pub AreNumbersOf : List ℕ → List K → Type 0
  AreNumbersOf numbers xs = (q : K) → is_numbered numbers q ≡ is_member eq xs q

  -- the edges from each number that has some lead to the numbers of the keys that follow its key
  abbrev pub AreEdgesOf : (K → List K) → List (Vec ℕ) → Type 0
  AreEdgesOf next edges = (i : ℕ) (x : K) → i < length edges → slice_get keys i ≡ Some x → AreNumbersOf (numbers_at edges i) (next x)

-- the first numbers stand for the first keys, and the edges are those of the keys
pub record IsNumbering {K : Type 0} (eq : K → K → Bool) (next : K → List K) (first keys : List K) (edges : List (Vec ℕ)) : Type 0 where
  pub more : List K
  pub cut : keys ≡ first ++ more
  pub lengths : length edges ≡ length keys
  pub within : AreWithin edges
  pub follows : AreEdgesOf eq keys next edges
