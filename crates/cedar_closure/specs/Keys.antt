-- Keys that are found by what they write to a hasher.
use Rattle.std.specs.Prelude.{Bool, ℕ, List, [], length, fold, IsTrue, ◌≡◌, ◌<◌, ◌*◌, ◌+◌, nat_eq, Some}
use Rattle.std.specs.Global.{Vec}
use Rattle.std.specs.List.{IsDistinct, slice_get}
use Rattle.std.specs.Option.{option_map_or}
use Rattle.std.specs.Ordering.{nat_cmp}
use Rattle.std.specs.BTreeMap.{BTreeMap, get}
use Rattle.std.specs.Set.{is_member}
use Rattle.std.specs.Hash.DefaultHasher as sip
use Rattle.std.specs.Hash as fed

-- the hash of what is written, behind a number
unfoldable pub salted : ℕ → List (List ℕ) → ℕ
salted salt written = sip.finish (fold sip.write (fold sip.write sip.initial (fed.u64 salt)) written)

-- two hashes of what is written as one number
unfoldable pub digest : List (List ℕ) → ℕ
digest written = salted 1 written * 18446744073709551616 + salted 2 written

-- the numbers that are held at a digest
abbrev pub numbers_of : BTreeMap ℕ (Vec ℕ) → ℕ → List ℕ
numbers_of numbers d = option_map_or (λ held. held.items) (get nat_cmp numbers d) []

-- no key stands there twice, and the number of each is held at its digest
pub record IsFound {K : Type 0} (eq : K → K → Bool) (digest_at : K → ℕ) (keys : List K) (numbers : BTreeMap ℕ (Vec ℕ)) : Type 0 where
  pub distinct : IsDistinct eq keys
  pub below : (d i : ℕ) → IsTrue (is_member nat_eq (numbers_of numbers d) i) → i < length keys
  pub held : (i : ℕ) (x : K) → slice_get keys i ≡ Some x → IsTrue (is_member nat_eq (numbers_of numbers (digest_at x)) i)
