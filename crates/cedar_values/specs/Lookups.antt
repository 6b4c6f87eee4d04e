-- How members of a set are looked up.
use Rattle.std.specs.Prelude.{◌≡◌, ℕ, ◌+◌, List, [], ◌∷◌, true, false}
use Rattle.std.specs.Hash.{HashWrites}
use Rattle.std.specs.Hash.FoldHasher as folding
use Rattle.std.specs.Int.{w64, cast_unsigned}
use Rattle.std.specs.List.{fold}
use Rattle.std.specs.List.Sorted.{IsPermutation, IsSortedByKey}
use Rattle.std.specs.Ordering.{nat_cmp}
use Rattle.cedar_language.specs.Tree.{Long}
use Rattle.cedar_language.specs.Value.{Value, Plain}
use Rattle.cedar_values.specs.Hashes.{value_hash}
use Rattle.cedar_values.specs.LiteralSets.{are_literals}
use Rattle.cedar_values.specs.declared.values.lookups.HashedPlace.{HashedPlace}
use Rattle.cedar_values.specs.declared.values.lookups.Lookup.{Lookup}
use Rattle.cedar_values.specs.declared.values.lookups.Lookup.TheVariants.{Values, FewLiterals, HashedLiterals}

-- the hash of what is fed
abbrev pub digest_of : HashWrites → ℕ
digest_of ws = folding.finish (fold folding.write folding.initial ws)

-- the hash by which a member is looked up: a long's are its bits
abbrev pub hash_of : Value → ℕ
hash_of (Plain (Long n)) = cast_unsigned w64 n
hash_of v = digest_of (value_hash v)

-- the places of these values, the first at i
abbrev pub places_from : ℕ → List Value → List HashedPlace
places_from i [] = []
places_from i (v ∷ vs) = record { hash = hash_of v; position = i } ∷ places_from (i + 1) vs

-- the places of the members, in rising order of their hashes
pub record PlacesMembers (ps : List HashedPlace) (vs : List Value) : Type 0 where
  pub each : IsPermutation (places_from 0 vs) ps
  pub rising : IsSortedByKey (λ (p : HashedPlace). p.hash) nat_cmp ps

-- the members are literals unless they are looked up as values, and hashes are those of the members
abbrev pub FitsMembers : Lookup → List Value → Type 0
FitsMembers Values vs = are_literals vs ≡ false
FitsMembers FewLiterals vs = are_literals vs ≡ true
FitsMembers (HashedLiterals ps) vs = (are_literals vs ≡ true) × PlacesMembers ps.items vs
