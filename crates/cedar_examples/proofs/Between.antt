-- `between` has no answer for another number of values.
use Rattle.std.proofs.Common.{◌≡◌, ◌≢◌, List, [], ◌∷◌, length, None, refl}
use Rattle.cedar_language.specs.Value.{Value}
use Rattle.cedar_language.specs.Order.{all_of}
use Rattle.cedar_examples.specs.Between.{between}

pub other_count : (vs : List Value) → length vs ≢ 3 → between (all_of vs) ≡ None
other_count (low ∷ x ∷ high ∷ []) h = absurd (h refl)
other_count vs h = refl
