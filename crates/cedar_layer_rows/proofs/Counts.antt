-- The functions have no answer for another number of values than one.
use Rattle.std.proofs.Common.{◌≡◌, ◌≢◌, List, [], ◌∷◌, length, None, refl}
use Rattle.cedar_language.specs.Value.{Value}
use Rattle.cedar_language.specs.Order.{all_of}
use Rattle.cedar_layer_rows.specs.Ranks.{rank_answer, up_answer}

pub rank_answer_none : (vs : List Value) → length vs ≢ 1 → rank_answer (all_of vs) ≡ None
rank_answer_none [] others = refl
rank_answer_none (v ∷ []) others = absurd (others refl)
rank_answer_none (v ∷ w ∷ vs) others = refl

pub up_answer_none : (vs : List Value) → length vs ≢ 1 → up_answer (all_of vs) ≡ None
up_answer_none [] others = refl
up_answer_none (v ∷ []) others = absurd (others refl)
up_answer_none (v ∷ w ∷ vs) others = refl
