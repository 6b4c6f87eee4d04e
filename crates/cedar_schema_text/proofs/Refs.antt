-- What is no word and no string is no action.
use Rattle.std.proofs.Common.{◌≡◌, ℕ, suc, false, List, [], ◌∷◌, None, refl, ap}
use Rattle.cedar_schema_grammar.specs.Tokens.{Token, word, text, mark, is_word}
use Rattle.cedar_schema_grammar.specs.Reading.{mapped, or_read, string_read, own_ref, path_at, ref_at}

pub ref_none : (n : ℕ) (ts : List Token) → false ≡ is_word ts → string_read ts ≡ None → ref_at (suc n) ts ≡ None
unfolding ref_at path_at
ref_none n [] w e = refl
ref_none n (word s ∷ ts) w e = absurd (cc w)
ref_none n (text raw ∷ ts) w e = ap (λ r. or_read (mapped own_ref r) None) e
ref_none n (mark m ∷ ts) w e = refl
