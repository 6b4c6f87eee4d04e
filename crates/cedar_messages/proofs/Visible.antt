-- What is no control character is written by bytes that are none.
use Rattle.std.proofs.Common.{◌≡◌, ℕ, suc, ◌+◌, ◌≤◌, ◌<◌, false, cond, [], ◌∷◌, length, get_or, inl, inr, refl, sym, ap, arith, append-nil}
use Rattle.std.proofs.lemmas.Bool.{cases_lt}
use Rattle.std.proofs.lemmas.Grind.{common_steps}
use Rattle.std.proofs.lemmas.Str.{encode_ascii, inside_one}
use lib.Utf8.{encode}
use Rattle.cedar_language.specs.Uid.{Text}
use Rattle.cedar_messages.specs.Telling.{hides, IsLine}
use Rattle.cedar_messages.proofs.Below.{line_more}

high : (b : ℕ) → 128 ≤ b → hides b ≡ false
high b big = grind (arith, common_steps)

one : (b : ℕ) → hides b ≡ false → IsLine (b ∷ [])
one b shown = ap (λ hidden. 0 + cond hidden 1 0) shown

all_high : (xs : Text) → ((k : ℕ) → k < length xs → 128 ≤ get_or xs k 0) → IsLine xs
all_high [] h = refl
all_high (x ∷ xs) h = line_more (x ∷ []) xs (one x (high x (h 0 (omega arith)))) (all_high xs (λ k below. h (suc k) (omega arith)))

pub visible : (c : ℕ) → hides c ≡ false → IsLine (encode c)
visible c shown = elim (cases_lt c 128) [
  | inl small ↦ rw (encode_ascii c small) (one c shown)
  | inr big ↦
      all_high (encode c) (λ k below. elim (cases_lt (get_or (encode c) k 0) 128) [
        | inl low ↦ absurd (omega (arith, inside_one c [] (encode c) k (sym (append-nil _)) below low))
        | inr h ↦ h
      ])
]
