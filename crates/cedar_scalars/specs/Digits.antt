-- Digits and signs of texts, and the numbers that digits spell.
use Rattle.std.specs.Prelude.{ℕ, ◌+◌, ◌-◌, ◌*◌, Bool, false, cond, ◌==◌, List, [], ◌∷◌, take, drop, codes}
use Rattle.std.specs.List.{prefix_len}
use Rattle.std.specs.Char.{is_ascii_digit}

-- the number that digits spell after what stands before them
abbrev pub number_after : ℕ → List ℕ → ℕ
number_after before [] = before
number_after before (b ∷ bs) = number_after (before * 10 + (b - 48)) bs

abbrev pub number : List ℕ → ℕ
number digits = number_after 0 digits

-- the digits in front of a text, and what stands behind them
abbrev pub digits_in_front : List ℕ → List ℕ
digits_in_front text = take (prefix_len is_ascii_digit text) text

abbrev pub behind_digits : List ℕ → List ℕ
behind_digits text = drop (prefix_len is_ascii_digit text) text

-- whether a `-` stands in front, and the text without it
abbrev pub has_minus : List ℕ → Bool
has_minus [] = false
has_minus (b ∷ bs) = b == 45

abbrev pub without_minus : List ℕ → List ℕ
without_minus [] = []
without_minus (b ∷ bs) = cond (b == 45) bs (b ∷ bs)

-- the sign in front of a number
abbrev pub sign_text : Bool → List ℕ
sign_text negative = cond negative (codes "-") []
