-- Where a text is cut.
use Rattle.std.specs.Prelude.{◌≡◌, ℕ, ◌-◌, ◌<◌, ◌≤◌, List, ◌∷◌, ◌++◌, length, drop, encode_utf8}
use Rattle.std.specs.Str.{chars, IsUtf8}

-- the text is this character, and then the rest
pub record StartsWith (text : List ℕ) (c : ℕ) (rest : List ℕ) : Type 0 where
  pub bytes : text ≡ encode_utf8 c ++ rest
  pub characters : chars text ≡ c ∷ chars rest
  pub shorter : length rest < length text
  pub utf8 : IsUtf8 rest

-- the rest is the end of the text, cut between two characters
pub record IsRest (text rest : List ℕ) : Type 0 where
  pub short : length rest ≤ length text
  pub bytes : drop (length text - length rest) text ≡ rest
  pub utf8 : IsUtf8 rest
