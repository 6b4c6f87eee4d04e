-- A mark at the start of a text.
use Rattle.std.specs.Prelude.{◌≡◌, ◌≢◌, ℕ, ◌<◌, List, ◌∷◌, ◌++◌, length, Some}
use Rattle.std.specs.Str.{chars}
use Rattle.cedar_grammar.specs.Token.{Mark, mark, mark_spelled}
use Rattle.cedar_grammar.specs.Tokens.{slash, all_marks, mark_among}
use Rattle.cedar_tokens.specs.Rest.{IsRest}

-- no comment stands at the start
abbrev pub StartsNoComment : List ℕ → Type 0
StartsNoComment cs = (ds : List ℕ) → cs ≢ slash ∷ slash ∷ ds

-- no mark of so many characters stands at the start
abbrev pub StartsWithNone : ℕ → List ℕ → Type 0
StartsWithNone n cs = (m : Mark) (ds : List ℕ) → length (mark_spelled m) ≡ n → cs ≢ mark_spelled m ++ ds

-- the text is this mark, of so many characters, and then the rest
pub record StartsWithMark (n : ℕ) (text : List ℕ) (m : Mark) (rest : List ℕ) : Type 0 where
  pub width : length (mark_spelled m) ≡ n
  pub characters : chars text ≡ mark_spelled m ++ chars rest
  pub cut : IsRest text rest
  pub shorter : length rest < length text

-- the mark is the longest at the start of the text, and then the rest follows
pub record ReadsMark (text : List ℕ) (m : Mark) (rest : List ℕ) : Type 0 where
  pub token : mark_among all_marks (chars text) ≡ Some (mark m, chars rest)
  pub cut : IsRest text rest
  pub shorter : length rest < length text
