-- What stands at the start of a text.
use Rattle.std.specs.Prelude.{◌≡◌, ℕ, ◌<◌, List, ◌∷◌, length, Some, true}
use Rattle.std.specs.Str.{chars}
use Rattle.cedar_grammar.specs.Token.{Word, Token, word_of}
use Rattle.cedar_grammar.specs.Tokens.{begins_word, is_in_word, run_of, token_read}
use Rattle.cedar_tokens.specs.Rest.{IsRest}

-- the text is this word, and then the rest
pub record ReadsWord (text : List ℕ) (w : Word) (rest : List ℕ) : Type 0 where
  pub first : ℕ
  pub more : List ℕ
  pub characters : chars text ≡ first ∷ more
  pub begins : begins_word first ≡ true
  pub word : w ≡ word_of (first ∷ (run_of is_in_word more).0)
  pub further : (run_of is_in_word more).1 ≡ chars rest
  pub cut : IsRest text rest
  pub shorter : length rest < length text

-- the token is the longest at the start of the text, and then the rest follows
pub record ReadsToken (text : List ℕ) (t : Token) (rest : List ℕ) : Type 0 where
  pub token : token_read (chars text) ≡ Some (t, chars rest)
  pub cut : IsRest text rest
  pub shorter : length rest < length text
