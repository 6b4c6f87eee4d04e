-- What stands at the start of a text.
use Rattle.std.specs.Prelude.{◌≡◌, ℕ, ◌<◌, List, [], ◌∷◌, length, Option, Some, None}
use Rattle.std.specs.Str.{chars}
use Rattle.cedar_tokens.specs.Rest.{IsRest}
use Rattle.cedar_schema_grammar.specs.Tokens.{Token, token_read}

-- the longest token in front, if there is one
abbrev pub front_read : List ℕ → Option (Token × List ℕ)
front_read [] = None
front_read (c ∷ cs) = token_read c cs

-- the token is the longest at the start of the text, and then the rest follows
pub record ReadsToken (text : List ℕ) (t : Token) (rest : List ℕ) : Type 0 where
  pub token : front_read (chars text) ≡ Some (t, chars rest)
  pub cut : IsRest text rest
  pub shorter : length rest < length text
