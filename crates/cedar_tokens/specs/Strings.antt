-- The inside of a string at the start of a text.
use Rattle.std.specs.Prelude.{◌≡◌, ℕ, List, Some}
use Rattle.std.specs.Str.{chars}
use Rattle.cedar_grammar.specs.Tokens.{inside_of}
use Rattle.cedar_tokens.specs.Rest.{IsRest}

-- the text is the inside of a string, its quote, and then the rest
pub record ReadsInside (text raw rest : List ℕ) : Type 0 where
  pub inside : inside_of (chars text) ≡ Some (chars raw, chars rest)
  pub cut : IsRest text rest
