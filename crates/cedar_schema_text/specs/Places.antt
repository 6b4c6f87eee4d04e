-- Where a token stands in a text, and what an error says of one.
use Rattle.std.specs.Prelude.{◌≡◌, ℕ, ◌<◌, List, length, drop, Some, None, ⊤}
use Rattle.std.specs.Str.{chars}
use Rattle.cedar_schema_grammar.specs.Tokens.{tokens_of}
use Rattle.cedar_schema_text.specs.Reads.{front_read}
use Rattle.cedar_schema_text.specs.View.{token_of}
use Rattle.cedar_schema_text.specs.declared.tokens.Token.{Token}
use Rattle.cedar_tokens.specs.declared.error.TokenError.{TokenError}
use Rattle.cedar_tokens.specs.declared.error.TokenError.TheVariants as error

-- the text has no tokens, and none stands at the place, which lies in it
pub record IsStuck (text : List ℕ) (place : ℕ) : Type 0 where
  pub inside : place < length text
  pub stuck : front_read (chars (drop place text)) ≡ None
  pub no_tokens : tokens_of (chars text) ≡ None

-- the token is what is read of the text at its place
pub record StandsIn (text : List ℕ) (t : Token) : Type 0 where
  pub inside : t.place < length text
  pub rest : List ℕ
  pub read : front_read (chars (drop t.place text)) ≡ Some (token_of t, rest)

-- of want of memory nothing is said
abbrev pub IsNoTokens : List ℕ → TokenError → Type 0
IsNoTokens text (error.Unexpected place) = IsStuck text place
IsNoTokens text error.Memory = ⊤
