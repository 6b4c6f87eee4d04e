-- The tokens of a text that are left to read.
use Rattle.std.specs.Prelude.{◌≡◌, ℕ, List, [], ◌∷◌, Option, Some, None, IsSome, MatchOption}
use Rattle.std.specs.Str.{chars}
use Rattle.cedar_grammar.specs.Token as grammar
use Rattle.cedar_grammar.specs.Tokens.{tokens_of}
use Rattle.cedar_tokens.specs.declared.tokens.Token.{Token}
use Rattle.cedar_tokens.specs.Rest.{IsRest}
use Rattle.cedar_tokens.specs.View.{token_of}
use Rattle.cedar_tokens.specs.Places.{StandsIn}
use Rattle.cedar_tokens.specs.Spelling.{IsSpelledToken}

abbrev pub without_first : List grammar.Token → List grammar.Token
without_first [] = []
without_first (t ∷ ts) = ts

-- no tokens where characters are none
abbrev pub listed : Option (List grammar.Token) → List grammar.Token
listed None = []
listed (Some ts) = ts

abbrev pub all_tokens : List ℕ → List grammar.Token
all_tokens cs = listed (tokens_of cs)

-- the next token, and then those of the characters that follow it
abbrev pub next_and_others : Option Token → List ℕ → List grammar.Token
next_and_others None cs = []
next_and_others (Some t) cs = token_of t ∷ all_tokens cs

-- a text, and those of its tokens that are left to read
pub record Unread : Type 0 where
  pub text : List ℕ
  pub left : List grammar.Token

abbrev pub behind_first : Unread → Unread
behind_first u = record u { left = without_first u.left }

-- what follows the next token in the text is tokens; none is next where the text ends
pub record IsReadable (text : List ℕ) (next : Option Token) (rest : List ℕ) : Type 0 where
  pub cut : IsRest text rest
  pub tokens : IsSome (tokens_of (chars rest))
  pub first : MatchOption next (chars rest ≡ []) (λ t. StandsIn text t × IsSpelledToken t)
