-- Where the tokens of a text stand.
use Rattle.std.specs.Prelude.{◌≡◌, ℕ, ◌-◌, ◌<◌, ◌≤◌, List, [], ◌∷◌, length, drop, Some}
use Rattle.std.specs.Str.{chars}
use Rattle.cedar_grammar.specs.Tokens.{token_read}
use Rattle.cedar_tokens.specs.declared.tokens.Token.{Token}
use Rattle.cedar_tokens.specs.View.{token_of}

-- the token is what is read of the text at its place, and stands there to its end
pub record StandsIn (text : List ℕ) (t : Token) : Type 0 where
  pub long : t.span.start < t.span.end
  pub read : token_read (chars (drop t.span.start text)) ≡ Some (token_of t, chars (drop t.span.end text))

-- the tokens stand in the text one after the other, from one place on and up to another
abbrev pub ArePlaced : List ℕ → ℕ → List Token → ℕ → Type 0
ArePlaced text from [] upto = from ≤ upto
ArePlaced text from (t ∷ ts) upto = (from ≤ t.span.start) × StandsIn text t × ArePlaced text t.span.end ts upto

-- the token stands in the text where the rest of it begins, up to what follows
abbrev pub StandsBetween : List ℕ → List ℕ → Token → List ℕ → Type 0
StandsBetween text rest t after = (t.span.start ≡ length text - length rest) × (t.span.end ≡ length text - length after)
