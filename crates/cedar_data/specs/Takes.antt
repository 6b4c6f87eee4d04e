-- What is read from the start of a text, by the tokens of the text and those of what follows.
use Rattle.std.specs.Prelude.{◌≡◌, ◌<◌, ◌≤◌, List, ◌∷◌, length, Bool, true, false}
use Rattle.std.specs.Str.{IsUtf8}
use Rattle.cedar_language.specs.Uid.{Text}
use Rattle.cedar_grammar.specs.Token.{Token}
use Rattle.cedar_grammar.specs.Tokens.{IsTokens}
use Rattle.cedar_grammar.specs.Grammar.{Rule}

-- whatever tokens the rest is, the text is the same ones
pub record Skips (text rest : Text) : Type 0 where
  pub tokens : (ts : List Token) → IsTokens rest ts → IsTokens text ts
  pub short : length rest ≤ length text
  pub utf8 : IsUtf8 rest

-- whatever tokens the rest is, the text is this token before them
pub record Takes (t : Token) (text rest : Text) : Type 0 where
  pub tokens : (ts : List Token) → IsTokens rest ts → IsTokens text (t ∷ ts)
  pub shorter : length rest < length text
  pub utf8 : IsUtf8 rest

-- the token was taken, where it was next, and else nothing
abbrev pub Ate : Bool → Token → Text → Text → Type 0
Ate true t text rest = Takes t text rest
Ate false t text rest = rest ≡ text

-- whatever tokens the rest is, the text is tokens of which this is read by the rule, up to those of the rest
pub record Reads {A : Type 0} (rule : Rule A) (text : Text) (a : A) (rest : Text) : Type 0 where
  pub tokens : (us : List Token) → IsTokens rest us → (ts : List Token) × IsTokens text ts × rule ts a us
  pub shorter : length rest < length text
