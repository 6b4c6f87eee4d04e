-- What an error says of a text.
use Rattle.std.specs.Prelude.{◌≡◌, ℕ, ◌<◌, List, length, drop, None, ⊤}
use Rattle.std.specs.Str.{chars}
use Rattle.cedar_grammar.specs.Token.{Token}
use Rattle.cedar_grammar.specs.Tokens.{IsTokens, token_read}
use Rattle.cedar_tokens.specs.declared.error.TokenError.{TokenError}
use Rattle.cedar_tokens.specs.declared.error.TokenError.TheVariants as token
use Rattle.cedar_tokens.specs.declared.error.UnescapeError.{UnescapeError}
use Rattle.cedar_tokens.specs.declared.error.UnescapeError.TheVariants as unescape
use Rattle.cedar_grammar.specs.Escape.{parts_of, string_of}

-- the text has no tokens, and none stands at the place, which lies in it
abbrev pub IsStuck : List ℕ → ℕ → Type 0
IsStuck text place = (place < length text) × (token_read (chars (drop place text)) ≡ None) × ((ts : List Token) → ¬ IsTokens text ts)

-- of want of memory nothing is said
abbrev pub Refuses : List ℕ → TokenError → Type 0
Refuses text (token.Unexpected place) = IsStuck text place
Refuses text token.Memory = ⊤

-- the text is refused, and not for want of memory
abbrev pub RefusesText : List ℕ → TokenError → Type 0
RefusesText text (token.Unexpected place) = IsStuck text place
RefusesText text token.Memory = ⊥

-- the raw string stands for no text, and the place lies in it
abbrev pub RefusesString : List ℕ → UnescapeError → Type 0
RefusesString raw (unescape.Invalid place) = (place < length raw) × (string_of (chars raw) ≡ None)
RefusesString raw unescape.Memory = ⊤

-- the raw string has no parts, and the place lies in it
abbrev pub RefusesParts : List ℕ → UnescapeError → Type 0
RefusesParts raw (unescape.Invalid place) = (place < length raw) × (parts_of (chars raw) ≡ None)
RefusesParts raw unescape.Memory = ⊤
