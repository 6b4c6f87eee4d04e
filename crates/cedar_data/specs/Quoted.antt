-- What stands between quotes.
use Rattle.std.specs.Prelude.{◌≡◌, ◌<◌, ℕ, suc, length, take, drop, slice_index}
use Rattle.std.specs.Str.{chars}
use Rattle.cedar_language.specs.Uid.{Text}
use Rattle.cedar_grammar.specs.Tokens.{Inside, quote}

-- so many bytes of what follows a quote stand before the one that closes the string
pub record IsInside (n : ℕ) (text : Text) : Type 0 where
  pub closes : slice_index text n ≡ quote
  pub within : n < length text
  pub inside : Inside (chars text) (chars (take n text)) (chars (drop (suc n) text))
