-- How a text is read from between quotes.
use Rattle.std.specs.Prelude.{◌≡◌, ◌≢◌, ⊤, ℕ, ◌<◌, ◌++◌, length, Result, Ok, Err}
use Rattle.std.specs.Rc.{rc_str_bytes}
use Rattle.std.specs.Str.{IsUtf8}
use Rattle.std.specs.declared.rc.RcStr.{RcStr}
use Rattle.std.specs.declared.alloc.Global.{Global}
use Rattle.cedar_language.specs.Uid.{Text}
use Rattle.cedar_names.specs.declared.errors.ParseNameError.{ParseNameError}
use Rattle.cedar_names.specs.declared.errors.ParseNameError.TheVariants.{NotNormalized, Reserved, Memory}
use Rattle.cedar_literals.specs.Escapes.{escaped_char, escaped}

-- the text that stands so between quotes, where there is one
abbrev pub ReadsEscaped : Text → Result (RcStr Global) ParseNameError → Type 0
ReadsEscaped s (Ok t) = (escaped (rc_str_bytes t) ≡ s) × IsUtf8 (rc_str_bytes t)
ReadsEscaped s (Err NotNormalized) = (t : Text) → escaped t ≢ s
ReadsEscaped s (Err (Reserved e)) = ⊥
ReadsEscaped s (Err (Memory e)) = ⊤

-- the text is a front that isn't empty, and this rest
pub record Follows (text front rest : Text) : Type 0 where
  pub whole : text ≡ front ++ rest
  pub shorter : length rest < length text

-- the text is this character, as it stands between quotes, and this rest
abbrev pub BeginsWith : Text → ℕ → Text → Type 0
BeginsWith text c rest = Follows text (escaped_char c) rest

-- no character stands so between quotes that the text could begin with it
abbrev pub BeginsWithNone : Text → Type 0
BeginsWithNone text = (c : ℕ) (rest : Text) → text ≢ escaped_char c ++ rest
