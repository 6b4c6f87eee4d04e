-- Texts, and the names by which they are told of.
use Rattle.std.specs.Prelude.{◌⊎◌, ◌<◌, length, None, Some, IsUtf8}
use Rattle.std.specs.Str.Lossy.{utf8_valid_len}
use Rattle.cedar_language.specs.Uid.{Text}
use Rattle.cedar_frames.specs.Heads.{body_limit}
use Rattle.cedar_messages.specs.Places.{position_at}
use Rattle.cedar_messages.specs.Telling.{TellsOf}
use Rattle.cedar_refusals.specs.declared.giving.Source.{Source}

-- a text, and the name by which it is told of
pub record Titled : Type 0 where
  pub name : Text
  pub text : Text

-- Bytes that are no command's text: the first that shows it is told, or that they are too many.
abbrev pub TellsNoText : Titled → Text → Type 0
TellsNoText of told =
    ((IsUtf8 of.text → ⊥) × TellsOf of.name (Some (position_at of.text (utf8_valid_len of.text))) told)
    ⊎ (IsUtf8 of.text × (body_limit < length of.text) × TellsOf of.name None told)

abbrev pub titled_text : Source → Titled
titled_text of = record { name = of.name.now; text = of.text.now }
