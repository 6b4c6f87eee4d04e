-- The characters of words: of identifiers, and of the words that the grammar names.
use Rattle.std.specs.Prelude.{ℕ, ◌==◌, ◌||◌, Bool}
use Rattle.std.specs.Char.{is_ascii_alphabetic, is_ascii_alphanumeric}

-- a letter or `_`
abbrev pub begins_word : ℕ → Bool
begins_word c = is_ascii_alphabetic c || c == 95

-- a letter, a digit or `_`
abbrev pub is_in_word : ℕ → Bool
is_in_word c = is_ascii_alphanumeric c || c == 95
