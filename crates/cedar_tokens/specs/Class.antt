-- The characters of a class.
use Rattle.std.specs.Prelude.{ℕ, Bool}
use Rattle.std.specs.Char.{is_ascii_digit}
use Rattle.cedar_grammar.specs.Tokens.{is_in_word, is_in_line}
use Rattle.cedar_tokens.specs.declared.characters.Class.{Class}
use Rattle.cedar_tokens.specs.declared.characters.Class.TheVariants.{Word, Digit, Line}

abbrev pub test_of : Class → ℕ → Bool
test_of Word = is_in_word
test_of Digit = is_ascii_digit
test_of Line = is_in_line
