-- The bytes of a class, and the marks that one byte writes.
use Rattle.std.specs.Prelude.{ℕ, Bool}
use Rattle.std.specs.Char.{is_ascii_digit}
use Rattle.cedar_grammar.specs.Tokens.{is_in_word}
use Rattle.cedar_grammar.specs.Token as grammar
use Rattle.cedar_data.specs.Runs.{is_blank, is_plain}
use Rattle.cedar_data.specs.declared.runs.Class.{Class}
use Rattle.cedar_data.specs.declared.runs.Class.TheVariants.{Blank, Word, Digit, Plain}
use Rattle.cedar_data.specs.declared.texts.Sign.{Sign}
use Rattle.cedar_data.specs.declared.texts.Sign.TheVariants as sign

abbrev pub test_of : Class → ℕ → Bool
test_of Blank = is_blank
test_of Word = is_in_word
test_of Digit = is_ascii_digit
test_of Plain = is_plain

-- the mark of the grammar
abbrev pub mark_of : Sign → grammar.Mark
mark_of sign.LeftParen = grammar.LeftParen
mark_of sign.RightParen = grammar.RightParen
mark_of sign.LeftBracket = grammar.LeftBracket
mark_of sign.RightBracket = grammar.RightBracket
mark_of sign.LeftBrace = grammar.LeftBrace
mark_of sign.RightBrace = grammar.RightBrace
mark_of sign.Comma = grammar.Comma
mark_of sign.Minus = grammar.Minus
