-- The tokens of the grammar that tokens of a text are.
use Rattle.std.specs.Str.{chars}
use Rattle.cedar_schema_grammar.specs.Tokens as grammar
use Rattle.cedar_schema_text.specs.declared.tokens.Mark as mark
use Rattle.cedar_schema_text.specs.declared.tokens.Mark.TheVariants as marks
use Rattle.cedar_schema_text.specs.declared.tokens.TokenKind as kind
use Rattle.cedar_schema_text.specs.declared.tokens.TokenKind.TheVariants as kinds
use Rattle.cedar_schema_text.specs.declared.tokens.Token as token

abbrev pub mark_view : mark.Mark → grammar.Mark
mark_view marks.LeftBrace = grammar.LeftBrace
mark_view marks.RightBrace = grammar.RightBrace
mark_view marks.LeftBracket = grammar.LeftBracket
mark_view marks.RightBracket = grammar.RightBracket
mark_view marks.LeftParen = grammar.LeftParen
mark_view marks.RightParen = grammar.RightParen
mark_view marks.LeftAngle = grammar.LeftAngle
mark_view marks.RightAngle = grammar.RightAngle
mark_view marks.Comma = grammar.Comma
mark_view marks.Semicolon = grammar.Semicolon
mark_view marks.Colon = grammar.Colon
mark_view marks.ColonColon = grammar.ColonColon
mark_view marks.Question = grammar.Question
mark_view marks.Equal = grammar.Equal
mark_view marks.At = grammar.At

abbrev pub kind_view : kind.TokenKind → grammar.Token
kind_view (kinds.Word s) = grammar.word s.now
kind_view (kinds.Text raw) = grammar.text (chars raw.now)
kind_view (kinds.Mark m) = grammar.mark (mark_view m)

abbrev pub token_of : token.Token → grammar.Token
token_of t = kind_view t.kind
