-- The tokens of the grammar that tokens of a text are.
use Rattle.std.specs.Str.{chars}
use Rattle.std.specs.Str.Parse.{digits_value}
use Rattle.cedar_grammar.specs.Token as grammar
use Rattle.cedar_tokens.specs.declared.tokens.Word as word
use Rattle.cedar_tokens.specs.declared.tokens.Word.TheVariants as words
use Rattle.cedar_tokens.specs.declared.tokens.Mark as mark
use Rattle.cedar_tokens.specs.declared.tokens.Mark.TheVariants as marks
use Rattle.cedar_tokens.specs.declared.tokens.TokenKind as kind
use Rattle.cedar_tokens.specs.declared.tokens.TokenKind.TheVariants as kinds
use Rattle.cedar_tokens.specs.declared.tokens.Token as token

abbrev pub word_view : word.Word → grammar.Word
word_view words.True = grammar.True
word_view words.False = grammar.False
word_view words.If = grammar.If
word_view words.Then = grammar.Then
word_view words.Else = grammar.Else
word_view words.In = grammar.In
word_view words.Like = grammar.Like
word_view words.Has = grammar.Has
word_view words.Is = grammar.Is
word_view words.Cedar = grammar.Cedar
word_view words.Permit = grammar.Permit
word_view words.Forbid = grammar.Forbid
word_view words.When = grammar.When
word_view words.Unless = grammar.Unless
word_view words.Principal = grammar.Principal
word_view words.Action = grammar.Action
word_view words.Resource = grammar.Resource
word_view words.Context = grammar.Context
word_view (words.Other s) = grammar.Other s.now

abbrev pub mark_view : mark.Mark → grammar.Mark
mark_view marks.LeftParen = grammar.LeftParen
mark_view marks.RightParen = grammar.RightParen
mark_view marks.LeftBracket = grammar.LeftBracket
mark_view marks.RightBracket = grammar.RightBracket
mark_view marks.LeftBrace = grammar.LeftBrace
mark_view marks.RightBrace = grammar.RightBrace
mark_view marks.Comma = grammar.Comma
mark_view marks.Semicolon = grammar.Semicolon
mark_view marks.Colon = grammar.Colon
mark_view marks.ColonColon = grammar.ColonColon
mark_view marks.Dot = grammar.Dot
mark_view marks.At = grammar.At
mark_view marks.AndAnd = grammar.AndAnd
mark_view marks.OrOr = grammar.OrOr
mark_view marks.EqualEqual = grammar.EqualEqual
mark_view marks.NotEqual = grammar.NotEqual
mark_view marks.Less = grammar.Less
mark_view marks.LessEqual = grammar.LessEqual
mark_view marks.Greater = grammar.Greater
mark_view marks.GreaterEqual = grammar.GreaterEqual
mark_view marks.Plus = grammar.Plus
mark_view marks.Minus = grammar.Minus
mark_view marks.Star = grammar.Star
mark_view marks.Bang = grammar.Bang
mark_view marks.Slash = grammar.Slash
mark_view marks.Percent = grammar.Percent
mark_view marks.Equal = grammar.Equal

abbrev pub kind_view : kind.TokenKind → grammar.Token
kind_view (kinds.Word w) = grammar.word (word_view w)
kind_view (kinds.Number digits) = grammar.number (digits_value 10 digits.now)
kind_view (kinds.Text raw) = grammar.text (chars raw.now)
kind_view (kinds.Slot w) = grammar.slot (word_view w)
kind_view (kinds.Mark m) = grammar.mark (mark_view m)

abbrev pub token_of : token.Token → grammar.Token
token_of t = kind_view t.kind
