-- How the tokens of a text are spelled, beyond what the grammar's tokens say.
use Rattle.std.specs.Prelude.{◌≡◌, ℕ, ◌&&◌, List, [], ◌∷◌, Bool, true, false, ⊤}
use Rattle.std.specs.List.{list_all}
use Rattle.std.specs.Str.Parse.{IsNumeral}
use Rattle.cedar_grammar.specs.Token as grammar
use Rattle.cedar_grammar.specs.Token.{word_of}
use Rattle.cedar_grammar.specs.Tokens.{begins_word, is_in_word}
use Rattle.cedar_tokens.specs.declared.tokens.Word as word
use Rattle.cedar_tokens.specs.declared.tokens.Word.TheVariants as words
use Rattle.cedar_tokens.specs.declared.tokens.Token as token
use Rattle.cedar_tokens.specs.declared.tokens.TokenKind as kind
use Rattle.cedar_tokens.specs.declared.tokens.TokenKind.TheVariants as kinds

-- an ASCII letter or `_`, then letters, digits and `_`
abbrev pub is_word : List ℕ → Bool
is_word [] = false
is_word (c ∷ cs) = begins_word c && list_all is_in_word cs

-- any word but those that have a case of their own
abbrev pub IsOtherWord : List ℕ → Type 0
IsOtherWord s = (is_word s ≡ true) × (word_of s ≡ grammar.Other s)

abbrev pub IsSpelledWord : word.Word → Type 0
IsSpelledWord (words.Other s) = IsOtherWord s.now
IsSpelledWord w = ⊤

-- a number is one digit or more, and an other word is a word
abbrev pub IsSpelled : kind.TokenKind → Type 0
IsSpelled (kinds.Word w) = IsSpelledWord w
IsSpelled (kinds.Number digits) = IsNumeral 10 digits.now
IsSpelled (kinds.Text raw) = ⊤
IsSpelled (kinds.Slot w) = IsSpelledWord w
IsSpelled (kinds.Mark m) = ⊤

abbrev pub IsSpelledToken : token.Token → Type 0
IsSpelledToken t = IsSpelled t.kind
