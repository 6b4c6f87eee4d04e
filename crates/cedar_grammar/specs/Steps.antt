-- Single steps of reading: what stands in front of tokens, and what follows it, or nothing.
use Rattle.std.specs.Prelude.{ℕ, suc, ◌==◌, List, [], ◌∷◌, Option, Some, None, Bool, true, false, cond}
use Rattle.cedar_grammar.specs.Token as token
use Rattle.cedar_grammar.specs.Token.{Word, Mark, LeftParen, RightParen, LeftBracket, RightBracket, LeftBrace, RightBrace, Comma, Semicolon, Colon, ColonColon, Dot, At, AndAnd, OrOr, EqualEqual, NotEqual, Less, LessEqual, Greater, GreaterEqual, Plus, Minus, Star, Bang, Slash, Percent, Equal, Token, word, text, mark}

infixl 10 ◌>>=◌
abbrev pub ◌>>=◌ : {A B : Type 0} → Option A → (A → Option B) → Option B
None >>= f = None
(Some x) >>= f = f x

-- ---- marks

abbrev pub mark_number : Mark → ℕ
mark_number LeftParen = 0
mark_number RightParen = 1
mark_number LeftBracket = 2
mark_number RightBracket = 3
mark_number LeftBrace = 4
mark_number RightBrace = 5
mark_number Comma = 6
mark_number Semicolon = 7
mark_number Colon = 8
mark_number ColonColon = 9
mark_number Dot = 10
mark_number At = 11
mark_number AndAnd = 12
mark_number OrOr = 13
mark_number EqualEqual = 14
mark_number NotEqual = 15
mark_number Less = 16
mark_number LessEqual = 17
mark_number Greater = 18
mark_number GreaterEqual = 19
mark_number Plus = 20
mark_number Minus = 21
mark_number Star = 22
mark_number Bang = 23
mark_number Slash = 24
mark_number Percent = 25
mark_number Equal = 26

abbrev pub is_mark : Mark → Token → Bool
is_mark m (mark n) = mark_number n == mark_number m
is_mark m t = false

-- what follows this mark
abbrev pub eat : Mark → List Token → Option (List Token)
eat m [] = None
eat m (t ∷ ts) = cond (is_mark m t) (Some ts) None

-- ---- words and texts

abbrev pub eat_in : List Token → Option (List Token)
eat_in (word token.In ∷ ts) = Some ts
eat_in ts = None

abbrev pub eat_then : List Token → Option (List Token)
eat_then (word token.Then ∷ ts) = Some ts
eat_then ts = None

abbrev pub eat_else : List Token → Option (List Token)
eat_else (word token.Else ∷ ts) = Some ts
eat_else ts = None

abbrev pub word_read : List Token → Option (Word × List Token)
word_read (word w ∷ ts) = Some (w, ts)
word_read ts = None

abbrev pub text_read : List Token → Option (List ℕ × List Token)
text_read (text raw ∷ ts) = Some (raw, ts)
text_read ts = None

abbrev pub begins_annotation : List Token → Bool
begins_annotation (mark At ∷ ts) = true
begins_annotation ts = false

abbrev pub is_more : List Token → Bool
is_more [] = false
is_more (t ∷ ts) = true

-- ---- signs

-- how many of this mark stand in front, and what follows them
unfoldable pub signs_of : Mark → List Token → ℕ × List Token
signs_of m [] = (0, [])
signs_of m (t ∷ ts) = elim (is_mark m t) as (λ _. ℕ × List Token) [ true ↦ let more = signs_of m ts in (suc more.0, more.1) | false ↦ (0, t ∷ ts) ]
