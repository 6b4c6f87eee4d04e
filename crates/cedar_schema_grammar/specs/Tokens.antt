-- The tokens of a schema's text. White space and comments between them, the characters of words, and strings are as in policies.
-- (Cedar language reference, "Schema grammar".)
use Rattle.std.specs.Prelude.{ℕ, zero, suc, ◌==◌, Bool, true, false, cond, List, [], ◌∷◌, length, Option, Some, None}
use Rattle.cedar_language.specs.Uid.{Text}
use Rattle.cedar_language.specs.Words.{begins_word, is_in_word}
use Rattle.cedar_language.specs.Order.{same_text}
use Rattle.cedar_grammar.specs.Tokens.{quote, colon, run_of, after_blank, inside_of}

pub data Mark : Type 0 where
  LeftBrace : Mark
  RightBrace : Mark
  LeftBracket : Mark
  RightBracket : Mark
  LeftParen : Mark
  RightParen : Mark
  LeftAngle : Mark
  RightAngle : Mark
  Comma : Mark
  Semicolon : Mark
  Colon : Mark
  ColonColon : Mark
  Question : Mark
  Equal : Mark
  At : Mark

-- a word, a string by the characters between its quotes, escapes as they are written, or a mark
pub data Token : Type 0 where
  word : Text → Token
  text : List ℕ → Token
  mark : Mark → Token

-- ---- reading them

-- a mark of one character
abbrev pub mark_of : ℕ → Option Mark
mark_of c =
    cond (c == 123) (Some LeftBrace)
    (cond (c == 125) (Some RightBrace)
    (cond (c == 91) (Some LeftBracket)
    (cond (c == 93) (Some RightBracket)
    (cond (c == 40) (Some LeftParen)
    (cond (c == 41) (Some RightParen)
    (cond (c == 60) (Some LeftAngle)
    (cond (c == 62) (Some RightAngle)
    (cond (c == 44) (Some Comma)
    (cond (c == 59) (Some Semicolon)
    (cond (c == 58) (Some Colon) (cond (c == 63) (Some Question) (cond (c == 61) (Some Equal) (cond (c == 64) (Some At) None)))))))))))))

abbrev pub mark_read : Option Mark → List ℕ → Option (Token × List ℕ)
mark_read None cs = None
mark_read (Some m) cs = Some (mark m, cs)

-- behind a colon: `::` is one mark
abbrev pub colons_read : List ℕ → Token × List ℕ
colons_read [] = (mark Colon, [])
colons_read (c ∷ cs) = cond (c == colon) (mark ColonColon, cs) (mark Colon, c ∷ cs)

abbrev pub text_read : Option (List ℕ × List ℕ) → Option (Token × List ℕ)
text_read None = None
text_read (Some x) = Some (text x.0, x.1)

abbrev pub word_read : ℕ → List ℕ × List ℕ → Token × List ℕ
word_read c x = (word (c ∷ x.0), x.1)

-- the longest token in front, and what follows it
unfoldable pub token_read : ℕ → List ℕ → Option (Token × List ℕ)
token_read c cs =
    elim (begins_word c) as (λ _. Option (Token × List ℕ)) [
      | true ↦ Some (word_read c (run_of is_in_word cs))
      | false ↦
          elim (c == quote) as (λ _. Option (Token × List ℕ)) [
            | true ↦ text_read (inside_of cs)
            | false ↦ elim (c == colon) as (λ _. Option (Token × List ℕ)) [ true ↦ Some (colons_read cs) | false ↦ mark_read (mark_of c) cs ]
          ]
    ]

abbrev pub before : Token → Option (List Token) → Option (List Token)
before t None = None
before t (Some ts) = Some (t ∷ ts)

abbrev pub token_then : (List ℕ → Option (List Token)) → Option (Token × List ℕ) → Option (List Token)
token_then more None = None
token_then more (Some x) = before x.0 (more x.1)

abbrev pub tokens_step : (List ℕ → Option (List Token)) → List ℕ → Option (List Token)
tokens_step more [] = Some []
tokens_step more (c ∷ cs) = token_then more (token_read c cs)

unfoldable pub tokens_at : ℕ → List ℕ → Option (List Token)
tokens_at zero cs = None
tokens_at (suc n) cs = tokens_step (tokens_at n) (after_blank cs)

-- the tokens that the characters are, if they are any
unfoldable pub tokens_of : List ℕ → Option (List Token)
tokens_of cs = tokens_at (suc (length cs)) cs

-- ---- what is next

abbrev pub mark_number : Mark → ℕ
mark_number LeftBrace = 0
mark_number RightBrace = 1
mark_number LeftBracket = 2
mark_number RightBracket = 3
mark_number LeftParen = 4
mark_number RightParen = 5
mark_number LeftAngle = 6
mark_number RightAngle = 7
mark_number Comma = 8
mark_number Semicolon = 9
mark_number Colon = 10
mark_number ColonColon = 11
mark_number Question = 12
mark_number Equal = 13
mark_number At = 14

-- whether a token is this word or this mark
abbrev pub same_token : Token → Token → Bool
same_token (word s) (word t) = same_text s t
same_token (mark m) (mark n) = mark_number m == mark_number n
same_token t u = false

-- what follows this word or mark, if it is next
abbrev pub eat : Token → List Token → Option (List Token)
eat t [] = None
eat t (u ∷ ts) = cond (same_token t u) (Some ts) None

abbrev pub is_word : List Token → Bool
is_word (word s ∷ ts) = true
is_word (text raw ∷ ts) = false
is_word (mark m ∷ ts) = false
is_word [] = false
