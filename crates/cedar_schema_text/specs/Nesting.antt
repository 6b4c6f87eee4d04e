-- How deep the braces and angle brackets of tokens nest.
use Rattle.std.specs.Prelude.{ℕ, suc, ◌-◌, max, List, [], ◌∷◌}
use Rattle.cedar_schema_grammar.specs.Tokens.{Token, mark, LeftBrace, RightBrace, LeftAngle, RightAngle}

-- how many are open behind a token, where so many are before it
abbrev pub open_behind : ℕ → Token → ℕ
open_behind n (mark LeftBrace) = suc n
open_behind n (mark LeftAngle) = suc n
open_behind n (mark RightBrace) = n - 1
open_behind n (mark RightAngle) = n - 1
open_behind n t = n

-- the most that are open at once, where so many are before the tokens
abbrev pub most_open : ℕ → List Token → ℕ
most_open n [] = n
most_open n (t ∷ ts) = max n (most_open (open_behind n t) ts)

abbrev pub nesting : List Token → ℕ
nesting ts = most_open 0 ts
