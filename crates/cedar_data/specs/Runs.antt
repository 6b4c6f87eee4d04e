-- Runs of bytes at the start of a text.
use Rattle.std.specs.Prelude.{ℕ, suc, ◌==◌, ◌||◌, ◌&&◌, not, List, [], ◌∷◌, Bool, cond}
use Rattle.cedar_grammar.specs.Tokens.{line_feed, carriage_return, quote, backslash}

-- how many bytes from the first on pass the test
abbrev pub run_length : (ℕ → Bool) → List ℕ → ℕ
run_length test [] = 0
run_length test (b ∷ bs) = cond (test b) (suc (run_length test bs)) 0

-- the white space of ASCII that texts are laid out with: space, tab, line feed and carriage return
abbrev pub is_blank : ℕ → Bool
is_blank b = b == 32 || (b == 9 || (b == line_feed || b == carriage_return))

-- a byte of a string that stands for itself, or is a part of a character that does
abbrev pub is_plain : ℕ → Bool
is_plain b = not (b == quote) && (not (b == backslash) && not (b == carriage_return))
