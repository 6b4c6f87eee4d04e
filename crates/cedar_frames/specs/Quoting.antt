-- Quoted ids: `"`, `\`, line feed, carriage return, tab and NUL are escaped, and all else stands as it is.
use Rattle.std.specs.Prelude.{ℕ, List, [], ◌∷◌, ◌++◌, codes, if◌then◌else◌, ◌==◌}

-- how a byte is written
abbrev pub escaped : ℕ → List ℕ
escaped b =
    if b == 34 then codes "\\\"" else if b == 92 then codes "\\\\" else if b == 10 then codes "\\n"
    else if b == 13 then codes "\\r" else if b == 9 then codes "\\t" else if b == 0 then codes "\\0" else b ∷ []

abbrev pub escaped_all : List ℕ → List ℕ
escaped_all [] = []
escaped_all (b ∷ bs) = escaped b ++ escaped_all bs

abbrev pub quoted : List ℕ → List ℕ
quoted text = (codes "\"" ++ escaped_all text) ++ codes "\""
