-- The marks at the start of characters.
use Rattle.std.proofs.Common.{◌≡◌, ◌⊎◌, inl, inr, ℕ, Bool, true, false, not, List, [], ◌∷◌, ◌++◌, length, Some, None, refl, sym, ap, ◌∙◌, subst}
use Rattle.std.specs.Prelude.{◌==◌}
use Rattle.std.proofs.lemmas.Bool.{eqb-true, ne_eqb}
use Rattle.cedar_grammar.specs.Token as token
use Rattle.cedar_grammar.specs.Token.{Mark, Token, mark, mark_spelled}
use Rattle.cedar_grammar.specs.Tokens.{slash, colon, equals, Stops, lengthens, all_marks, without, stops, mark_among}
use Rattle.cedar_tokens.specs.Marks.{StartsNoComment, StartsWithNone}

stops-from : (test : ℕ → Bool) (cs : List ℕ) → Stops test cs → stops test cs ≡ true
stops-from test [] h = refl
stops-from test (c ∷ cs) h = ap not h

no-second : (d : ℕ) (rest : List ℕ) → Stops (λ c. c == d) rest → without (d ∷ []) rest ≡ None
no-second d [] h = refl
no-second d (c ∷ cs) h = rw (h, without)

pub mark-read : (m : Mark) (rest : List ℕ) → Stops (lengthens m) rest → mark_among all_marks (mark_spelled m ++ rest) ≡ Some (mark m, rest)
mark-read token.LeftParen rest h = rw (stops-from (lengthens token.LeftParen) rest h)
mark-read token.RightParen rest h = rw (stops-from (lengthens token.RightParen) rest h)
mark-read token.LeftBracket rest h = rw (stops-from (lengthens token.LeftBracket) rest h)
mark-read token.RightBracket rest h = rw (stops-from (lengthens token.RightBracket) rest h)
mark-read token.LeftBrace rest h = rw (stops-from (lengthens token.LeftBrace) rest h)
mark-read token.RightBrace rest h = rw (stops-from (lengthens token.RightBrace) rest h)
mark-read token.Comma rest h = rw (stops-from (lengthens token.Comma) rest h)
mark-read token.Semicolon rest h = rw (stops-from (lengthens token.Semicolon) rest h)
mark-read token.Colon rest h = rw (no-second colon rest h, stops-from (lengthens token.Colon) rest h)
mark-read token.ColonColon rest h = rw (stops-from (lengthens token.ColonColon) rest h)
mark-read token.Dot rest h = rw (stops-from (lengthens token.Dot) rest h)
mark-read token.At rest h = rw (stops-from (lengthens token.At) rest h)
mark-read token.AndAnd rest h = rw (stops-from (lengthens token.AndAnd) rest h)
mark-read token.OrOr rest h = rw (stops-from (lengthens token.OrOr) rest h)
mark-read token.EqualEqual rest h = rw (stops-from (lengthens token.EqualEqual) rest h)
mark-read token.NotEqual rest h = rw (stops-from (lengthens token.NotEqual) rest h)
mark-read token.Less rest h = rw (no-second equals rest h, stops-from (lengthens token.Less) rest h)
mark-read token.LessEqual rest h = rw (stops-from (lengthens token.LessEqual) rest h)
mark-read token.Greater rest h = rw (no-second equals rest h, stops-from (lengthens token.Greater) rest h)
mark-read token.GreaterEqual rest h = rw (stops-from (lengthens token.GreaterEqual) rest h)
mark-read token.Plus rest h = rw (stops-from (lengthens token.Plus) rest h)
mark-read token.Minus rest h = rw (stops-from (lengthens token.Minus) rest h)
mark-read token.Star rest h = rw (stops-from (lengthens token.Star) rest h)
mark-read token.Bang rest h = rw (no-second equals rest h, stops-from (lengthens token.Bang) rest h)
mark-read token.Slash rest h = rw (stops-from (lengthens token.Slash) rest h)
mark-read token.Percent rest h = rw (stops-from (lengthens token.Percent) rest h)
mark-read token.Equal rest h = rw (no-second equals rest h, stops-from (lengthens token.Equal) rest h)

-- a mark of two characters, and one of one character that begins no longer mark and no comment
always : (rest : List ℕ) → Stops (λ c. false) rest
always [] = tt
always (c ∷ cs) = refl

pub double-stops : (m : Mark) (rest : List ℕ) → length (mark_spelled m) ≡ 2 → Stops (lengthens m) rest
double-stops token.ColonColon rest e = always rest
double-stops token.AndAnd rest e = always rest
double-stops token.OrOr rest e = always rest
double-stops token.EqualEqual rest e = always rest
double-stops token.NotEqual rest e = always rest
double-stops token.LessEqual rest e = always rest
double-stops token.GreaterEqual rest e = always rest
double-stops m rest e = absurd (cc e)

pub single-stops : (m : Mark) (rest : List ℕ) → StartsWithNone 2 (mark_spelled m ++ rest) → StartsNoComment (mark_spelled m ++ rest) → Stops (lengthens m) rest
single-stops m [] none comment = tt
single-stops token.Colon (d ∷ ds) none comment = ne_eqb d colon (λ e. none token.ColonColon ds refl (ap (λ x. 58 ∷ x ∷ ds) e))
single-stops token.Bang (d ∷ ds) none comment = ne_eqb d equals (λ e. none token.NotEqual ds refl (ap (λ x. 33 ∷ x ∷ ds) e))
single-stops token.Less (d ∷ ds) none comment = ne_eqb d equals (λ e. none token.LessEqual ds refl (ap (λ x. 60 ∷ x ∷ ds) e))
single-stops token.Greater (d ∷ ds) none comment = ne_eqb d equals (λ e. none token.GreaterEqual ds refl (ap (λ x. 62 ∷ x ∷ ds) e))
single-stops token.Equal (d ∷ ds) none comment = ne_eqb d equals (λ e. none token.EqualEqual ds refl (ap (λ x. 61 ∷ x ∷ ds) e))
single-stops token.Slash (d ∷ ds) none comment = ne_eqb d slash (λ e. comment ds (ap (λ x. slash ∷ x ∷ ds) e))
single-stops m (d ∷ ds) none comment = refl

without-none : (ds cs : List ℕ) → ((rest : List ℕ) → cs ≡ ds ++ rest → ⊥) → without ds cs ≡ None
without-none [] cs f = absurd (f cs refl)
without-none (d ∷ ds) [] f = refl
without-none (d ∷ ds) (c ∷ cs) f = by (without-none ds cs) (c == d) refl
  where
    by : (((rest : List ℕ) → cs ≡ ds ++ rest → ⊥) → without ds cs ≡ None) → (b : Bool) → (c == d) ≡ b → without (d ∷ ds) (c ∷ cs) ≡ None
    by ih true e = rw (e, without) (ih (λ rest g. f rest (ap (λ x. x ∷ cs) (eqb-true c d e) ∙ ap (λ x. d ∷ x) g)))
    by ih false e = rw (e, without)

among-none : (ms : List Mark) (cs : List ℕ) → ((m : Mark) (rest : List ℕ) → cs ≡ mark_spelled m ++ rest → ⊥) → mark_among ms cs ≡ None
among-none [] cs f = refl
among-none (m ∷ ms) cs f = rw (without-none (mark_spelled m) cs (f m)) (among-none ms cs f)

widths : (m : Mark) → (length (mark_spelled m) ≡ 1) ⊎ (length (mark_spelled m) ≡ 2)
widths token.LeftParen = inl refl
widths token.RightParen = inl refl
widths token.LeftBracket = inl refl
widths token.RightBracket = inl refl
widths token.LeftBrace = inl refl
widths token.RightBrace = inl refl
widths token.Comma = inl refl
widths token.Semicolon = inl refl
widths token.Colon = inl refl
widths token.ColonColon = inr refl
widths token.Dot = inl refl
widths token.At = inl refl
widths token.AndAnd = inr refl
widths token.OrOr = inr refl
widths token.EqualEqual = inr refl
widths token.NotEqual = inr refl
widths token.Less = inl refl
widths token.LessEqual = inr refl
widths token.Greater = inl refl
widths token.GreaterEqual = inr refl
widths token.Plus = inl refl
widths token.Minus = inl refl
widths token.Star = inl refl
widths token.Bang = inl refl
widths token.Slash = inl refl
widths token.Percent = inl refl
widths token.Equal = inl refl

pub no_mark : (cs : List ℕ) → StartsWithNone 2 cs → StartsWithNone 1 cs → mark_among all_marks cs ≡ None
no_mark cs two one = among-none all_marks cs (λ m rest e. by m rest e (widths m))
  where
    by : (m : Mark) (rest : List ℕ) → cs ≡ mark_spelled m ++ rest → (length (mark_spelled m) ≡ 1) ⊎ (length (mark_spelled m) ≡ 2) → ⊥
    by m rest e (inl w) = one m rest w e
    by m rest e (inr w) = two m rest w e

pub single-marks : (m : Mark) (cs rest : List ℕ) → cs ≡ mark_spelled m ++ rest → StartsWithNone 2 cs → StartsNoComment cs → Stops (lengthens m) rest
single-marks m cs rest e two comment = single-stops m rest (subst (StartsWithNone 2) e two) (subst StartsNoComment e comment)

pub marked : (m : Mark) (cs rest : List ℕ) → cs ≡ mark_spelled m ++ rest → Stops (lengthens m) rest → mark_among all_marks cs ≡ Some (mark m, rest)
marked m cs rest e h = subst (λ x. mark_among all_marks x ≡ Some (mark m, rest)) (sym e) (mark-read m rest h)
