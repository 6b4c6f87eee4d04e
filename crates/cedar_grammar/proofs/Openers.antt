-- Each token that opens a construct has a place of its own in the text.
use Rattle.std.proofs.Common.{◌≡◌, ℕ, suc, ◌+◌, ◌≤◌, Bool, true, false, cond, List, [], ◌∷◌, ◌++◌, refl, sym, ap, ◌∙◌, subst, arith}
use Rattle.std.specs.Prelude.{◌==◌}
use Rattle.std.specs.Str.{chars, bytes_eq}
use Rattle.std.proofs.lemmas.Slice.Eq.{bytes_eq-Decides}
use Rattle.cedar_language.specs.Uid.{Text}
use Rattle.cedar_grammar.specs.Token as token
use Rattle.cedar_grammar.specs.Token.{Word, Mark, Token, word, mark, spelled, word_among, word_of, named_words, mark_spelled}
use Rattle.cedar_grammar.specs.Tokens.{Run, ends, goes_on, Blank, nothing, space, comment, is_in_word, is_in_line, Inside, closes, plain, escaped, Front, is_word, is_number, is_text, is_slot, is_mark, AreTokens, none, next}
use Rattle.cedar_grammar.specs.Nesting.{places}
use Rattle.cedar_grammar.specs.LooseReading.{opens, openers}
use Rattle.cedar_grammar.specs.LooseLaws.{OpenersHavePlaces}

-- ---- words

among-spelled : (ws : List Word) (s : Text) (w : Word) → word_among ws s ≡ w → spelled w ≡ s
among-spelled [] s w e = ap spelled (sym e)
among-spelled (v ∷ ws) s w e = by (among-spelled ws s w) (bytes_eq (spelled v) s) refl e
  where
    by : (word_among ws s ≡ w → spelled w ≡ s) → (b : Bool) → bytes_eq (spelled v) s ≡ b → cond b v (word_among ws s) ≡ w → spelled w ≡ s
    by ih true f g = ap spelled (sym g) ∙ (bytes_eq-Decides (spelled v) s).0 f
    by ih false f g = ih g

opens-if : (w : Word) → opens (word w) ≡ true → w ≡ token.If
opens-if token.If e = refl
opens-if w e = absurd (cc e)

-- a word that opens a construct is written `if`
if-spelled : (s : Text) → opens (word (word_of s)) ≡ true → s ≡ 105 ∷ 102 ∷ []
if-spelled s e = sym (among-spelled named_words s token.If (opens-if (word_of s) e))

run-parts : (test : ℕ → Bool) (cs front rest : List ℕ) → Run test cs front rest → cs ≡ front ++ rest
run-parts test cs front rest (ends s) = refl
run-parts test cs front rest (goes_on c {cs = ds} {front = more} e r) = ap (λ q. c ∷ q) (run-parts test ds more rest r)

-- ---- places

flag : (f : Bool) (cs : List ℕ) → places false cs ≤ places f cs
flag f [] = omega arith
flag true (c ∷ cs) = omega arith
flag false (c ∷ cs) = omega arith

later : (f : Bool) (c : ℕ) (cs : List ℕ) → places false cs ≤ places f (c ∷ cs)
later f c cs = let one = flag (c == 105) cs in omega arith

behind : (f : Bool) (pre rest : List ℕ) → places false rest ≤ places f (pre ++ rest)
behind f [] rest = flag f rest
behind f (c ∷ pre) rest = let one = behind false pre rest in let two = later f c (pre ++ rest) in omega arith

run-places : (test : ℕ → Bool) (cs front rest : List ℕ) → Run test cs front rest → places false rest ≤ places false cs
run-places test cs front rest (ends s) = omega arith
run-places test cs front rest (goes_on c {cs = ds} {front = more} e r) = let one = run-places test ds more rest r in let two = later false c ds in omega arith

blank-places : (cs rest : List ℕ) → Blank cs rest → places false rest ≤ places false cs
blank-places cs rest nothing = omega arith
blank-places cs rest (space c {cs = ds} e b) = let one = blank-places ds rest b in let two = later false c ds in omega arith
blank-places cs rest (comment c d {cs = ds} {front} {mid} e f r b) =
    let one = run-places is_in_line ds front mid r in
    let two = blank-places mid rest b in
    let three = later false d ds in
    let four = later false c (d ∷ ds) in omega arith

inside-places : (cs raw rest : List ℕ) → Inside cs raw rest → places false rest ≤ places false cs
inside-places cs raw rest (closes c e) = later false c rest
inside-places cs raw rest (plain c {cs = ds} {raw = more} e f r) = let one = inside-places ds more rest r in let two = later false c ds in omega arith
inside-places cs raw rest (escaped c d {cs = ds} {raw = more} e f r) =
    let one = inside-places ds more rest r in
    let two = later false d ds in
    let three = later false c (d ∷ ds) in omega arith

-- ---- tokens

-- the places that a token has of its own
abbrev own_place : Token → ℕ
own_place t = cond (opens t) 1 0

mark-places : (m : Mark) (rest : List ℕ) → own_place (mark m) + places false rest ≤ places false (mark_spelled m ++ rest)
mark-places token.LeftParen rest = omega arith
mark-places token.LeftBracket rest = omega arith
mark-places token.LeftBrace rest = omega arith
mark-places m rest = let one = behind false (mark_spelled m) rest in omega arith

word-places : (c : ℕ) (cs more rest : List ℕ) → Run is_in_word cs more rest → (b : Bool) → opens (word (word_of (c ∷ more))) ≡ b → cond b 1 0 + places false rest ≤ places false (c ∷ cs)
word-places c cs more rest r false e = let one = run-places is_in_word cs more rest r in let two = later false c cs in omega arith
word-places c cs more rest r true e =
    let at : c ∷ cs ≡ 105 ∷ 102 ∷ rest = ap (λ q. c ∷ q) (run-parts is_in_word cs more rest r) ∙ ap (λ q. q ++ rest) (if-spelled (c ∷ more) e) in
    subst (λ q. 1 + places false rest ≤ places false q) (sym at) (omega arith)

front-places : (cs : List ℕ) (t : Token) (rest : List ℕ) → Front cs t rest → own_place t + places false rest ≤ places false cs
front-places cs t rest (is_word c {cs = ds} {more} e r) = word-places c ds more rest r (opens (word (word_of (c ∷ more)))) refl
front-places cs t rest (is_number c {cs = ds} {more} e r) = let one = run-places _ ds more rest r in let two = later false c ds in omega arith
front-places cs t rest (is_text c {cs = ds} {raw} e r) = let one = inside-places ds raw rest r in let two = later false c ds in omega arith
front-places cs t rest (is_slot c d {cs = ds} {more} e f r) =
    let one = run-places _ ds more rest r in
    let two = later false d ds in
    let three = later false c (d ∷ ds) in omega arith
front-places cs t rest (is_mark m e s) = subst (λ q. own_place (mark m) + places false rest ≤ places false q) (sym e) (mark-places m rest)

openers-own : (t : Token) (ts : List Token) → openers (t ∷ ts) ≤ own_place t + openers ts
openers-own t ts = by (opens t)
  where
    by : (b : Bool) → cond b (suc (openers ts)) (openers ts) ≤ cond b 1 0 + openers ts
    by true = omega arith
    by false = omega arith

tokens-places : (cs : List ℕ) (ts : List Token) → AreTokens cs ts → openers ts ≤ places false cs
tokens-places cs ts (none b) = omega arith
tokens-places cs ts (next t mid after {ts = us} b f more) =
    let one = blank-places cs mid b in
    let two = front-places mid t after f in
    let three = tokens-places after us more in
    let four = openers-own t us in omega arith

pub openers_have_places : OpenersHavePlaces
openers_have_places bytes ts are = let one = tokens-places (chars bytes) ts are in omega arith
