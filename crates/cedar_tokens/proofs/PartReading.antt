-- The part at the start of raw characters.
use Rattle.std.proofs.Common.{◌≡◌, ℕ, suc, ◌+◌, ◌*◌, ◌^◌, ◌<◌, ◌≤◌, Bool, true, false, List, [], ◌∷◌, length, Option, Some, None, refl, sym, ap, ◌∙◌, add-one, lit<, arith}
use Rattle.std.proofs.Math.Nat.{pow-suc, pow-le-pow_right}
use Rattle.std.specs.Prelude.{◌==◌, MatchOption}
use Rattle.std.specs.Char.{digit_value, is_ascii_hexdigit}
use Rattle.std.specs.Str.{chars, IsUtf8}
use denote.Ref.{Bor}
use Rattle.std.proofs.lemmas.Bool.{eq-eqb, ne_eqb}
use Rattle.std.proofs.lemmas.Bool.Decides.{nat_tests}
use Rattle.cedar_grammar.specs.Escape as escapes
use Rattle.cedar_grammar.specs.Escape.{Place, between, escape, hex, hex_digit, unicode, unicode_digits, itself, before, simple_escape, hex_escape, unicode_escape, parts_from}
use Rattle.cedar_grammar.specs.Tokens.{Stops, backslash, carriage_return}
use Rattle.cedar_tokens.specs.declared.escapes.Part.{Part}
use Rattle.cedar_tokens.specs.Rest.{StartsWith, IsRest}
use Rattle.cedar_tokens.specs.Parts.{part_view, RefusesPart, ReadsPart}
use Rattle.cedar_tokens.proofs.Rests.{rest_all, rest_past, rest_rest, shorter-past}

-- ---- one character

pub hexdigit : (c : ℕ) → digit_value c < 16 → is_ascii_hexdigit c ≡ true
hexdigit c h = grind (arith, nat_tests)

pub no_hexdigit : (c : ℕ) → (digit_value c < 16 → ⊥) → is_ascii_hexdigit c ≡ false
no_hexdigit c h = grind (arith, nat_tests)

pub between-escape : (c : ℕ) (cs : List ℕ) → c ≡ backslash → parts_from between (c ∷ cs) ≡ parts_from escape cs
unfolding parts_from
between-escape c cs e = rw (eq-eqb c backslash e, parts_from)

pub between-return : (c : ℕ) (cs : List ℕ) → c ≡ carriage_return → parts_from between (c ∷ cs) ≡ None
unfolding parts_from
between-return c cs e = ap (λ x. parts_from between (x ∷ cs)) e

pub between-plain : (c : ℕ) (cs : List ℕ) → (c ≡ backslash → ⊥) → (c ≡ carriage_return → ⊥) → parts_from between (c ∷ cs) ≡ before (Some (itself c)) (parts_from between cs)
unfolding parts_from
between-plain c cs e f = rw (ne_eqb c backslash e, ne_eqb c carriage_return f, parts_from)

pub escape-none : parts_from escape [] ≡ None
unfolding parts_from
escape-none = refl

pub escape-hex : (c : ℕ) (cs : List ℕ) → c ≡ 120 → parts_from escape (c ∷ cs) ≡ parts_from hex cs
unfolding parts_from
escape-hex c cs e = rw (eq-eqb c 120 e, parts_from)

pub escape-unicode : (c : ℕ) (cs : List ℕ) → c ≡ 117 → parts_from escape (c ∷ cs) ≡ parts_from unicode cs
unfolding parts_from
escape-unicode c cs e = ap (λ x. parts_from escape (x ∷ cs)) e

pub escape-simple : (c : ℕ) (cs : List ℕ) → (c ≡ 120 → ⊥) → (c ≡ 117 → ⊥) → parts_from escape (c ∷ cs) ≡ before (simple_escape c) (parts_from between cs)
unfolding parts_from
escape-simple c cs e f = rw (ne_eqb c 120 e, ne_eqb c 117 f, parts_from)

pub hex-none : parts_from hex [] ≡ None
unfolding parts_from
hex-none = refl

pub hex-one : (h : ℕ) → parts_from hex (h ∷ []) ≡ None
unfolding parts_from
hex-one h = refl

pub hex-two : (h l : ℕ) (cs : List ℕ) → parts_from hex (h ∷ l ∷ cs) ≡ before (hex_escape h l) (parts_from between cs)
unfolding parts_from
hex-two h l cs = refl

pub unicode-open : (cs : List ℕ) → parts_from unicode (123 ∷ cs) ≡ parts_from (unicode_digits 0 0) cs
unfolding parts_from
unicode-open cs = refl

pub unicode-none : (cs : List ℕ) → Stops (λ c. c == 123) cs → parts_from unicode cs ≡ None
unfolding parts_from
unicode-none [] h = refl
unicode-none (c ∷ cs) h = rw (h, parts_from)

pub digits-none : (n v : ℕ) → parts_from (unicode_digits n v) [] ≡ None
unfolding parts_from
digits-none n v = refl

pub digits-close : (n v c : ℕ) (cs : List ℕ) → c ≡ 125 → parts_from (unicode_digits n v) (c ∷ cs) ≡ before (unicode_escape n v) (parts_from between cs)
unfolding parts_from
digits-close n v c cs e = rw (eq-eqb c 125 e, parts_from)

pub digits-more : (n v c : ℕ) (cs : List ℕ) → (c ≡ 125 → ⊥) → digit_value c < 16 → parts_from (unicode_digits n v) (c ∷ cs) ≡ parts_from (unicode_digits (suc n) (v * 16 + digit_value c)) cs
unfolding parts_from
digits-more n v c cs e h = rw (ne_eqb c 125 e, hexdigit c h, parts_from)

pub digits-other : (n v c : ℕ) (cs : List ℕ) → (c ≡ 125 → ⊥) → (digit_value c < 16 → ⊥) → parts_from (unicode_digits n v) (c ∷ cs) ≡ None
unfolding parts_from
digits-other n v c cs e h = rw (ne_eqb c 125 e, no_hexdigit c h, parts_from)

many-escape : (n v : ℕ) → 6 < n → unicode_escape n v ≡ None
many-escape n v h = grind (arith, nat_tests)

-- more than six digits name no character
pub digits-many : (n v : ℕ) (cs : List ℕ) → 6 < n → parts_from (unicode_digits n v) cs ≡ None
unfolding parts_from
digits-many n v [] h = refl
digits-many n v (c ∷ cs) h = by (digits-many (suc n) (v * 16 + digit_value c) cs (omega arith)) (c == 125) (is_ascii_hexdigit c) refl refl
  where
    by : parts_from (unicode_digits (suc n) (v * 16 + digit_value c)) cs ≡ None → (a b : Bool) → (c == 125) ≡ a → is_ascii_hexdigit c ≡ b → parts_from (unicode_digits n v) (c ∷ cs) ≡ None
    by ih true b e f = rw (e, parts_from, many-escape n v h)
    by ih false true e f = rw (e, f, parts_from) ih
    by ih false false e f = rw (e, f, parts_from)

-- ---- the part at the start of a text

pub reads : (place : Place) (raw rest : List ℕ) (o : Option escapes.Part) (p : escapes.Part) → parts_from place (chars raw) ≡ before o (parts_from between (chars rest)) → Some p ≡ o → IsRest raw rest → length rest < length raw → ReadsPart place raw p rest
reads place raw rest o p e f r s = record { parts = e ∙ ap (λ x. before x (parts_from between (chars rest))) (sym f); cut = r; shorter = s }

pub refuses : (place : Place) (raw : List ℕ) (o : Option escapes.Part) (more : Option (List escapes.Part)) → parts_from place (chars raw) ≡ before o more → None ≡ o → RefusesPart place raw
refuses place raw o more e f = e ∙ ap (λ x. before x more) (sym f)

-- what is read of the rest, where the first character leads to another place
pub moved : (place next : Place) (raw rest : List ℕ) (c : ℕ) → IsUtf8 raw → StartsWith raw c rest → parts_from place (c ∷ chars rest) ≡ parts_from next (chars rest) → (r : Option (Part × Bor (List ℕ)))
    → MatchOption r (RefusesPart next rest) (λ x. ReadsPart next rest (part_view x.0) x.1.now) → MatchOption r (RefusesPart place raw) (λ x. ReadsPart place raw (part_view x.0) x.1.now)
moved place next raw rest c u s e None h = ap (parts_from place) s.characters ∙ e ∙ h
moved place next raw rest c u s e (Some x) h =
    record {
      parts = ap (parts_from place) s.characters ∙ e ∙ h.parts;
      cut = rest_rest raw rest x.1.now (rest_past raw raw rest c (rest_all raw u) s) h.cut;
      shorter = shorter-past raw rest x.1.now c s h.cut;
    }

pub one_past : (raw rest : List ℕ) (c : ℕ) → IsUtf8 raw → StartsWith raw c rest → IsRest raw rest
one_past raw rest c u s = rest_past raw raw rest c (rest_all raw u) s

-- ---- the digits of `\u{..}`

pub code_small : (n v : ℕ) → n ≤ 6 → (n ≡ 6 → ⊥) → v < 16 ^ n → v < 1048576
code_small n v few not h =
    let some : 0 < 16 = lit< tt in
    let five : n ≤ 5 = omega arith in
    let p : 16 ^ n ≤ 16 ^ 5 = pow-le-pow_right some {i = n} {j = 5} five in omega arith

pub code_next : (n v d : ℕ) → v < 16 ^ n → d < 16 → v * 16 + d < 16 ^ (n + 1)
code_next n v d h lt = let p : 16 ^ (n + 1) ≡ 16 ^ n * 16 = ap (λ k. 16 ^ k) (add-one n) ∙ pow-suc 16 n in omega arith

-- the digits read so far
abbrev pub HasDigits : List ℕ → List ℕ → ℕ → ℕ → Type 0
HasDigits raw rest n v = parts_from unicode (chars raw) ≡ parts_from (unicode_digits n v) (chars rest)

pub digits_begin : (raw rest : List ℕ) → chars raw ≡ 123 ∷ chars rest → HasDigits raw rest 0 0
digits_begin raw rest e = ap (parts_from unicode) e ∙ unicode-open (chars rest)

pub digits_turn : (raw rest after : List ℕ) (n v c d : ℕ) → HasDigits raw rest n v → StartsWith rest c after → (c ≡ 125 → ⊥) → digit_value c < 16 → d ≡ digit_value c → HasDigits raw after (n + 1) (v * 16 + d)
digits_turn raw rest after n v c d h s not lt e =
    h ∙ ap (parts_from (unicode_digits n v)) s.characters ∙ digits-more n v c (chars after) not lt
    ∙ ap (λ x. parts_from (unicode_digits (suc n) (v * 16 + x)) (chars after)) (sym e) ∙ ap (λ k. parts_from (unicode_digits k (v * 16 + d)) (chars after)) (sym (add-one n))

pub digits_closed : (raw rest after : List ℕ) (n v c : ℕ) → HasDigits raw rest n v → StartsWith rest c after → c ≡ 125 → parts_from unicode (chars raw) ≡ before (unicode_escape n v) (parts_from between (chars after))
digits_closed raw rest after n v c h s e = h ∙ ap (parts_from (unicode_digits n v)) s.characters ∙ digits-close n v c (chars after) e

pub digits_stuck : (raw rest after : List ℕ) (n v c : ℕ) → HasDigits raw rest n v → StartsWith rest c after → (c ≡ 125 → ⊥) → (digit_value c < 16 → ⊥) → RefusesPart unicode raw
digits_stuck raw rest after n v c h s not none = h ∙ ap (parts_from (unicode_digits n v)) s.characters ∙ digits-other n v c (chars after) not none

pub digits_full : (raw rest after : List ℕ) (n v c : ℕ) → HasDigits raw rest n v → StartsWith rest c after → (c ≡ 125 → ⊥) → digit_value c < 16 → n ≡ 6 → RefusesPart unicode raw
digits_full raw rest after n v c h s not lt e =
    h ∙ ap (parts_from (unicode_digits n v)) s.characters ∙ digits-more n v c (chars after) not lt ∙ digits-many (suc n) (v * 16 + digit_value c) (chars after) (omega arith)

pub digits_end : (raw rest : List ℕ) (n v : ℕ) → HasDigits raw rest n v → chars rest ≡ [] → RefusesPart unicode raw
digits_end raw rest n v h e = h ∙ ap (parts_from (unicode_digits n v)) e ∙ digits-none n v
