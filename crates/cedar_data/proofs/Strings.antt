-- Strings without escapes.
use Rattle.std.proofs.Common.{◌≡◌, ℕ, suc, ◌<◌, ◌≤◌, Bool, true, false, List, [], ◌∷◌, ◌++◌, length, take, drop, get_or, Option, Some, None, map, refl, sym, ap, ◌∙◌, subst, arith}
use Rattle.std.specs.Prelude.{cond, nat_lt, not, ◌&&◌, ◌==◌, encode_utf8, encode_utf8_all}
use Rattle.std.specs.List.{list_all}
use Rattle.std.specs.Str.{chars, IsUtf8, IsCharBoundary}
use Rattle.std.proofs.lemmas.List.{take-append-drop}
use Rattle.std.proofs.lemmas.Bool.Decides.{nat_tests}
use Rattle.std.proofs.lemmas.Str.{encode_ascii, encodes-chars, chars-append, IsUtf8-take, IsUtf8-drop, IsCharBoundary-before_ascii, IsCharBoundary-end}
use Rattle.std.proofs.lemmas.Bool.{not-true, and_parts}
use Rattle.cedar_grammar.specs.Escape.{Part, between, itself, before, parts_from, parts_of, string_chars, string_of}
use Rattle.cedar_grammar.specs.Token.{text}
use Rattle.cedar_grammar.specs.Tokens.{quote, backslash, carriage_return, Inside, closes, plain, Front, is_text}
use Rattle.cedar_data.specs.Runs.{run_length, is_plain}
use Rattle.cedar_data.specs.Takes.{Takes}
use Rattle.cedar_data.proofs.Ascii.{begins}
use Rattle.cedar_data.proofs.Tokens.{in_front}

-- ---- tests

no_quote : (c : ℕ) → is_plain c ≡ true → (c == quote) ≡ false
no_quote c h = not-true (c == quote) ((and_parts (not (c == quote)) (not (c == backslash) && not (c == carriage_return)) h).0)

no_backslash : (c : ℕ) → is_plain c ≡ true → (c == backslash) ≡ false
no_backslash c h =
    not-true (c == backslash) ((and_parts (not (c == backslash)) (not (c == carriage_return)) ((and_parts (not (c == quote)) (not (c == backslash) && not (c == carriage_return)) h).1)).0)

no_return : (c : ℕ) → is_plain c ≡ true → (c == carriage_return) ≡ false
no_return c h =
    not-true (c == carriage_return) ((and_parts (not (c == backslash)) (not (c == carriage_return)) ((and_parts (not (c == quote)) (not (c == backslash) && not (c == carriage_return)) h).1)).1)

-- what isn't plain is ASCII
others_ascii : (c : ℕ) → is_plain c ≡ false → c < 128
others_ascii c e = grind (arith, nat_tests)

all_left : (test : ℕ → Bool) (xs ys : List ℕ) → list_all test (xs ++ ys) ≡ true → list_all test xs ≡ true
all_left test [] ys h = refl
all_left test (x ∷ xs) ys h =
    rw ((and_parts (test x) (list_all test (xs ++ ys)) h).0) (all_left test xs ys ((and_parts (test x) (list_all test (xs ++ ys)) h).1))

all_right : (test : ℕ → Bool) (xs ys : List ℕ) → list_all test (xs ++ ys) ≡ true → list_all test ys ≡ true
all_right test [] ys h = h
all_right test (x ∷ xs) ys h = all_right test xs ys ((and_parts (test x) (list_all test (xs ++ ys)) h).1)

-- the bytes of a run pass its test
run_passes : (test : ℕ → Bool) (bs : List ℕ) → list_all test (take (run_length test bs) bs) ≡ true
run_passes test [] = refl
run_passes test (b ∷ bs) = by (run_passes test bs) (test b) refl
  where
    by : list_all test (take (run_length test bs) bs) ≡ true → (t : Bool) → test b ≡ t → list_all test (take (cond t (suc (run_length test bs)) 0) (b ∷ bs)) ≡ true
    by others true e = ap (λ t. t && list_all test (take (run_length test bs) bs)) e ∙ others
    by others false e = refl

-- ---- characters

character_plain : (c : ℕ) → list_all is_plain (encode_utf8 c) ≡ true → (t : Bool) → is_plain c ≡ t → is_plain c ≡ true
character_plain c h true e = e
character_plain c h false e =
    (and_parts (is_plain c) true (ap (list_all is_plain) (sym (encode_ascii c (others_ascii c e))) ∙ h)).0

-- where the bytes are plain, so are the characters
characters_plain : (cs : List ℕ) → list_all is_plain (encode_utf8_all cs) ≡ true → list_all is_plain cs ≡ true
characters_plain [] h = refl
characters_plain (c ∷ cs) h =
    let first = character_plain c (all_left is_plain (encode_utf8 c) (encode_utf8_all cs) h) (is_plain c) refl in
    ap (λ t. t && list_all is_plain cs) first ∙ characters_plain cs (all_right is_plain (encode_utf8 c) (encode_utf8_all cs) h)

inside_plain : (cs ds : List ℕ) → list_all is_plain cs ≡ true → Inside (cs ++ quote ∷ ds) cs ds
inside_plain [] ds h = closes quote refl
inside_plain (c ∷ cs) ds h =
    let first = (and_parts (is_plain c) (list_all is_plain cs) h).0 in
    plain c (no_quote c first) (no_backslash c first) (inside_plain cs ds ((and_parts (is_plain c) (list_all is_plain cs) h).1))

-- ---- what they stand for

part_plain : (c : ℕ) (cs : List ℕ) → (c == backslash) ≡ false → (c == carriage_return) ≡ false → parts_from between (c ∷ cs) ≡ before (Some (itself c)) (parts_from between cs)
unfolding parts_from
part_plain c cs e f = rw (e, f, parts_from)

no_parts : parts_from between [] ≡ Some []
unfolding parts_from
no_parts = refl

parts_plain : (cs : List ℕ) → list_all is_plain cs ≡ true → parts_of cs ≡ Some (map itself cs)
parts_plain [] h = no_parts
parts_plain (c ∷ cs) h =
    let first = (and_parts (is_plain c) (list_all is_plain cs) h).0 in
    part_plain c cs (no_backslash c first) (no_return c first) ∙ ap (before (Some (itself c))) (parts_plain cs ((and_parts (is_plain c) (list_all is_plain cs) h).1))

chars_themselves : (cs : List ℕ) → string_chars (map itself cs) ≡ Some cs
chars_themselves [] = refl
chars_themselves (c ∷ cs) = ap (λ o. elim o as (λ _. Option (List ℕ)) [ None ↦ None | Some ds ↦ Some (c ∷ ds) ]) (chars_themselves cs)

string_written : (cs : List ℕ) (ps : List Part) → parts_of cs ≡ Some ps → string_chars ps ≡ Some cs → string_of cs ≡ Some (encode_utf8_all cs)
unfolding string_of
string_written cs ps e f =
    ap (λ o. elim o as (λ _. Option (List ℕ)) [ None ↦ None | Some qs ↦ elim (string_chars qs) as (λ _. Option (List ℕ)) [ None ↦ None | Some ds ↦ Some (encode_utf8_all ds) ] ]) e
    ∙ ap (λ o. elim o as (λ _. Option (List ℕ)) [ None ↦ None | Some ds ↦ Some (encode_utf8_all ds) ]) f

-- a plain string stands for itself
pub plain_string : (raw : List ℕ) → IsUtf8 raw → list_all is_plain raw ≡ true → string_of (chars raw) ≡ Some raw
plain_string raw u h =
    let bytes = encodes-chars raw u in
    let all = characters_plain (chars raw) (ap (list_all is_plain) bytes ∙ h) in
    string_written (chars raw) (map itself (chars raw)) (parts_plain (chars raw) all) (chars_themselves (chars raw)) ∙ ap Some bytes

-- ---- the token

-- a string without escapes, and what follows its closing quote
pub record IsPlainString (bs raw rest : List ℕ) : Type 0 where
  pub takes : Takes (text (chars raw)) bs rest
  pub itself : string_of (chars raw) ≡ Some raw

quoted : (raw rest : List ℕ) → IsUtf8 (quote ∷ raw ++ quote ∷ rest) → IsUtf8 raw → IsUtf8 (quote ∷ rest) → list_all is_plain raw ≡ true → Takes (text (chars raw)) (quote ∷ raw ++ quote ∷ rest) rest
quoted raw rest whole u v h =
    let open_ = begins quote (raw ++ quote ∷ rest) (omega arith) whole in
    let close = begins quote rest (omega arith) v in
    let all = characters_plain (chars raw) (ap (list_all is_plain) (encodes-chars raw u) ∙ h) in
    let characters : chars (quote ∷ raw ++ quote ∷ rest) ≡ quote ∷ chars raw ++ quote ∷ chars rest =
    open_.characters ∙ ap (λ cs. quote ∷ cs) (chars-append raw (quote ∷ rest) u ∙ ap (λ cs. chars raw ++ cs) close.characters)
    in
    in_front (text (chars raw)) (quote ∷ raw ++ quote ∷ rest) rest
    (subst (λ cs. Front cs (text (chars raw)) (chars rest)) (sym characters) (is_text quote refl (inside_plain (chars raw) (chars rest) all)))
    (longer raw rest) close.utf8
  where
    longer : (xs ys : List ℕ) → length ys < length (quote ∷ xs ++ quote ∷ ys)
    longer [] ys = omega arith
    longer (x ∷ xs) ys = let more = longer xs ys in omega arith

-- the byte behind the plain ones, if there is one
after_plain : (bs : List ℕ) → run_length is_plain bs < length bs → is_plain (get_or bs (run_length is_plain bs) 0) ≡ false
after_plain [] some = absurd (omega arith)
after_plain (b ∷ bs) some = by (λ lt. after_plain bs lt) (is_plain b) refl some
  where
    by : (run_length is_plain bs < length bs → is_plain (get_or bs (run_length is_plain bs) 0) ≡ false) → (t : Bool) → is_plain b ≡ t → cond t (suc (run_length is_plain bs)) 0 < length (b ∷ bs) → is_plain (get_or (b ∷ bs) (cond t (suc (run_length is_plain bs)) 0) 0) ≡ false
    by others true e lt = others (omega arith)
    by others false e lt = e

plain_within : (test : ℕ → Bool) (bs : List ℕ) → run_length test bs ≤ length bs
plain_within test [] = omega arith
plain_within test (b ∷ bs) = by (plain_within test bs) (test b)
  where
    by : run_length test bs ≤ length bs → (t : Bool) → cond t (suc (run_length test bs)) 0 ≤ length (b ∷ bs)
    by more true = omega arith
    by more false = omega arith

pub plain_boundary : (bs : List ℕ) → IsUtf8 bs → IsCharBoundary bs (run_length is_plain bs)
plain_boundary bs u = by (nat_lt (run_length is_plain bs) (length bs)) refl
  where
    by : (t : Bool) → nat_lt (run_length is_plain bs) (length bs) ≡ t → IsCharBoundary bs (run_length is_plain bs)
    by true e =
        let some : run_length is_plain bs < length bs = grind (arith, nat_tests) in
        IsCharBoundary-before_ascii bs (run_length is_plain bs) some (others_ascii _ (after_plain bs some))
    by false e =
        let all : length bs ≤ run_length is_plain bs = grind (arith, nat_tests) in
        let within = plain_within is_plain bs in
        let same : length bs ≡ run_length is_plain bs = omega arith in
        subst (IsCharBoundary bs) same (IsCharBoundary-end bs)

pub takes_string : (bs : List ℕ) → IsUtf8 bs → get_or bs 0 0 ≡ quote → (raw rest : List ℕ) → raw ≡ take (run_length is_plain (drop 1 bs)) (drop 1 bs) → rest ≡ drop (run_length is_plain (drop 1 bs)) (drop 1 bs)
    → get_or rest 0 0 ≡ quote → IsPlainString bs raw (drop 1 rest)
takes_string [] u first raw rest front back closing = absurd (omega arith)
takes_string (b ∷ bs) u first raw [] front back closing = absurd (omega arith)
takes_string (b ∷ bs) u first raw (c ∷ rest) front back closing =
    let n = run_length is_plain bs in
    let parts : bs ≡ raw ++ c ∷ rest = sym (take-append-drop n bs) ∙ ap (λ x. x ++ drop n bs) (sym front) ∙ ap (λ x. raw ++ x) (sym back) in
    let whole : b ∷ bs ≡ quote ∷ raw ++ quote ∷ rest = ap (λ x. x ∷ bs) first ∙ ap (λ x. quote ∷ x) parts ∙ ap (λ x. quote ∷ raw ++ x ∷ rest) closing in
    let inner = (begins b bs (omega arith) u).utf8 in
    let at = plain_boundary bs inner in
    let utf8 : IsUtf8 raw = subst IsUtf8 (sym front) (IsUtf8-take bs n inner at) in
    let after : IsUtf8 (quote ∷ rest) = subst IsUtf8 (sym back ∙ ap (λ x. x ∷ rest) closing) (IsUtf8-drop bs n inner at) in
    let all : list_all is_plain raw ≡ true = subst (λ x. list_all is_plain x ≡ true) (sym front) (run_passes is_plain bs) in
    record {
      takes = subst (λ x. Takes (text (chars raw)) x rest) (sym whole) (quoted raw rest (subst IsUtf8 whole u) utf8 after all);
      itself = plain_string raw utf8 all;
    }
