-- Texts that grow at their end by what is written.
use Rattle.std.proofs.Common.{◌≡◌, ℕ, Bool, true, false, not, ◌&&◌, ◌||◌, ◌==◌, ◌<◌, ◌≤◌, zero, suc, cond, List, [], ◌∷◌, ◌++◌, drop, length, Result, Ok, Err, refl, sym, ap, ◌∙◌, append_assoc, append-nil, arith}
use Rattle.std.specs.Prelude.{OnOk, is_ok, encode_utf8_all, encode_utf8, IsUtf8}
use Rattle.std.specs.List.{list_all}
use Rattle.std.specs.Str.{chars}
use Rattle.std.proofs.lemmas.Str.{encodes-append, encodes-chars, encode_ascii}
use Rattle.cedar_grammar.specs.Tokens.{quote, backslash, carriage_return, colon}
use Rattle.cedar_json.specs.Parts.{key_written, part_written}
use Rattle.cedar_json.specs.Written.{is_plain, escaped_char, escaped, quoted, entry_written}

-- ---- one step

pub grown : (a b c xs ys : List ℕ) → b ≡ a ++ encode_utf8_all xs → c ≡ b ++ encode_utf8_all ys → c ≡ a ++ encode_utf8_all (xs ++ ys)
grown a b c xs ys e f =
    f ∙ ap (λ s. s ++ encode_utf8_all ys) e ∙ append_assoc a (encode_utf8_all xs) (encode_utf8_all ys) ∙ ap (λ s. a ++ s) (sym (encodes-append xs ys))

pub pushed : (a b : List ℕ) (c : ℕ) → b ≡ a ++ encode_utf8 c → b ≡ a ++ encode_utf8_all (c ∷ [])
pushed a b c e = e ∙ ap (λ s. a ++ s) (sym (append-nil (encode_utf8 c)))

pub two_pushed : (a b : List ℕ) (c d : ℕ) → c < 128 → d < 128 → b ≡ a ++ c ∷ d ∷ [] → b ≡ a ++ encode_utf8_all (c ∷ d ∷ [])
two_pushed a b c d k l e =
    e ∙ ap (λ s. a ++ s) (sym (ap (λ s. s ++ encode_utf8_all (d ∷ [])) (encode_ascii c k) ∙ ap (λ s. c ∷ (s ++ [])) (encode_ascii d l)))

module _ {A E : Type 0} where
  pub on_grown : (r : Result A E) (a b c xs ys : List ℕ) → b ≡ a ++ encode_utf8_all xs → OnOk r (c ≡ b ++ encode_utf8_all ys)
      → OnOk r (c ≡ a ++ encode_utf8_all (xs ++ ys))
  on_grown (Ok x) a b c xs ys e f = grown a b c xs ys e f
  on_grown (Err x) a b c xs ys e f = tt

  pub on_pushed : (r : Result A E) (a b : List ℕ) (c : ℕ) → b ≡ cond (is_ok r) (a ++ encode_utf8 c) a → OnOk r (b ≡ a ++ encode_utf8_all (c ∷ []))
  on_pushed (Ok x) a b c e = pushed a b c e
  on_pushed (Err x) a b c e = tt

  pub on_text : (r : Result A E) (a b s : List ℕ) → IsUtf8 s → b ≡ cond (is_ok r) (a ++ s) a → OnOk r (b ≡ a ++ encode_utf8_all (chars s))
  on_text (Ok x) a b s u e = e ∙ ap (λ t. a ++ t) (sym (encodes-chars s u))
  on_text (Err x) a b s u e = tt

  pub on_same : (r : Result A E) (a b xs ys : List ℕ) → xs ≡ ys → OnOk r (b ≡ a ++ encode_utf8_all xs) → OnOk r (b ≡ a ++ encode_utf8_all ys)
  on_same (Ok x) a b xs ys e f = f ∙ ap (λ cs. a ++ encode_utf8_all cs) e
  on_same (Err x) a b xs ys e f = tt

  -- the last character of what a loop wrote
  pub on_closed : (r : Result A E) (out b whole : List ℕ) (c : ℕ) (rest : List ℕ) → rest ≡ c ∷ [] → out ++ encode_utf8_all rest ≡ whole
      → b ≡ cond (is_ok r) (out ++ encode_utf8 c) out → OnOk r (b ≡ whole)
  on_closed (Ok x) out b whole c rest e f g = pushed out b c g ∙ ap (λ cs. out ++ encode_utf8_all cs) (sym e) ∙ f
  on_closed (Err x) out b whole c rest e f g = tt

  pub on_two : (r : Result A E) (a b : List ℕ) (c d : ℕ) → c < 128 → d < 128 → b ≡ cond (is_ok r) (a ++ c ∷ d ∷ []) a
      → OnOk r (b ≡ a ++ encode_utf8_all (c ∷ d ∷ []))
  on_two (Ok x) a b c d k l e = two_pushed a b c d k l e
  on_two (Err x) a b c d k l e = tt

-- ---- a loop's step

-- an item is written, and a comma
pub item_step : (out d e one later whole : List ℕ) (c : ℕ) → d ≡ out ++ encode_utf8_all one → e ≡ d ++ encode_utf8 c
    → out ++ encode_utf8_all (one ++ c ∷ later) ≡ whole → e ++ encode_utf8_all later ≡ whole
item_step out d e one later whole c f g h =
    ap (λ s. s ++ encode_utf8_all later) (g ∙ ap (λ s. s ++ encode_utf8 c) f)
    ∙ append_assoc (out ++ encode_utf8_all one) (encode_utf8 c) (encode_utf8_all later)
    ∙ append_assoc out (encode_utf8_all one) (encode_utf8_all (c ∷ later))
    ∙ ap (λ s. out ++ s) (sym (encodes-append one (c ∷ later))) ∙ h

pub none_left : {A : Type 0} → (xs : List A) (i : ℕ) → length xs ≤ i → drop i xs ≡ []
none_left [] zero h = refl
none_left [] (suc i) h = refl
none_left (x ∷ xs) zero h = absurd (omega arith)
none_left (x ∷ xs) (suc i) h = none_left xs i (omega arith)

-- ---- characters between quotes

pub escaped_more : (cs : List ℕ) (c : ℕ) → escaped (cs ++ c ∷ []) ≡ escaped cs ++ escaped_char c
escaped_more [] c = append-nil (escaped_char c)
escaped_more (d ∷ cs) c = ap (λ s. escaped_char d ++ s) (escaped_more cs c) ∙ sym (append_assoc (escaped_char d) (escaped cs) (escaped_char c))

pub plain_escaped : (cs : List ℕ) → list_all is_plain cs ≡ true → escaped cs ≡ cs
plain_escaped [] e = refl
plain_escaped (c ∷ cs) e = by (c == quote) (c == backslash) (c == carriage_return) (plain_escaped cs) e
  where
    by : (q b r : Bool) → (list_all is_plain cs ≡ true → escaped cs ≡ cs) → (not q && not b && not r) && list_all is_plain cs ≡ true
        → cond (q || b) (backslash ∷ c ∷ []) (cond r (backslash ∷ 114 ∷ []) (c ∷ [])) ++ escaped cs ≡ c ∷ cs
    by false false false more f = ap (λ ds. c ∷ ds) (more f)
    by true b r more f = absurd (cc f)
    by false true r more f = absurd (cc f)
    by false false true more f = absurd (cc f)

-- an entry is its key, its value and a comma
pub entry_is : (key one later : List ℕ) → (key_written key ++ one) ++ 44 ∷ later ≡ entry_written key one later
entry_is key one later = append_assoc (key_written key) one (44 ∷ later) ∙ append_assoc (quoted key) (colon ∷ 32 ∷ []) (one ++ 44 ∷ later)

-- an entry is written: its key, its value and a comma
pub entry_step : (out d e f key one later whole : List ℕ) → d ≡ out ++ encode_utf8_all (key_written key) → e ≡ d ++ encode_utf8_all one
    → f ≡ e ++ encode_utf8 44
    → out ++ encode_utf8_all (entry_written key one later) ≡ whole → f ++ encode_utf8_all later ≡ whole
entry_step out d e f key one later whole g h i k =
    item_step out e f (key_written key ++ one) later whole 44 (grown out d e (key_written key) one g h) i
    (ap (λ cs. out ++ encode_utf8_all cs) (entry_is key one later) ∙ k)

-- ---- objects of four parts

-- a key, its value and a comma
pub part_put : (a b d e key value : List ℕ) → b ≡ a ++ encode_utf8_all (key_written key) → d ≡ b ++ encode_utf8_all value → e ≡ d ++ encode_utf8 44
    → e ≡ a ++ encode_utf8_all (part_written key value)
part_put a b d e key value f g h =
    grown a d e (key_written key ++ value) (44 ∷ []) (grown a b d (key_written key) value f g) (pushed d e 44 h)
    ∙ ap (λ cs. a ++ encode_utf8_all cs) (append_assoc (key_written key) value (44 ∷ []))

module _ {A E : Type 0} where
  pub on_part : (r : Result A E) (a b d e key value : List ℕ) → b ≡ a ++ encode_utf8_all (key_written key) → d ≡ b ++ encode_utf8_all value
      → e ≡ cond (is_ok r) (d ++ encode_utf8 44) d
      → OnOk r (e ≡ a ++ encode_utf8_all (part_written key value))
  on_part (Ok x) a b d e key value f g h = part_put a b d e key value f g h
  on_part (Err x) a b d e key value f g h = tt

pub part_is : (key value rest : List ℕ) → part_written key value ++ rest ≡ entry_written key value rest
part_is key value rest =
    append_assoc (key_written key) (value ++ 44 ∷ []) rest ∙ ap (λ s. key_written key ++ s) (append_assoc value (44 ∷ []) rest)
    ∙ append_assoc (quoted key) (colon ∷ 32 ∷ []) (value ++ 44 ∷ rest)

-- the texts before and behind each of four parts between braces
pub record Parts (a0 a1 a2 a3 a4 a5 p1 p2 p3 p4 : List ℕ) : Type 0 where
  pub opened : a1 ≡ a0 ++ encode_utf8 123
  pub first : a2 ≡ a1 ++ encode_utf8_all p1
  pub second : a3 ≡ a2 ++ encode_utf8_all p2
  pub third : a4 ≡ a3 ++ encode_utf8_all p3
  pub fourth : a5 ≡ a4 ++ encode_utf8_all p4

four_parts : (k1 v1 k2 v2 k3 v3 k4 v4 : List ℕ)
    → ((((123 ∷ part_written k1 v1) ++ part_written k2 v2) ++ part_written k3 v3) ++ part_written k4 v4) ++ 125 ∷ [] ≡ 123 ∷ entry_written k1 v1
    (entry_written k2 v2 (entry_written k3 v3 (entry_written k4 v4 (125 ∷ []))))
four_parts k1 v1 k2 v2 k3 v3 k4 v4 =
    let p1 = part_written k1 v1 in
    let p2 = part_written k2 v2 in
    let p3 = part_written k3 v3 in
    let p4 = part_written k4 v4 in
    let e4 = entry_written k4 v4 (125 ∷ []) in
    let e3 = entry_written k3 v3 e4 in
    append_assoc (((123 ∷ p1) ++ p2) ++ p3) p4 (125 ∷ []) ∙ ap (λ s. (((123 ∷ p1) ++ p2) ++ p3) ++ s) (part_is k4 v4 (125 ∷ []))
    ∙ append_assoc ((123 ∷ p1) ++ p2) p3 e4 ∙ ap (λ s. ((123 ∷ p1) ++ p2) ++ s) (part_is k3 v3 e4)
    ∙ append_assoc (123 ∷ p1) p2 e3 ∙ ap (λ s. 123 ∷ (p1 ++ s)) (part_is k2 v2 e3)
    ∙ ap (λ s. 123 ∷ s) (part_is k1 v1 (entry_written k2 v2 e3))

abbrev pub four_between : List ℕ → List ℕ → List ℕ → List ℕ → List ℕ → List ℕ → List ℕ → List ℕ → List ℕ
four_between k1 v1 k2 v2 k3 v3 k4 v4 = 123 ∷ entry_written k1 v1 (entry_written k2 v2 (entry_written k3 v3 (entry_written k4 v4 (125 ∷ []))))

pub parts_put : (a0 a1 a2 a3 a4 a5 a6 k1 v1 k2 v2 k3 v3 k4 v4 : List ℕ)
    → Parts a0 a1 a2 a3 a4 a5 (part_written k1 v1) (part_written k2 v2) (part_written k3 v3) (part_written k4 v4)
    → a6 ≡ a5 ++ encode_utf8 125 → a6 ≡ a0 ++ encode_utf8_all (four_between k1 v1 k2 v2 k3 v3 k4 v4)
parts_put a0 a1 a2 a3 a4 a5 a6 k1 v1 k2 v2 k3 v3 k4 v4 parts last =
    let p1 = part_written k1 v1 in
    let p2 = part_written k2 v2 in
    let p3 = part_written k3 v3 in
    let p4 = part_written k4 v4 in
    let s2 = grown a0 a1 a2 (123 ∷ []) p1 (pushed a0 a1 123 parts.opened) parts.first in
    let s3 = grown a0 a2 a3 (123 ∷ p1) p2 s2 parts.second in
    let s4 = grown a0 a3 a4 ((123 ∷ p1) ++ p2) p3 s3 parts.third in
    let s5 = grown a0 a4 a5 (((123 ∷ p1) ++ p2) ++ p3) p4 s4 parts.fourth in
    grown a0 a5 a6 ((((123 ∷ p1) ++ p2) ++ p3) ++ p4) (125 ∷ []) s5 (pushed a5 a6 125 last)
    ∙ ap (λ cs. a0 ++ encode_utf8_all cs) (four_parts k1 v1 k2 v2 k3 v3 k4 v4)

module _ {A E : Type 0} where
  pub on_parts : (r : Result A E) (a0 a1 a2 a3 a4 a5 a6 k1 v1 k2 v2 k3 v3 k4 v4 : List ℕ)
      → Parts a0 a1 a2 a3 a4 a5 (part_written k1 v1) (part_written k2 v2) (part_written k3 v3) (part_written k4 v4)
      → a6 ≡ cond (is_ok r) (a5 ++ encode_utf8 125) a5
      → OnOk r (a6 ≡ a0 ++ encode_utf8_all (four_between k1 v1 k2 v2 k3 v3 k4 v4))
  on_parts (Ok x) a0 a1 a2 a3 a4 a5 a6 k1 v1 k2 v2 k3 v3 k4 v4 parts last = parts_put a0 a1 a2 a3 a4 a5 a6 k1 v1 k2 v2 k3 v3 k4 v4 parts last
  on_parts (Err x) a0 a1 a2 a3 a4 a5 a6 k1 v1 k2 v2 k3 v3 k4 v4 parts last = tt
