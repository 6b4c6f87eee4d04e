-- What stands between quotes, by its bytes and by its characters.
use Rattle.std.proofs.Common.{◌≡◌, ℕ, zero, suc, ◌+◌, ◌<◌, ◌≤◌, Bool, true, false, List, [], ◌∷◌, ◌++◌, length, take, drop, get_or, Option, Some, None, refl, sym, ap, ◌∙◌, subst, arith, append-nil, length-append, length-drop, lt_of_not-le}
use Rattle.std.specs.Prelude.{cond, ◌==◌, nat_lt, encode_utf8, encode_utf8_all}
use Rattle.std.specs.Option.{option_map}
use Rattle.std.specs.Str.{chars, IsUtf8}
use Rattle.std.proofs.Math.Seq.{drop-append_seam, take-append_seam}
use Rattle.std.proofs.lemmas.Bool.{eq-eqb, ne_eqb, eqb-true}
use Rattle.std.proofs.lemmas.Bool.Decides.{nat_tests}
use Rattle.std.proofs.lemmas.Str.{encode_ascii, length-encode, len_utf8_bounds, encodes-chars, encodes-append, chars_from_encodes, inside_one, IsCharBoundary-before_ascii, IsUtf8-take, IsUtf8-drop}
use Rattle.cedar_grammar.specs.Tokens.{quote, backslash, line_feed, Inside, closes, plain, escaped, Front, is_text}
use Rattle.cedar_grammar.specs.Token.{text}
use Rattle.cedar_data.specs.Quoted.{IsInside}
use Rattle.cedar_data.specs.Takes.{Takes}
use Rattle.cedar_data.proofs.Ascii.{begins}
use Rattle.cedar_data.proofs.Tokens.{in_front}

-- ---- the place of the closing quote, by bytes

-- how many bytes stand before the closing quote, behind a backslash or not
abbrev pub quote_at : Bool → List ℕ → Option ℕ
quote_at is_escaped [] = None
quote_at true (b ∷ bs) = cond (b == line_feed) None (option_map suc (quote_at false bs))
quote_at false (b ∷ bs) = cond (b == quote) (Some 0) (option_map suc (quote_at (b == backslash) bs))

-- so many bytes, and then those
abbrev pub further : ℕ → Option ℕ → Option ℕ
further n o = option_map (λ m. n + m) o

further-zero : (o : Option ℕ) → o ≡ further 0 o
further-zero None = refl
further-zero (Some m) = ap Some (omega arith)

further-suc : (n : ℕ) (o : Option ℕ) → option_map suc (further n o) ≡ further (suc n) o
further-suc n None = refl
further-suc n (Some m) = ap Some (omega arith)

-- bytes of characters that aren't ASCII
abbrev AreWide : List ℕ → Type 0
AreWide xs = (k : ℕ) → k < length xs → 128 ≤ get_or xs k 0

wide_rest : (x : ℕ) (xs : List ℕ) → AreWide (x ∷ xs) → AreWide xs
wide_rest x xs wide k lt = wide (suc k) (omega arith)

byte_passed : (b : ℕ) (bs : List ℕ) → (b ≡ quote → ⊥) → (b ≡ backslash → ⊥) → quote_at false (b ∷ bs) ≡ option_map suc (quote_at false bs)
byte_passed b bs e f = rw (ne_eqb b quote e, ne_eqb b backslash f) refl

wide_passed : (xs bs : List ℕ) → AreWide xs → quote_at false (xs ++ bs) ≡ further (length xs) (quote_at false bs)
wide_passed [] bs wide = further-zero (quote_at false bs)
wide_passed (x ∷ xs) bs wide =
    let big = wide 0 (omega arith) in
    byte_passed x (xs ++ bs) (λ e. omega arith) (λ e. omega arith) ∙ ap (option_map suc) (wide_passed xs bs (wide_rest x xs wide)) ∙ further-suc (length xs) (quote_at false bs)

escaped_passed : (b : ℕ) (bs : List ℕ) → (b ≡ line_feed → ⊥) → quote_at true (b ∷ bs) ≡ option_map suc (quote_at false bs)
escaped_passed b bs e = rw (ne_eqb b line_feed e) refl

-- ---- of a character

character_wide : (c : ℕ) → 128 ≤ c → AreWide (encode_utf8 c)
character_wide c big k lt =
    let more : 127 < get_or (encode_utf8 c) k 0 =
    lt_of_not-le (λ past. let same = inside_one c [] (encode_utf8 c) k (sym (append-nil (encode_utf8 c))) lt (omega arith) in omega arith)
    in
    omega arith

-- one that is neither a quote nor a backslash is passed
character_passed : (c : ℕ) (bs : List ℕ) → (c ≡ quote → ⊥) → (c ≡ backslash → ⊥) → quote_at false (encode_utf8 c ++ bs) ≡ further (length (encode_utf8 c)) (quote_at false bs)
character_passed c bs e f = by (nat_lt c 128) refl
  where
    by : (t : Bool) → nat_lt c 128 ≡ t → quote_at false (encode_utf8 c ++ bs) ≡ further (length (encode_utf8 c)) (quote_at false bs)
    by true h =
        let small : c < 128 = grind (arith, nat_tests) in
        subst (λ x. quote_at false (x ++ bs) ≡ further (length x) (quote_at false bs)) (sym (encode_ascii c small))
        (byte_passed c bs e f ∙ ap (option_map suc) (further-zero (quote_at false bs)) ∙ further-suc 0 (quote_at false bs))
    by false h = wide_passed (encode_utf8 c) bs (character_wide c (grind (arith, nat_tests)))

-- behind a backslash any is, but for a line feed
wide_escaped : (xs bs : List ℕ) → 0 < length xs → AreWide xs → quote_at true (xs ++ bs) ≡ further (length xs) (quote_at false bs)
wide_escaped [] bs some wide = absurd (omega arith)
wide_escaped (x ∷ xs) bs some wide =
    let big = wide 0 (omega arith) in
    escaped_passed x (xs ++ bs) (λ e. omega arith) ∙ ap (option_map suc) (wide_passed xs bs (wide_rest x xs wide)) ∙ further-suc (length xs) (quote_at false bs)

escape_passed : (d : ℕ) (bs : List ℕ) → (d ≡ line_feed → ⊥) → quote_at true (encode_utf8 d ++ bs) ≡ further (length (encode_utf8 d)) (quote_at false bs)
escape_passed d bs e = by (nat_lt d 128) refl
  where
    by : (t : Bool) → nat_lt d 128 ≡ t → quote_at true (encode_utf8 d ++ bs) ≡ further (length (encode_utf8 d)) (quote_at false bs)
    by true h =
        let small : d < 128 = grind (arith, nat_tests) in
        subst (λ x. quote_at true (x ++ bs) ≡ further (length x) (quote_at false bs)) (sym (encode_ascii d small))
        (escaped_passed d bs e ∙ ap (option_map suc) (further-zero (quote_at false bs)) ∙ further-suc 0 (quote_at false bs))
    by false h = wide_escaped (encode_utf8 d) bs (let long = length-encode d in let some = len_utf8_bounds d in omega (arith, some.0)) (character_wide d (grind (arith, nat_tests)))

-- ---- the string that is closed there

-- the characters are the inside of a string and what follows it, or of none
data Outcome (cs : List ℕ) : Option ℕ → Type 0 where
  closed : {raw rest : List ℕ} → Inside cs raw rest → Outcome cs (Some (length (encode_utf8_all raw)))
  unclosed : ((raw rest : List ℕ) → Inside cs raw rest → ⊥) → Outcome cs None

length_more : (c : ℕ) (cs : List ℕ) → length (encode_utf8_all (c ∷ cs)) ≡ length (encode_utf8 c) + length (encode_utf8_all cs)
length_more c cs = length-append (encode_utf8 c) (encode_utf8_all cs)

not_plain : (c : ℕ) (cs raw rest : List ℕ) → (c ≡ quote → ⊥) → (c ≡ backslash → ⊥) → ((more after : List ℕ) → Inside cs more after → ⊥) → Inside (c ∷ cs) raw rest → ⊥
not_plain c cs raw rest e f none (closes x same) = e same
not_plain c cs raw rest e f none (plain x g h inside) = none _ rest inside
not_plain c cs raw rest e f none (escaped x d same g inside) = f same

plain_outcome : (c : ℕ) (cs : List ℕ) (o : Option ℕ) → (c ≡ quote → ⊥) → (c ≡ backslash → ⊥) → Outcome cs o → Outcome (c ∷ cs) (further (length (encode_utf8 c)) o)
plain_outcome c cs o e f (closed {raw = raw} {rest = rest} inside) =
    subst (λ n. Outcome (c ∷ cs) (Some n)) (length_more c raw) (closed (plain c (ne_eqb c quote e) (ne_eqb c backslash f) inside))
plain_outcome c cs o e f (unclosed none) = unclosed (λ raw rest. not_plain c cs raw rest e f none)

not_escaped : (c d : ℕ) (cs raw rest : List ℕ) → c ≡ backslash → ((more after : List ℕ) → Inside cs more after → ⊥) → Inside (c ∷ d ∷ cs) raw rest → ⊥
not_escaped c d cs raw rest e none (closes x same) = let no : quote ≡ backslash = sym same ∙ e in omega arith
not_escaped c d cs raw rest e none (plain x g h inside) = let no : true ≡ false = sym (eq-eqb c backslash e) ∙ h in cc
not_escaped c d cs raw rest e none (escaped x y same g inside) = none _ rest inside

escape_outcome : (c d : ℕ) (cs : List ℕ) (o : Option ℕ) → c ≡ backslash → (d ≡ line_feed → ⊥) → Outcome cs o → Outcome (c ∷ d ∷ cs) (option_map suc (further (length (encode_utf8 d)) o))
escape_outcome c d cs o e f (closed {raw = raw} {rest = rest} inside) =
    let long : length (encode_utf8_all (c ∷ d ∷ raw)) ≡ suc (length (encode_utf8 d) + length (encode_utf8_all raw)) =
    let one : length (encode_utf8 c) ≡ 1 = ap length (encode_ascii c (omega arith)) in
    let more = length_more c (d ∷ raw) in
    let behind = length_more d raw in
    omega arith
    in
    subst (λ n. Outcome (c ∷ d ∷ cs) (Some n)) long (closed (escaped c d e (ne_eqb d line_feed f) inside))
escape_outcome c d cs o e f (unclosed none) = unclosed (λ raw rest. not_escaped c d cs raw rest e none)

nothing_inside : (raw rest : List ℕ) → Inside [] raw rest → ⊥
nothing_inside raw rest inside = by [] raw rest inside refl
  where
    by : (cs raw rest : List ℕ) → Inside cs raw rest → cs ≡ [] → ⊥
    by cs raw rest (closes x same) e = cc e
    by cs raw rest (plain x g h more) e = cc e
    by cs raw rest (escaped x d same g more) e = cc e

-- where the text ends behind a backslash, or a line feed stands there
ends_open : (c : ℕ) (raw rest : List ℕ) → c ≡ backslash → Inside (c ∷ []) raw rest → ⊥
ends_open c raw rest e inside = by (c ∷ []) raw rest inside refl
  where
    by : (cs raw rest : List ℕ) → Inside cs raw rest → cs ≡ c ∷ [] → ⊥
    by cs raw rest (closes x same) k = let one : x ≡ c = cc k in let no : quote ≡ backslash = sym same ∙ one ∙ e in omega arith
    by cs raw rest (plain x g h more) k = let one : x ≡ c = cc k in let no : true ≡ false = sym (eq-eqb x backslash (one ∙ e)) ∙ h in cc
    by cs raw rest (escaped x d same g more) k = cc k

feed_open : (c d : ℕ) (cs raw rest : List ℕ) → c ≡ backslash → d ≡ line_feed → Inside (c ∷ d ∷ cs) raw rest → ⊥
feed_open c d cs raw rest e f (closes x same) = let no : quote ≡ backslash = sym same ∙ e in omega arith
feed_open c d cs raw rest e f (plain x g h inside) = let no : true ≡ false = sym (eq-eqb c backslash e) ∙ h in cc
feed_open c d cs raw rest e f (escaped x y same g inside) = let no : true ≡ false = sym (eq-eqb d line_feed f) ∙ g in cc

at_backslash : (c : ℕ) (bs : List ℕ) → c ≡ backslash → quote_at false (encode_utf8 c ++ bs) ≡ option_map suc (quote_at true bs)
at_backslash c bs e =
    ap (λ x. quote_at false (x ++ bs)) (encode_ascii c (omega arith))
    ∙ rw (ne_eqb c quote (λ q. let no : quote ≡ backslash = sym q ∙ e in omega arith), eq-eqb c backslash e) refl

at_escaped : (c d : ℕ) (cs : List ℕ) → c ≡ backslash → Outcome cs (quote_at false (encode_utf8_all cs)) → (t : Bool) → (d == line_feed) ≡ t
    → Outcome (c ∷ d ∷ cs) (quote_at false (encode_utf8_all (c ∷ d ∷ cs)))
at_escaped c d cs e others true f =
    let is = eqb-true d line_feed f in
    let none : quote_at true (encode_utf8_all (d ∷ cs)) ≡ None = ap (λ x. quote_at true (x ++ encode_utf8_all cs)) (encode_ascii d (omega arith)) ∙ rw f refl in
    subst (Outcome (c ∷ d ∷ cs)) (sym (at_backslash c (encode_utf8_all (d ∷ cs)) e ∙ ap (option_map suc) none)) (unclosed (λ raw rest. feed_open c d cs raw rest e is))
at_escaped c d cs e others false f =
    let other : d ≡ line_feed → ⊥ = λ is. let no : true ≡ false = sym (eq-eqb d line_feed is) ∙ f in cc in
    subst (Outcome (c ∷ d ∷ cs)) (sym (at_backslash c (encode_utf8_all (d ∷ cs)) e ∙ ap (option_map suc) (escape_passed d (encode_utf8_all cs) other)))
    (escape_outcome c d cs (quote_at false (encode_utf8_all cs)) e other others)

at_character : (c : ℕ) (cs : List ℕ) → Outcome cs (quote_at false (encode_utf8_all cs)) → (c ≡ backslash → Outcome (c ∷ cs) (quote_at false (encode_utf8_all (c ∷ cs))))
    → (s t : Bool) → (c == quote) ≡ s → (c == backslash) ≡ t → Outcome (c ∷ cs) (quote_at false (encode_utf8_all (c ∷ cs)))
at_character c cs others behind true t e f =
    let is = eqb-true c quote e in
    let zero_at : quote_at false (encode_utf8_all (c ∷ cs)) ≡ Some 0 = ap (λ x. quote_at false (x ++ encode_utf8_all cs)) (encode_ascii c (omega arith)) ∙ rw e refl in
    subst (Outcome (c ∷ cs)) (sym zero_at) (closed (closes c is))
at_character c cs others behind false true e f = behind (eqb-true c backslash f)
at_character c cs others behind false false e f =
    let no_quote : c ≡ quote → ⊥ = λ is. let no : true ≡ false = sym (eq-eqb c quote is) ∙ e in cc in
    let no_backslash : c ≡ backslash → ⊥ = λ is. let no : true ≡ false = sym (eq-eqb c backslash is) ∙ f in cc in
    subst (Outcome (c ∷ cs)) (sym (character_passed c (encode_utf8_all cs) no_quote no_backslash))
    (plain_outcome c cs (quote_at false (encode_utf8_all cs)) no_quote no_backslash others)

-- what the bytes tell of the characters, and of those behind a backslash
outcomes : (cs : List ℕ) → Outcome cs (quote_at false (encode_utf8_all cs)) × ((c : ℕ) → c ≡ backslash → Outcome (c ∷ cs) (quote_at false (encode_utf8_all (c ∷ cs))))
outcomes [] = (unclosed nothing_inside, λ c e. subst (Outcome (c ∷ [])) (sym (at_backslash c [] e)) (unclosed (λ raw rest. ends_open c raw rest e)))
outcomes (c ∷ cs) =
    let behind = outcomes cs in
    (at_character c cs behind.0 (behind.1 c) (c == quote) (c == backslash) refl refl, λ b e. at_escaped b c cs e behind.0 (c == line_feed) refl)

-- ---- of a text

pub never_closed : (bs : List ℕ) → IsUtf8 bs → quote_at false bs ≡ None → (raw rest : List ℕ) → Inside (chars bs) raw rest → ⊥
never_closed bs u e raw rest inside = by (quote_at false bs) (subst (λ x. Outcome (chars bs) (quote_at false x)) (encodes-chars bs u) ((outcomes (chars bs)).0)) e
  where
    by : (o : Option ℕ) → Outcome (chars bs) o → o ≡ None → ⊥
    by o (closed found) k = cc k
    by o (unclosed none) k = none raw rest inside

inside_parts : (cs raw rest : List ℕ) → Inside cs raw rest → cs ≡ raw ++ quote ∷ rest
inside_parts cs raw rest (closes c e) = ap (λ x. x ∷ rest) e
inside_parts cs raw rest (plain c {cs = ds} {raw = more} e f inside) = ap (λ x. c ∷ x) (inside_parts ds more rest inside)
inside_parts cs raw rest (escaped c d {cs = ds} {raw = more} e f inside) = ap (λ x. c ∷ d ∷ x) (inside_parts ds more rest inside)

abbrev no_bytes : List ℕ
no_bytes = []

drop_none : (n : ℕ) → drop n no_bytes ≡ no_bytes
drop_none zero = refl
drop_none (suc n) = refl

seen : (bs raw rest : List ℕ) → IsUtf8 bs → Inside (chars bs) raw rest → IsInside (length (encode_utf8_all raw)) bs
seen bs raw rest u inside =
    let front = encode_utf8_all raw in
    let back = encode_utf8_all rest in
    let parts : bs ≡ front ++ quote ∷ back =
    sym (encodes-chars bs u) ∙ ap encode_utf8_all (inside_parts (chars bs) raw rest inside) ∙ encodes-append raw (quote ∷ rest) ∙ ap (λ x. front ++ (x ++ back)) (encode_ascii quote (omega arith))
    in
    let long : length bs ≡ length front + suc (length back) = ap length parts ∙ length-append front (quote ∷ back) in
    let taken : take (length front) bs ≡ front = ap (take (length front)) parts ∙ take-append_seam front (quote ∷ back) in
    let dropped : drop (length front) bs ≡ quote ∷ back = ap (drop (length front)) parts ∙ drop-append_seam front (quote ∷ back) in
    let behind : drop (suc (length front)) bs ≡ back = drop_more (length front) bs quote back dropped in
    let here : get_or bs (length front) 0 ≡ quote = first_of (length front) bs quote back dropped in
    let at = IsCharBoundary-before_ascii bs (length front) (omega arith) (omega arith) in
    let utf8 = IsUtf8-take bs (length front) u at in
    let after = (begins quote back (omega arith) (subst IsUtf8 dropped (IsUtf8-drop bs (length front) u at))).utf8 in
    let one : raw ≡ chars (take (length front) bs) = chars_from_encodes raw (take (length front) bs) utf8 (sym taken) in
    let two : rest ≡ chars (drop (suc (length front)) bs) = chars_from_encodes rest back after refl ∙ ap chars (sym behind) in
    record { closes = here; within = omega arith; inside = subst (λ x. Inside (chars bs) x (chars (drop (suc (length front)) bs))) one (subst (λ x. Inside (chars bs) raw x) two inside) }
  where
    drop_more : (n : ℕ) (xs : List ℕ) (y : ℕ) (ys : List ℕ) → drop n xs ≡ y ∷ ys → drop (suc n) xs ≡ ys
    drop_more n [] y ys e = absurd (cc (sym (drop_none n) ∙ e))
    drop_more zero (x ∷ xs) y ys e = cc e
    drop_more (suc n) (x ∷ xs) y ys e = drop_more n xs y ys e

    first_of : (n : ℕ) (xs : List ℕ) (y : ℕ) (ys : List ℕ) → drop n xs ≡ y ∷ ys → get_or xs n 0 ≡ y
    first_of n [] y ys e = absurd (cc (sym (drop_none n) ∙ e))
    first_of zero (x ∷ xs) y ys e = cc e
    first_of (suc n) (x ∷ xs) y ys e = first_of n xs y ys e

pub closed_at : (bs : List ℕ) (n : ℕ) → IsUtf8 bs → quote_at false bs ≡ Some n → IsInside n bs
closed_at bs n u e = by (quote_at false bs) (subst (λ x. Outcome (chars bs) (quote_at false x)) (encodes-chars bs u) ((outcomes (chars bs)).0)) e
  where
    by : (o : Option ℕ) → Outcome (chars bs) o → o ≡ Some n → IsInside n bs
    by o (closed {raw = raw} {rest = rest} found) k = subst (λ m. IsInside m bs) (cc k) (seen bs raw rest u found)
    by o (unclosed none) k = absurd (cc k)

-- ---- on the way

next_byte : (bs : List ℕ) (i : ℕ) → i < length bs → drop i bs ≡ get_or bs i 0 ∷ drop (suc i) bs
next_byte [] i lt = absurd (omega arith)
next_byte (b ∷ bs) zero lt = refl
next_byte (b ∷ bs) (suc i) lt = next_byte bs i (omega arith)

-- a line feed stands behind a backslash
pub fed : (bs : List ℕ) (i : ℕ) (is_escaped : Bool) → quote_at false bs ≡ further i (quote_at is_escaped (drop i bs)) → i < length bs → is_escaped ≡ true → get_or bs i 0 ≡ line_feed → quote_at false bs ≡ None
fed bs i is_escaped so lt e f =
    so ∙ ap (λ x. further i (quote_at x (drop i bs))) e ∙ ap (λ x. further i (quote_at true x)) (next_byte bs i lt)
    ∙ ap (λ t. further i (cond t None (option_map suc (quote_at false (drop (suc i) bs))))) (eq-eqb (get_or bs i 0) line_feed f)

-- a quote stands behind no backslash
pub quoted : (bs : List ℕ) (i : ℕ) (is_escaped : Bool) → quote_at false bs ≡ further i (quote_at is_escaped (drop i bs)) → i < length bs → is_escaped ≡ false → get_or bs i 0 ≡ quote → quote_at false bs ≡ Some i
quoted bs i is_escaped so lt e f =
    so ∙ ap (λ x. further i (quote_at x (drop i bs))) e ∙ ap (λ x. further i (quote_at false x)) (next_byte bs i lt)
    ∙ ap (λ t. further i (cond t (Some 0) (option_map suc (quote_at (get_or bs i 0 == backslash) (drop (suc i) bs))))) (eq-eqb (get_or bs i 0) quote f) ∙ ap Some (omega arith)

-- nothing is left
pub ended : (bs : List ℕ) (i : ℕ) (is_escaped : Bool) → quote_at false bs ≡ further i (quote_at is_escaped (drop i bs)) → length bs ≤ i → quote_at false bs ≡ None
ended bs i is_escaped so past = so ∙ ap (λ x. further i (quote_at is_escaped x)) (drop_past bs i past)
  where
    drop_past : (xs : List ℕ) (n : ℕ) → length xs ≤ n → drop n xs ≡ []
    drop_past [] n le = drop_none n
    drop_past (x ∷ xs) zero le = absurd (omega arith)
    drop_past (x ∷ xs) (suc n) le = drop_past xs n (omega arith)

-- ---- the token

-- what follows a quote, cut at the one that closes the string
pub record IsCut (bs raw rest : List ℕ) : Type 0 where
  pub takes : Takes (text (chars raw)) bs (drop 1 rest)
  pub closing : get_or rest 0 0 ≡ quote
  pub utf8 : IsUtf8 rest

pub cut : (bs : List ℕ) (n : ℕ) → IsUtf8 bs → get_or bs 0 0 ≡ quote → IsInside n (drop 1 bs) → (raw rest : List ℕ) → raw ≡ take n (drop 1 bs) → rest ≡ drop n (drop 1 bs) → IsCut bs raw rest
cut [] n u first is raw rest front back = absurd (omega arith)
cut (b ∷ bs) n u first is raw rest front back =
    let head = begins b bs (omega arith) u in
    let at = IsCharBoundary-before_ascii bs n is.within (let here = is.closes in omega arith) in
    let utf8 = subst IsUtf8 (sym back) (IsUtf8-drop bs n head.utf8 at) in
    let closing : get_or rest 0 0 ≡ quote = ap (λ x. get_or x 0 0) (back ∙ next_byte bs n is.within) ∙ is.closes in
    let after : drop 1 rest ≡ drop (suc n) bs = ap (drop 1) (back ∙ next_byte bs n is.within) in
    let behind : IsUtf8 (drop (suc n) bs) = (begins (get_or bs n 0) (drop (suc n) bs) (let here = is.closes in omega arith) (subst IsUtf8 (next_byte bs n is.within) (IsUtf8-drop bs n head.utf8 at))).utf8 in
    let here : Front (chars (b ∷ bs)) (text (chars raw)) (chars (drop (suc n) bs)) =
    subst (λ cs. Front cs (text (chars raw)) (chars (drop (suc n) bs))) (sym head.characters)
    (is_text b first (subst (λ x. Inside (chars bs) (chars x) (chars (drop (suc n) bs))) (sym front) is.inside))
    in
    record {
      takes = subst (Takes (text (chars raw)) (b ∷ bs)) (sym after) (in_front (text (chars raw)) (b ∷ bs) (drop (suc n) bs) here (let short = length-drop (suc n) bs in omega arith) behind);
      closing = closing;
      utf8 = utf8;
    }
