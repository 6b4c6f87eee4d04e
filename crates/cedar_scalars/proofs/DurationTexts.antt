-- Durations as their texts say them.
use Rattle.std.proofs.Common.{◌≡◌, ◌≢◌, ◌↔◌, ℕ, ℤ, List, [], ◌∷◌, ◌++◌, length, ◌<◌, ◌+◌, ◌*◌, ◌&&◌, ◌==◌, nat_lt, not, drop, codes}
use Rattle.std.proofs.Common.{Bool, true, false, cond, Option, Some, None, option_map, refl, sym, ap, ◌∙◌, subst, append_assoc, arith}
use lib.ListN.{take-append-drop}
use Rattle.std.proofs.lemmas.Grind.{common_steps}
use Rattle.std.proofs.lemmas.Option.{none-some, cond_some, same_Some}
use Rattle.std.specs.List.{prefix_len}
use Rattle.std.specs.Char.{is_ascii_digit}
use Rattle.std.specs.Str.{all_ascii_digits}
use Rattle.cedar_scalars.specs.Digits.{number, digits_in_front, behind_digits, has_minus, without_minus, sign_text}
use Rattle.cedar_scalars.specs.Longs.{is_long, long_of, signed, long_of_parts}
use Rattle.cedar_scalars.specs.Durations.{begins_with_unit, has_unit, count_of, behind_unit, is_ms, count_of_milliseconds, from_seconds}
use Rattle.cedar_scalars.specs.Durations.{from_minutes, from_hours, from_days, magnitude, duration_of}
use Rattle.cedar_scalars.specs.TextRelations.{IsPart, left_out, counted, IsDurationText}
use Rattle.cedar_scalars.proofs.Longs.{long_is}
use Rattle.cedar_scalars.proofs.Spelling.{and_parts}
use Rattle.cedar_scalars.proofs.DecimalTexts.{digits_all, in_front, behind, same_byte, signed_apart, digit_is_no_sign}
use Rattle.cedar_scalars.proofs.Printing.{last_read}

-- ---- from the value to the words

begins_is : (unit : ℕ) (bs : List ℕ) → begins_with_unit unit bs ≡ true → bs ≡ unit ∷ drop 1 bs
begins_is unit [] e = cc
begins_is unit (b ∷ []) e = ap (λ x. x ∷ []) (same_byte b unit e)
begins_is unit (b ∷ c ∷ bs) e = ap (λ x. x ∷ c ∷ bs) (same_byte b unit (and_parts (b == unit) (not (b == 109 && c == 115)) e).0)

ms_is : (bs : List ℕ) → is_ms bs ≡ true → bs ≡ codes "ms"
ms_is (b ∷ c ∷ []) e =
    let parts = and_parts (b == 109) (c == 115) e in
    ap (λ x. x ∷ c ∷ []) (same_byte b 109 parts.0) ∙ ap (λ x. 109 ∷ x ∷ []) (same_byte c 115 parts.1)
ms_is [] e = cc
ms_is (b ∷ []) e = cc
ms_is (b ∷ c ∷ d ∷ bs) e = cc

-- the part that is read of a unit, and what is left
record Taken (unit : ℕ) (text : List ℕ) : Type 0 where
  front : List ℕ
  part : IsPart (unit ∷ []) front (count_of unit text)
  split : text ≡ front ++ behind_unit unit text

taken : (unit : ℕ) (text : List ℕ) → Taken unit text
taken unit text = by (has_unit unit text) refl
  where
    by : (t : Bool) → has_unit unit text ≡ t → Taken unit text
    by false e = record {
      front = [];
      part = subst (IsPart (unit ∷ []) []) (sym (ap (λ b. cond b (number (digits_in_front text)) 0) e)) left_out;
      split = sym (ap (λ b. cond b (drop 1 (behind_digits text)) text) e);
    }
    by true e =
        let parts = and_parts (nat_lt 0 (length (digits_in_front text))) (begins_with_unit unit (behind_digits text)) e in
        let some : 0 < length (digits_in_front text) = grind (arith, common_steps, parts.0) in
        record {
          front = digits_in_front text ++ unit ∷ [];
          part =
              subst (IsPart (unit ∷ []) (digits_in_front text ++ unit ∷ [])) (sym (ap (λ b. cond b (number (digits_in_front text)) 0) e))
              (counted (digits_in_front text) (digits_all text, some));
          split =
              sym (take-append-drop (prefix_len is_ascii_digit text) text)
              ∙ ap (λ r. digits_in_front text ++ r) (begins_is unit (behind_digits text) parts.1)
              ∙ sym (append_assoc (digits_in_front text) (unit ∷ []) (drop 1 (behind_digits text)))
              ∙ ap (λ r. (digits_in_front text ++ unit ∷ []) ++ r) (sym (ap (λ b. cond b (drop 1 (behind_digits text)) text) e));
        }

last_words : (text : List ℕ) (n : ℕ) → count_of_milliseconds text ≡ Some n → IsPart (codes "ms") text n
last_words [] n e = subst (IsPart (codes "ms") []) (same_Some 0 n e) left_out
last_words (b ∷ bs) n e =
    let text = b ∷ bs in
    let given = cond_some (nat_lt 0 (length (digits_in_front text)) && is_ms (behind_digits text)) (number (digits_in_front text)) n e in
    let parts = and_parts (nat_lt 0 (length (digits_in_front text))) (is_ms (behind_digits text)) given.0 in
    let some : 0 < length (digits_in_front text) = grind (arith, common_steps, parts.0) in
    let spelled : text ≡ digits_in_front text ++ codes "ms" =
    sym (take-append-drop (prefix_len is_ascii_digit text) text) ∙ ap (λ r. digits_in_front text ++ r) (ms_is (behind_digits text) parts.1) in
    subst (IsPart (codes "ms") text) given.1
    (subst (λ t. IsPart (codes "ms") t (number (digits_in_front text))) (sym spelled) (counted (digits_in_front text) (digits_all text, some)))

-- a sum of which the second part is there
opened : (o : Option ℕ) (c n : ℕ) → option_map (λ k. c + k) o ≡ Some n → (m : ℕ) × ((o ≡ Some m) × (c + m ≡ n))
opened None c n e = absurd (none-some n e)
opened (Some m) c n e = (m, (refl, same_Some (c + m) n e))

parts_read : (text : List ℕ) (n : ℤ) (negative : Bool) (t : List ℕ) → text ≡ sign_text negative ++ t → t ≢ [] → (all : ℕ) → from_days t ≡ Some all →
    long_of_parts negative (Some all) ≡ Some n → IsDurationText text n
parts_read text n negative t split some all e long_e =
    let d = taken 100 t in
    let t1 = behind_unit 100 t in
    let o1 = opened (from_hours t1) (count_of 100 t * 86400000) all e in
    let h = taken 104 t1 in
    let t2 = behind_unit 104 t1 in
    let o2 = opened (from_minutes t2) (count_of 104 t1 * 3600000) o1.0 o1.1.0 in
    let m = taken 109 t2 in
    let t3 = behind_unit 109 t2 in
    let o3 = opened (from_seconds t3) (count_of 109 t2 * 60000) o2.0 o2.1.0 in
    let s = taken 115 t3 in
    let t4 = behind_unit 115 t3 in
    let o4 = opened (count_of_milliseconds t4) (count_of 115 t3 * 1000) o3.0 o3.1.0 in
    let whole : t ≡ d.front ++ (h.front ++ (m.front ++ (s.front ++ t4))) =
    d.split ∙ ap (λ r. d.front ++ r) (h.split ∙ ap (λ r. h.front ++ r) (m.split ∙ ap (λ r. m.front ++ r) s.split)) in
    let sum : count_of 100 t * 86400000 + (count_of 104 t1 * 3600000 + (count_of 109 t2 * 60000 + (count_of 115 t3 * 1000 + o4.0))) ≡ all =
    ap (λ x. count_of 100 t * 86400000 + (count_of 104 t1 * 3600000 + (count_of 109 t2 * 60000 + x))) o4.1.1
    ∙ ap (λ x. count_of 100 t * 86400000 + (count_of 104 t1 * 3600000 + x)) o3.1.1
    ∙ ap (λ x. count_of 100 t * 86400000 + x) o2.1.1
    ∙ o1.1.1 in
    let long = cond_some (is_long (signed negative all)) (signed negative all) n long_e in
    record {
      negative = negative;
      days_text = d.front;
      hours_text = h.front;
      minutes_text = m.front;
      seconds_text = s.front;
      milliseconds_text = t4;
      d = count_of 100 t;
      h = count_of 104 t1;
      m = count_of 109 t2;
      s = count_of 115 t3;
      ms = o4.0;
      days = d.part;
      hours = h.part;
      minutes = m.part;
      seconds = s.part;
      milliseconds = last_words t4 o4.0 o4.1.0;
      some = λ none. some (whole ∙ none);
      spelled = split ∙ ap (λ r. sign_text negative ++ r) whole;
      value = sym long.1 ∙ ap (signed negative) (sym sum);
      long = subst (λ y. is_long y ≡ true) long.1 long.0;
    }

text_read : (text : List ℕ) (n : ℤ) (negative : Bool) (t : List ℕ) → text ≡ sign_text negative ++ t → long_of_parts negative (magnitude t) ≡ Some n → IsDurationText text n
text_read text n negative [] split e = absurd (none-some n e)
text_read text n negative (b ∷ bs) split e = by (from_days (b ∷ bs)) refl e
  where
    by : (o : Option ℕ) → from_days (b ∷ bs) ≡ o → long_of_parts negative o ≡ Some n → IsDurationText text n
    by None q e = absurd (none-some n e)
    by (Some all) q e = parts_read text n negative (b ∷ bs) split (λ none. (cc)) all q e

-- ---- from the words to the value

and_false : (a b : Bool) → b ≡ false → (a && b) ≡ false
and_false true b e = e
and_false false b e = refl

absent : (unit : ℕ) (text : List ℕ) → begins_with_unit unit (behind_digits text) ≡ false → has_unit unit text ≡ false
absent unit text e = and_false (nat_lt 0 (length (digits_in_front text))) (begins_with_unit unit (behind_digits text)) e

other : (unit u : ℕ) (rest : List ℕ) → (u == unit) ≡ false → begins_with_unit unit (u ∷ rest) ≡ false
other unit u [] e = e
other unit u (c ∷ cs) e = ap (λ b. b && not (u == 109 && c == 115)) e

-- a unit doesn't stand in front of a part of another one, where it doesn't stand behind that
not_here : (unit u : ℕ) (part rest : List ℕ) (n : ℕ) → (u == unit) ≡ false → is_ascii_digit u ≡ false → IsPart (u ∷ []) part n →
    has_unit unit rest ≡ false → has_unit unit (part ++ rest) ≡ false
not_here unit u part rest n apart letter left_out e = e
not_here unit u part rest n apart letter (counted ds h) e =
    ap (has_unit unit) (append_assoc ds (u ∷ []) rest)
    ∙ absent unit (ds ++ u ∷ rest) (ap (begins_with_unit unit) (behind ds u rest h.0 letter) ∙ other unit u rest apart)

not_last : (unit : ℕ) (part : List ℕ) (n : ℕ) → begins_with_unit unit (codes "ms") ≡ false → IsPart (codes "ms") part n → has_unit unit part ≡ false
not_last unit part n e left_out = refl
not_last unit part n e (counted ds h) = absent unit (ds ++ codes "ms") (ap (begins_with_unit unit) (behind ds 109 (115 ∷ []) h.0 refl) ∙ e)

-- a part is read whole
present : (unit : ℕ) (part rest : List ℕ) (n : ℕ) → is_ascii_digit unit ≡ false → begins_with_unit unit (unit ∷ rest) ≡ true → has_unit unit rest ≡ false →
    IsPart (unit ∷ []) part n → (count_of unit (part ++ rest) ≡ n) × (behind_unit unit (part ++ rest) ≡ rest)
present unit part rest n letter ends none left_out =
    (ap (λ b. cond b (number (digits_in_front rest)) 0) none, ap (λ b. cond b (drop 1 (behind_digits rest)) rest) none)
present unit part rest n letter ends none (counted ds h) =
    let text = ds ++ unit ∷ rest in
    let same : (ds ++ unit ∷ []) ++ rest ≡ text = append_assoc ds (unit ∷ []) rest in
    let front : digits_in_front text ≡ ds = in_front ds unit rest h.0 letter in
    let back : behind_digits text ≡ unit ∷ rest = behind ds unit rest h.0 letter in
    let some : nat_lt 0 (length ds) ≡ true = grind (arith, common_steps, h.1) in
    let has : has_unit unit text ≡ true =
    ap (λ t. nat_lt 0 (length t) && begins_with_unit unit (behind_digits text)) front
    ∙ ap (λ t. nat_lt 0 (length ds) && begins_with_unit unit t) back
    ∙ ap (λ b. b && begins_with_unit unit (unit ∷ rest)) some
    ∙ ends in
    let count : count_of unit text ≡ number ds = ap (λ b. cond b (number (digits_in_front text)) 0) has ∙ ap number front in
    let left : behind_unit unit text ≡ rest = ap (λ b. cond b (drop 1 (behind_digits text)) text) has ∙ ap (drop 1) back in
    (ap (count_of unit) same ∙ count, ap (behind_unit unit) same ∙ left)

added : (unit weight : ℕ) (text rest : List ℕ) (further : List ℕ → Option ℕ) (n m : ℕ) → (count_of unit text ≡ n) × (behind_unit unit text ≡ rest) →
    further rest ≡ Some m → option_map (λ k. count_of unit text * weight + k) (further (behind_unit unit text)) ≡ Some (n * weight + m)
added unit weight text rest further n m is e =
    ap (λ t. option_map (λ k. count_of unit text * weight + k) (further t)) is.1
    ∙ ap (option_map (λ k. count_of unit text * weight + k)) e
    ∙ ap (λ c. Some (c * weight + m)) is.0

-- what stands in front is a digit
abbrev starts : List ℕ → Bool
starts [] = true
starts (b ∷ bs) = is_ascii_digit b

starts_part : (unit part rest : List ℕ) (n : ℕ) → IsPart unit part n → starts rest ≡ true → starts (part ++ rest) ≡ true
starts_part unit part rest n left_out e = e
starts_part unit part rest n (counted [] h) e = absurd (omega (arith, h.1))
starts_part unit part rest n (counted (d ∷ ds) h) e = (and_parts (is_ascii_digit d) (all_ascii_digits ds) h.0).0

starts_last : (part : List ℕ) (n : ℕ) → IsPart (codes "ms") part n → starts part ≡ true
starts_last part n left_out = refl
starts_last part n (counted [] h) = absurd (omega (arith, h.1))
starts_last part n (counted (d ∷ ds) h) = (and_parts (is_ascii_digit d) (all_ascii_digits ds) h.0).0

days_end : (rest : List ℕ) → begins_with_unit 100 (100 ∷ rest) ≡ true
days_end [] = refl
days_end (c ∷ cs) = refl

hours_end : (rest : List ℕ) → begins_with_unit 104 (104 ∷ rest) ≡ true
hours_end [] = refl
hours_end (c ∷ cs) = refl

minutes_end : (rest : List ℕ) → starts rest ≡ true → begins_with_unit 109 (109 ∷ rest) ≡ true
minutes_end [] e = refl
minutes_end (c ∷ cs) e = let other : (c == 115) ≡ false = grind (arith, common_steps, e) in ap not other

seconds_end : (rest : List ℕ) → begins_with_unit 115 (115 ∷ rest) ≡ true
seconds_end [] = refl
seconds_end (c ∷ cs) = refl

last_is : (part : List ℕ) (n : ℕ) → IsPart (codes "ms") part n → count_of_milliseconds part ≡ Some n
last_is part n left_out = refl
last_is part n (counted ds h) = last_read ds h

magnitude_is : (t : List ℕ) → t ≢ [] → magnitude t ≡ from_days t
magnitude_is [] some = absurd (some refl)
magnitude_is (b ∷ bs) some = refl

sign_off : (negative : Bool) (t : List ℕ) → starts t ≡ true → t ≢ [] → duration_of (sign_text negative ++ t) ≡ long_of_parts negative (magnitude t)
sign_off true t e some = refl
sign_off false [] e some = absurd (some refl)
sign_off false (b ∷ bs) e some = ap (λ c. long_of_parts c (magnitude (cond c bs (b ∷ bs)))) (digit_is_no_sign b e)

words_read : (text : List ℕ) (n : ℤ) → IsDurationText text n → duration_of text ≡ Some n
words_read text n x =
    let t4 = x.milliseconds_text in
    let t3 = x.seconds_text ++ t4 in
    let t2 = x.minutes_text ++ t3 in
    let t1 = x.hours_text ++ t2 in
    let t = x.days_text ++ t1 in
    let last = x.milliseconds in
    let begins4 = starts_last t4 x.ms last in
    let begins3 = starts_part (codes "s") x.seconds_text t4 x.s x.seconds begins4 in
    let begins2 = starts_part (codes "m") x.minutes_text t3 x.m x.minutes begins3 in
    let begins1 = starts_part (codes "h") x.hours_text t2 x.h x.hours begins2 in
    let begins = starts_part (codes "d") x.days_text t1 x.d x.days begins1 in
    let no_seconds4 = not_last 115 t4 x.ms refl last in
    let no_minutes3 = not_here 109 115 x.seconds_text t4 x.s refl refl x.seconds (not_last 109 t4 x.ms refl last) in
    let no_hours3 = not_here 104 115 x.seconds_text t4 x.s refl refl x.seconds (not_last 104 t4 x.ms refl last) in
    let no_hours2 = not_here 104 109 x.minutes_text t3 x.m refl refl x.minutes no_hours3 in
    let no_days3 = not_here 100 115 x.seconds_text t4 x.s refl refl x.seconds (not_last 100 t4 x.ms refl last) in
    let no_days2 = not_here 100 109 x.minutes_text t3 x.m refl refl x.minutes no_days3 in
    let no_days1 = not_here 100 104 x.hours_text t2 x.h refl refl x.hours no_days2 in
    let seconds = added 115 1000 t3 t4 count_of_milliseconds x.s x.ms (present 115 x.seconds_text t4 x.s refl (seconds_end t4) no_seconds4 x.seconds) (last_is t4 x.ms last) in
    let minutes = added 109 60000 t2 t3 from_seconds x.m _ (present 109 x.minutes_text t3 x.m refl (minutes_end t3 begins3) no_minutes3 x.minutes) seconds in
    let hours = added 104 3600000 t1 t2 from_minutes x.h _ (present 104 x.hours_text t2 x.h refl (hours_end t2) no_hours2 x.hours) minutes in
    let days = added 100 86400000 t t1 from_hours x.d _ (present 100 x.days_text t1 x.d refl (days_end t1) no_days1 x.days) hours in
    ap duration_of x.spelled
    ∙ sign_off x.negative t begins x.some
    ∙ ap (long_of_parts x.negative) (magnitude_is t x.some ∙ days)
    ∙ ap long_of (sym x.value)
    ∙ long_is n x.long

pub durations_read : (text : List ℕ) (n : ℤ) → (duration_of text ≡ Some n) ↔ IsDurationText text n
durations_read text n = (text_read text n (has_minus text) (without_minus text) (signed_apart text), words_read text n)
