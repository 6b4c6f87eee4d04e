-- What stands round the first space, and what digits spell.
use Rattle.std.proofs.Common.{◌≡◌, ℕ, List, [], ◌∷◌, ◌++◌, length, ◌<◌, ◌≤◌, ◌+◌, ◌-◌, ◌*◌, ◌^◌, ◌==◌, ◌&&◌, take, drop, get_or, zero, suc, add-one, pow-suc, append_assoc, refl, sym, ap, ◌∙◌, Bool, true, false, not, ◌||◌, nat_le, slice_index, arith, if◌then◌else◌}
use Rattle.std.proofs.lemmas.List.{take_more, take-append-drop}
use Rattle.std.proofs.lemmas.Grind.{common_steps}
use Rattle.std.proofs.Math.Nat.{pow-le-pow_right}
use Rattle.std.specs.Char.{is_ascii_digit}
use Rattle.std.specs.Str.{all_ascii_digits}
use Rattle.cedar_frames.proofs.Bytes.{tail_is_drop}
use Rattle.cedar_frames.specs.Heads.{verb_name, IsHead, lacks, number_after, number_of, is_numeral}
use Rattle.cedar_frames.specs.declared.verb.Verb.{Verb}
use Rattle.cedar_frames.specs.declared.verb.Verb.TheVariants.{Load, Link, Unlink, RemoveStatic, RemoveTemplate, Add, Put, Remove, Ask, Tell}

pub and_parts : (a b : Bool) → (a && b) ≡ true → (a ≡ true) × (b ≡ true)
and_parts true b e = (refl, e)
and_parts false b e = cc

pub lacks_more : (byte : ℕ) (xs : List ℕ) (y : ℕ) → lacks byte xs ≡ true → (y ≡ byte → ⊥) → lacks byte (xs ++ y ∷ []) ≡ true
lacks_more byte [] y h ne = grind (arith, common_steps)
lacks_more byte (x ∷ xs) y h ne = let p = and_parts (not (x == byte)) (lacks byte xs) h in let q = lacks_more byte xs y p.1 ne in grind (arith, common_steps)

-- what stands before the first such byte, and behind it, is one
pub first_split : (byte : ℕ) (a x b y : List ℕ) → lacks byte a ≡ true → lacks byte b ≡ true → a ++ byte ∷ x ≡ b ++ byte ∷ y → (a ≡ b) × (x ≡ y)
first_split byte [] x [] y p q e = (refl, cc)
first_split byte [] x (c ∷ b) y p q e = let same : byte ≡ c = cc in let r = and_parts (not (c == byte)) (lacks byte b) q in absurd (grind (arith, common_steps))
first_split byte (c ∷ a) x [] y p q e = let same : byte ≡ c = cc in let r = and_parts (not (c == byte)) (lacks byte a) p in absurd (grind (arith, common_steps))
first_split byte (c ∷ a) x (d ∷ b) y p q e =
    let r = and_parts (not (c == byte)) (lacks byte a) p in
    let s = and_parts (not (d == byte)) (lacks byte b) q in
    let tails : a ++ byte ∷ x ≡ b ++ byte ∷ y = cc in
    let rest = first_split byte a x b y r.1 s.1 tails in
    (cc, rest.1)

pub no_such : (byte : ℕ) (a x : List ℕ) → lacks byte (a ++ byte ∷ x) ≡ true → ⊥
no_such byte [] x p = let r = and_parts (not (byte == byte)) (lacks byte x) p in grind (arith, common_steps)
no_such byte (c ∷ a) x p = no_such byte a x (and_parts (not (c == byte)) (lacks byte (a ++ byte ∷ x)) p).1

pub all_digits_more : (xs : List ℕ) (y : ℕ) → all_ascii_digits xs ≡ true → is_ascii_digit y ≡ true → all_ascii_digits (xs ++ y ∷ []) ≡ true
all_digits_more [] y h d = grind (arith, common_steps)
all_digits_more (x ∷ xs) y h d = let p = and_parts (is_ascii_digit x) (all_ascii_digits xs) h in let q = all_digits_more xs y p.1 d in grind (arith, common_steps)

pub digit_at : (xs : List ℕ) (i : ℕ) → all_ascii_digits xs ≡ true → i < length xs → is_ascii_digit (get_or xs i 0) ≡ true
digit_at [] i h lt = absurd (omega arith)
digit_at (x ∷ xs) zero h lt = (and_parts (is_ascii_digit x) (all_ascii_digits xs) h).0
digit_at (x ∷ xs) (suc i) h lt = digit_at xs i (and_parts (is_ascii_digit x) (all_ascii_digits xs) h).1 (omega arith)

pub number_more : (acc : ℕ) (xs : List ℕ) (y : ℕ) → number_after acc (xs ++ y ∷ []) ≡ number_after acc xs * 10 + (y - 48)
number_more acc [] y = refl
number_more acc (x ∷ xs) y = number_more (acc * 10 + (x - 48)) xs y

pub small_more : (v d i : ℕ) → v < 10 ^ i → d < 10 → v * 10 + d < 10 ^ (i + 1)
small_more v d i h k = let e : 10 ^ (i + 1) ≡ 10 ^ i * 10 = rw add-one (pow-suc 10 i) in omega (arith, e)

pub fits_more : (v d i : ℕ) → v < 10 ^ i → d < 10 → i < 32 → v * 10 + d < 2 ^ 128
fits_more v d i h k lt = let most : 10 ^ (i + 1) ≤ 10 ^ 32 = pow-le-pow_right {n = 10} (omega arith) {i = i + 1} {j = 32} (omega arith) in let next = small_more v d i h k in omega arith

-- what stands round a place
pub parted_at : (xs : List ℕ) (i : ℕ) → i < length xs → xs ≡ take i xs ++ get_or xs i 0 ∷ take (length xs - (i + 1)) (drop (i + 1) xs)
parted_at xs i h =
    let more = take_more xs i 0 h in
    sym (take-append-drop (i + 1) xs)
    ∙ ap (λ l. l ++ drop (i + 1) xs) more
    ∙ append_assoc (take i xs) (get_or xs i 0 ∷ []) (drop (i + 1) xs)
    ∙ ap (λ l. take i xs ++ get_or xs i 0 ∷ l) (sym (tail_is_drop xs (i + 1)))

is_digit_between : (b : ℕ) → 48 ≤ b → b ≤ 57 → is_ascii_digit b ≡ true
is_digit_between b low high = grind (arith, common_steps)

pub digits_step : (xs : List ℕ) (i : ℕ) → i < length xs → all_ascii_digits (take i xs) ≡ true → 48 ≤ get_or xs i 0 → get_or xs i 0 ≤ 57 → all_ascii_digits (take (i + 1) xs) ≡ true
digits_step xs i h all low high = rw (take_more xs i 0 h) (all_digits_more (take i xs) (get_or xs i 0) all (is_digit_between (get_or xs i 0) low high))

pub number_step : (xs : List ℕ) (i value : ℕ) → i < length xs → value ≡ number_of (take i xs) → value * 10 + (get_or xs i 0 - 48) ≡ number_of (take (i + 1) xs)
number_step xs i value h e = rw (take_more xs i 0 h) (ap (λ n. n * 10 + (get_or xs i 0 - 48)) e ∙ sym (number_more 0 (take i xs) (get_or xs i 0)))

decided : (b : Bool) → (b ≡ true → ⊥) → b ≡ false
decided true h = absurd (h refl)
decided false h = refl

pub not_numeral : (xs : List ℕ) (i : ℕ) → i < length xs → (is_ascii_digit (get_or xs i 0) ≡ true → ⊥) → is_numeral xs ≡ false
not_numeral xs i h bad = decided (is_numeral xs) (λ e. bad (digit_at xs i (and_parts (all_ascii_digits xs) (not (length xs == 0) && (nat_le (length xs) 1 || not (slice_index xs 0 == 48))) e).0 h))

verb_lacks : (verb : Verb) → lacks 32 (verb_name verb) ≡ true
verb_lacks Load = refl
verb_lacks Link = refl
verb_lacks Unlink = refl
verb_lacks RemoveStatic = refl
verb_lacks RemoveTemplate = refl
verb_lacks Add = refl
verb_lacks Put = refl
verb_lacks Remove = refl
verb_lacks Ask = refl
verb_lacks Tell = refl

-- no verb holds a line feed
pub name_lacks_feed : (verb : Verb) → lacks 10 (verb_name verb) ≡ true
name_lacks_feed Load = refl
name_lacks_feed Link = refl
name_lacks_feed Unlink = refl
name_lacks_feed RemoveStatic = refl
name_lacks_feed RemoveTemplate = refl
name_lacks_feed Add = refl
name_lacks_feed Put = refl
name_lacks_feed Remove = refl
name_lacks_feed Ask = refl
name_lacks_feed Tell = refl

pub numeral_digits : (digits : List ℕ) → is_numeral digits ≡ true → all_ascii_digits digits ≡ true
numeral_digits digits h = (and_parts (all_ascii_digits digits) (not (length digits == 0) && (nat_le (length digits) 1 || not (slice_index digits 0 == 48))) h).0

-- the verb with a name, by the name's length and second byte
verb_of : List ℕ → Verb
verb_of name =
    let key = length name * 1000 + slice_index name 1 in
    if key == 4111 then Load else if key == 4105 then Link else if key == 6110 then Unlink else if key == 13101 then RemoveStatic
    else if key == 15101 then RemoveTemplate else if key == 3100 then Add else if key == 3117 then Put else if key == 6101 then Remove
    else if key == 3115 then Ask else Tell

verb_of-name : (verb : Verb) → verb_of (verb_name verb) ≡ verb
unfolding verb_of
verb_of-name Load = refl
verb_of-name Link = refl
verb_of-name Unlink = refl
verb_of-name RemoveStatic = refl
verb_of-name RemoveTemplate = refl
verb_of-name Add = refl
verb_of-name Put = refl
verb_of-name Remove = refl
verb_of-name Ask = refl
verb_of-name Tell = refl

-- no two verbs have one name
pub name_is_one : (verb verb' : Verb) → verb_name verb ≡ verb_name verb' → verb ≡ verb'
name_is_one verb verb' e = sym (verb_of-name verb) ∙ ap verb_of e ∙ verb_of-name verb'

pub no_head : (name digits : List ℕ) → lacks 32 name ≡ true → ((verb : Verb) → name ≡ verb_name verb → ⊥) → (verb : Verb) (len : ℕ) → IsHead (name ++ 32 ∷ digits) verb len → ⊥
no_head name digits l none verb len head = none verb (first_split 32 name digits (verb_name verb) head.0 l (verb_lacks verb) head.1).0

-- a line is a head in one way
pub head_is_one : (line : List ℕ) (verb verb' : Verb) (len len' : ℕ) → IsHead line verb len → IsHead line verb' len' → (verb ≡ verb') × (len ≡ len')
head_is_one line verb verb' len len' h k =
    let same = first_split 32 (verb_name verb) h.0 (verb_name verb') k.0 (verb_lacks verb) (verb_lacks verb') (sym h.1 ∙ k.1) in
    (name_is_one verb verb' same.0, sym h.3 ∙ ap number_of same.1 ∙ k.3)

pub not_low : (b : ℕ) → b < 48 → is_ascii_digit b ≡ true → ⊥
not_low b low e = grind (arith, common_steps)

pub not_high : (b : ℕ) → 57 < b → is_ascii_digit b ≡ true → ⊥
not_high b high e = grind (arith, common_steps)
