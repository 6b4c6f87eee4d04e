-- Names, word by word.
use Rattle.std.proofs.Common.{◌≡◌, ◌≢◌, ℕ, suc, ◌<◌, Bool, true, false, cond, ◌&&◌, ◌↔◌, Some, None, is_some, List, [], ◌∷◌, ◌++◌, length, get_or, drop, refl, sym, ap, ◌∙◌, subst, true≢false, arith}
use Rattle.std.specs.Prelude.{◌==◌, IsTrue}
use Rattle.std.specs.Cmp.{first_so, second_so}
use Rattle.std.specs.List.{list_all}
use Rattle.std.specs.Str.{bytes_eq}
use Rattle.std.proofs.lemmas.Slice.Eq.{bytes_eq-Decides}
use Rattle.std.proofs.lemmas.Bool.{eqb-true}
use Rattle.cedar_language.specs.Uid.{Text}
use Rattle.cedar_language.specs.Words.{begins_word, is_in_word}
use Rattle.cedar_grammar.specs.Token as token
use Rattle.cedar_grammar.specs.Token.{Word, spelled, word_of, word_among, named_words, id_of}
use Rattle.cedar_grammar.specs.Tokens.{colon}
use Rattle.cedar_names.specs.Identifiers.{is_identifier, IsUnreservedId}
use Rattle.cedar_world.specs.Bodies.{onto_first, words_between, is_free_word, name_spelled}
use Rattle.cedar_json.proofs.Tokens.{first_in_word}

-- ---- words that aren't reserved

no_identifier : (s : Text) → IsUnreservedId s → (w : Word) → (IsUnreservedId (spelled w) → ⊥) → spelled w ≡ s → id_of w ≡ Some s
no_identifier s h w bad e = absurd (bad (subst IsUnreservedId (sym e) h))

step : (P : Word → Type 0) (w : Word) (ws : List Word) (s : Text) → (spelled w ≡ s → P w) → P (word_among ws s) → P (word_among (w ∷ ws) s)
step P w ws s h k = by (bytes_eq (spelled w) s) refl
  where
    by : (b : Bool) → bytes_eq (spelled w) s ≡ b → P (word_among (w ∷ ws) s)
    by true e = rw e (h ((bytes_eq-Decides (spelled w) s).0 e))
    by false e = rw e k

word_is : (s : Text) → IsUnreservedId s → id_of (word_of s) ≡ Some s
word_is s h =
    let P : Word → Type 0 = λ w. id_of w ≡ Some s in
    step P token.True (drop 1 named_words) s (no_identifier s h token.True (λ u. cc u.0))
    (step P token.False (drop 2 named_words) s (no_identifier s h token.False (λ u. cc u.0))
    (step P token.If (drop 3 named_words) s (no_identifier s h token.If (λ u. cc u.0))
    (step P token.Then (drop 4 named_words) s (no_identifier s h token.Then (λ u. cc u.0))
    (step P token.Else (drop 5 named_words) s (no_identifier s h token.Else (λ u. cc u.0))
    (step P token.In (drop 6 named_words) s (no_identifier s h token.In (λ u. cc u.0))
    (step P token.Like (drop 7 named_words) s (no_identifier s h token.Like (λ u. cc u.0))
    (step P token.Has (drop 8 named_words) s (no_identifier s h token.Has (λ u. cc u.0))
    (step P token.Is (drop 9 named_words) s (no_identifier s h token.Is (λ u. cc u.0))
    (step P token.Cedar (drop 10 named_words) s (no_identifier s h token.Cedar (λ u. cc u.1))
    (step P token.Permit (drop 11 named_words) s (λ e. ap Some e)
    (step P token.Forbid (drop 12 named_words) s (λ e. ap Some e)
    (step P token.When (drop 13 named_words) s (λ e. ap Some e)
    (step P token.Unless (drop 14 named_words) s (λ e. ap Some e)
    (step P token.Principal (drop 15 named_words) s (λ e. ap Some e)
    (step P token.Action (drop 16 named_words) s (λ e. ap Some e)
    (step P token.Resource (drop 17 named_words) s (λ e. ap Some e)
    (step P token.Context (drop 18 named_words) s (λ e. ap Some e) refl)))))))))))))))))

differs : (k s : Text) → bytes_eq k s ≡ false → bytes_eq s k ≡ false
differs k s e = by (bytes_eq s k) refl
  where
    by : (b : Bool) → bytes_eq s k ≡ b → b ≡ false
    by true f = let same = (bytes_eq-Decides k s).1 (sym ((bytes_eq-Decides s k).0 f)) in absurd (cc (e, same))
    by false f = refl

abbrev Later : (Word → Type 0) → Word → List Word → Text → Type 0
Later P w ws s = (bytes_eq s (spelled w) ≡ false) × P (word_among ws s)

later : (P : Word → Type 0) (w : Word) (ws : List Word) (s : Text) → (P w → ⊥) → P (word_among (w ∷ ws) s) → Later P w ws s
later P w ws s other p = by (bytes_eq (spelled w) s) refl
  where
    by : (b : Bool) → bytes_eq (spelled w) s ≡ b → Later P w ws s
    by true f = absurd (other (rw f at p))
    by false f = (differs (spelled w) s f, rw f at p)

identified : (s : Text) → is_identifier s ≡ true → is_some (id_of (word_of s)) ≡ true → IsUnreservedId s
identified s i e =
    let P : Word → Type 0 = λ w. is_some (id_of w) ≡ true in
    let a = later P token.True (drop 1 named_words) s (λ p. cc p) e in
    let b = later P token.False (drop 2 named_words) s (λ p. cc p) a.1 in
    let c = later P token.If (drop 3 named_words) s (λ p. cc p) b.1 in
    let d = later P token.Then (drop 4 named_words) s (λ p. cc p) c.1 in
    let f = later P token.Else (drop 5 named_words) s (λ p. cc p) d.1 in
    let g = later P token.In (drop 6 named_words) s (λ p. cc p) f.1 in
    let h = later P token.Like (drop 7 named_words) s (λ p. cc p) g.1 in
    let j = later P token.Has (drop 8 named_words) s (λ p. cc p) h.1 in
    let k = later P token.Is (drop 9 named_words) s (λ p. cc p) j.1 in
    let l = later P token.Cedar (drop 10 named_words) s (λ p. cc p) k.1 in
    (rw (i, a.0, b.0, c.0, d.0, f.0, g.0, h.0, j.0, k.0), rw l.0)

free_unreserved : (w : Text) → is_free_word w ≡ true → IsUnreservedId w
free_unreserved [] h = cc
free_unreserved (c ∷ cs) h = identified (c ∷ cs) (first_so _ _ h) (second_so (begins_word c && list_all is_in_word cs) _ h)

unreserved_free : (w : Text) → IsUnreservedId w → is_free_word w ≡ true
unreserved_free [] h = absurd (cc h.0)
unreserved_free (c ∷ cs) h = rw (first_so (is_identifier (c ∷ cs)) _ h.0, ap is_some (word_is (c ∷ cs) h)) refl

pub ident_is : (b : Bool) (w : Text) → IsTrue b ↔ IsUnreservedId w → b ≡ is_free_word w
ident_is b w h = by b (is_free_word w) refl refl
  where
    by : (d e : Bool) → b ≡ d → is_free_word w ≡ e → d ≡ e
    by true true f g = refl
    by true false f g = absurd (true≢false (sym (unreserved_free w (h.0 f)) ∙ g))
    by false true f g = absurd (true≢false (sym (h.1 (free_unreserved w g)) ∙ f))
    by false false f g = refl

-- ---- words between colons

abbrev pub all_free : Text → Bool
all_free s = list_all is_free_word (words_between s)

pub spelled_free : (s : Text) → is_some (name_spelled s) ≡ all_free s
spelled_free s = by (all_free s)
  where
    by : (b : Bool) → is_some (cond b (Some (words_between s)) None) ≡ b
    by true = refl
    by false = refl

-- no colon stands in the text
abbrev pub IsPlain : Text → Type 0
IsPlain s = (i : ℕ) → i < length s → get_or s i 0 ≢ 58

first_plain : (c : ℕ) (cs : Text) → IsPlain (c ∷ cs) → (c == colon) ≡ false
first_plain c cs plain = by (c == colon) refl
  where
    by : (b : Bool) → (c == colon) ≡ b → b ≡ false
    by true e = absurd (plain 0 (omega arith) (eqb-true c colon e))
    by false e = refl

rest_plain : (c : ℕ) (cs : Text) → IsPlain (c ∷ cs) → IsPlain cs
rest_plain c cs plain i lt e = plain (suc i) (omega arith) e

past : (c : ℕ) (cs : Text) → (c == colon) ≡ false → words_between (c ∷ cs) ≡ onto_first c (words_between cs)
past c cs h = rw (h, words_between) refl

alone : (w : Text) → IsPlain w → words_between w ≡ w ∷ []
alone [] h = refl
alone (c ∷ cs) h = past c cs (first_plain c cs h) ∙ ap (onto_first c) (alone cs (rest_plain c cs h))

before : (w rest : Text) → IsPlain w → words_between (w ++ colon ∷ colon ∷ rest) ≡ w ∷ words_between rest
before [] rest h = refl
before (c ∷ cs) rest h = past c (cs ++ colon ∷ colon ∷ rest) (first_plain c cs h) ∙ ap (onto_first c) (before cs rest (rest_plain c cs h))

-- the last word
pub last_word : (w : Text) → IsPlain w → all_free w ≡ is_free_word w
last_word w plain = ap (list_all is_free_word) (alone w plain) ∙ and_true (is_free_word w)
  where
    and_true : (b : Bool) → (b && true) ≡ b
    and_true true = refl
    and_true false = refl

-- a word and `::` before others
pub first_word : (s w rest : Text) → s ≡ w ++ colon ∷ colon ∷ rest → IsPlain w → all_free s ≡ (is_free_word w && all_free rest)
first_word s w rest e plain = ap all_free e ∙ ap (list_all is_free_word) (before w rest plain)

-- the first word isn't one of characters of words
abbrev IsSpoiled : List Text → Type 0
IsSpoiled [] = ⊥
IsSpoiled (w ∷ ws) = list_all is_in_word w ≡ false

spoiled_on : (c : ℕ) (ws : List Text) → IsSpoiled ws → IsSpoiled (onto_first c ws)
spoiled_on c [] h = absurd h
spoiled_on c (w ∷ ws) h = by (is_in_word c)
  where
    by : (b : Bool) → (b && list_all is_in_word w) ≡ false
    by true = h
    by false = refl

colon_first : (ws : List Text) → IsSpoiled (onto_first colon ws)
colon_first [] = refl
colon_first (w ∷ ws) = refl

-- a colon alone
one_colon : (t : Text) → get_or t 0 0 ≢ 58 → IsSpoiled (words_between (colon ∷ t))
one_colon [] h = refl
one_colon (c ∷ cs) h = by (c == colon) refl
  where
    by : (b : Bool) → (c == colon) ≡ b
        → IsSpoiled (elim b as (λ _. List Text) [ true ↦ [] ∷ words_between cs | false ↦ onto_first colon (onto_first c (words_between cs)) ])
    by true e = absurd (h (eqb-true c colon e))
    by false e = colon_first (onto_first c (words_between cs))

spoils : (w t : Text) → IsPlain w → get_or t 0 0 ≢ 58 → IsSpoiled (words_between (w ++ colon ∷ t))
spoils [] t plain h = one_colon t h
spoils (c ∷ cs) t plain h =
    subst IsSpoiled (sym (past c (cs ++ colon ∷ t) (first_plain c cs plain)))
    (spoiled_on c (words_between (cs ++ colon ∷ t)) (spoils cs t (rest_plain c cs plain) h))

spoiled_none : (ws : List Text) → IsSpoiled ws → list_all is_free_word ws ≡ false
spoiled_none [] h = absurd h
spoiled_none ([] ∷ ws) h = refl
spoiled_none ((c ∷ cs) ∷ ws) h = by (begins_word c) refl (list_all is_in_word cs) refl
  where
    by : (a : Bool) → begins_word c ≡ a → (b : Bool) → list_all is_in_word cs ≡ b
        → (((a && b) && is_some (id_of (word_of (c ∷ cs)))) && list_all is_free_word ws) ≡ false
    by true e true f = absurd (true≢false (sym (ap (λ x. x && list_all is_in_word cs) (first_in_word c e) ∙ f) ∙ h))
    by true e false f = refl
    by false e b f = refl

pub one_colon_none : (s w t : Text) → s ≡ w ++ colon ∷ t → IsPlain w → get_or t 0 0 ≢ 58 → all_free s ≡ false
one_colon_none s w t e plain h = ap all_free e ∙ spoiled_none (words_between (w ++ colon ∷ t)) (spoils w t plain h)

pub no_first : (t : Text) → length t ≡ 0 → get_or t 0 0 ≢ 58
no_first [] e = λ f. cc f
no_first (c ∷ cs) e = absurd (omega arith)

pub opens : (t : Text) → 0 < length t → get_or t 0 0 ≡ 58 → t ≡ 58 ∷ drop 1 t
opens [] some e = absurd (omega arith)
opens (c ∷ cs) some e = ap (λ d. d ∷ cs) e
