-- Words that are identifiers, and names of them.
use Rattle.std.proofs.Common.{◌≡◌, Bool, true, false, cond, ◌&&◌, ◌||◌, not, List, [], ◌∷◌, ◌++◌, ℕ, ◌+◌, ◌<◌, ◌≤◌, length, drop, get_or, Option, Some, None, IsTrue, refl, sym, ap, ◌∙◌, append_assoc}
use Rattle.std.specs.Prelude.{◌↔◌}
use Rattle.std.specs.List.{list_any, list_all}
use Rattle.std.proofs.lemmas.List.{at_drop_more}
use Rattle.cedar_language.specs.Uid.{Text, Name}
use Rattle.cedar_names.specs.Identifiers.{is_id, is_reserved, IsId, IsUnreservedId}
use Rattle.cedar_names.specs.Names.{is_reserved_name}
use Rattle.cedar_validator.specs.Names.{is_word}

both : (a b c : Bool) → IsTrue c ↔ (IsTrue a × IsTrue b) → c ≡ (a && b)
both true true true h = refl
both true true false h = h.1 (refl, refl)
both true false true h = sym (h.0 refl).1
both true false false h = refl
both false b true h = sym (h.0 refl).0
both false b false h = refl

pub word_test : (s : Text) (b : Bool) → IsTrue b ↔ IsUnreservedId s → b ≡ is_word s
word_test s b h = both (is_id s) (not (is_reserved s)) b h

first_true : (a b : Bool) → (a && b) ≡ true → IsTrue a
first_true true b h = refl
first_true false b h = h

pub word_is_id : (s : Text) → is_word s ≡ true → IsId s
word_is_id s h = first_true (is_id s) (not (is_reserved s)) h

-- ---- the words of a name, one by one

-- those passed, and those left if all are words
abbrev pub with_left : List Text → List Text → Option Name
with_left done left = cond (list_all is_word left) (Some (done ++ left)) None

pub one_more : (done more words : List Text) (i : ℕ) (w : Text) → i < length words → w ≡ get_or words i w → is_word w ≡ true → more ≡ done ++ w ∷ []
    → with_left done (drop i words) ≡ with_left more (drop (i + 1) words)
one_more done more words i w lt is word e =
    at_drop_more (λ (l : List Text). with_left done l) words i w lt
    ∙ ap (λ (x : Text). with_left done (x ∷ drop (i + 1) words)) (sym is)
    ∙ ap (λ b. cond (b && list_all is_word (drop (i + 1) words)) (Some (done ++ w ∷ drop (i + 1) words)) None) word
    ∙ ap (λ l. cond (list_all is_word (drop (i + 1) words)) (Some l) None)
    (sym (append_assoc done (w ∷ []) (drop (i + 1) words)) ∙ ap (λ l. l ++ drop (i + 1) words) (sym e))

-- ---- names of words

unreserved : (s : Text) (r : Bool) → is_word s ≡ true → (is_reserved s || r) ≡ r
unreserved s r h = by (is_id s) (is_reserved s) h
  where
    by : (a b : Bool) → (a && not b) ≡ true → (b || r) ≡ r
    by true false e = refl
    by true true e = absurd cc
    by false b e = absurd cc

later_true : (a b : Bool) → (a && b) ≡ true → b ≡ true
later_true true b h = h
later_true false b h = absurd cc

front_true : (a b : Bool) → (a && b) ≡ true → a ≡ true
front_true true b h = refl
front_true false b h = absurd cc

pub none_reserved : (n : Name) → list_all is_word n ≡ true → is_reserved_name n ≡ false
none_reserved [] h = refl
none_reserved (s ∷ ss) h =
    unreserved s (list_any is_reserved ss) (front_true (is_word s) (list_all is_word ss) h)
    ∙ none_reserved ss (later_true (is_word s) (list_all is_word ss) h)

pub word_found : (w x : Text) → Some x ≡ cond (is_word w) (Some w) None → (is_word w ≡ true) × (x ≡ w)
word_found w x e = by (is_word w) refl e
  where
    by : (b : Bool) → is_word w ≡ b → Some x ≡ cond b (Some w) None → (is_word w ≡ true) × (x ≡ w)
    by true g h = (g, cc)
    by false g h = absurd cc
