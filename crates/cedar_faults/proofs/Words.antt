-- Words of the grammar, by their spelling.
use Rattle.std.proofs.Common.{◌≡◌, Bool, true, false, List, ◌∷◌, drop, refl, sym, ap, subst, Some}
use Rattle.std.specs.Str.{bytes_eq}
use Rattle.std.proofs.lemmas.Slice.Eq.{bytes_eq-Decides}
use Rattle.cedar_language.specs.Uid.{Text}
use Rattle.cedar_grammar.specs.Token as token
use Rattle.cedar_grammar.specs.Token.{Word, spelled, word_of, word_among, named_words, id_of}
use Rattle.cedar_names.specs.Identifiers.{IsUnreservedId}

-- what holds of the first of some words, where the text is so spelled, and of the word among the others
pub step : (P : Word → Type 0) (w : Word) (ws : List Word) (s : Text) → (spelled w ≡ s → P w) → P (word_among ws s) → P (word_among (w ∷ ws) s)
step P w ws s h k = by (bytes_eq (spelled w) s) refl
  where
    by : (b : Bool) → bytes_eq (spelled w) s ≡ b → P (word_among (w ∷ ws) s)
    by true e = rw e (h ((bytes_eq-Decides (spelled w) s).0 e))
    by false e = rw e k

-- ---- identifiers that aren't reserved are words that stand for themselves

reserved_word : (w : Word) (s : Text) → (IsUnreservedId (spelled w) → ⊥) → IsUnreservedId s → (P : Type 0) → spelled w ≡ s → P
reserved_word w s bad h P e = absurd (bad (subst IsUnreservedId (sym e) h))

no_identifier : (s : Text) → IsUnreservedId s → (w : Word) → (IsUnreservedId (spelled w) → ⊥) → spelled w ≡ s → id_of w ≡ Some s
no_identifier s h w bad e = reserved_word w s bad h (id_of w ≡ Some s) e

pub word_is : (s : Text) → IsUnreservedId s → id_of (word_of s) ≡ Some s
word_is s h =
    let P : Word → Type 0 = λ w. id_of w ≡ Some s in
    step P token.True (drop 1 named_words) s (no_identifier s h token.True (λ u. cc u.0))
    (step P token.False (drop 2 named_words) s (no_identifier s h token.False (λ u. cc u.0))
    (step P token.If (drop 3 named_words) s (no_identifier s h token.If (λ u. cc u.0))
    (step P token.Then (drop 4 named_words) s (no_identifier s h token.Then (λ u. cc u.0))
    (step P token.Else (drop 5 named_words) s (no_identifier s h token.Else (λ u. cc u.0))
    (step P token.In (drop 6 named_words) s (no_identifier s h token.In (λ u. cc u.0))
    (step P token.Like (drop 7 named_words) s (no_identifier s h token.Like (λ u. cc u.0))
    (step P token.Has (drop 8 named_words) s (no_identifier s h token.Has (λ u. cc u.0))
    (step P token.Is (drop 9 named_words) s (no_identifier s h token.Is (λ u. cc u.0))
    (step P token.Cedar (drop 10 named_words) s (no_identifier s h token.Cedar (λ u. cc u.1))
    (step P token.Permit (drop 11 named_words) s (λ e. ap Some e)
    (step P token.Forbid (drop 12 named_words) s (λ e. ap Some e)
    (step P token.When (drop 13 named_words) s (λ e. ap Some e)
    (step P token.Unless (drop 14 named_words) s (λ e. ap Some e)
    (step P token.Principal (drop 15 named_words) s (λ e. ap Some e)
    (step P token.Action (drop 16 named_words) s (λ e. ap Some e)
    (step P token.Resource (drop 17 named_words) s (λ e. ap Some e)
    (step P token.Context (drop 18 named_words) s (λ e. ap Some e) refl)))))))))))))))))
