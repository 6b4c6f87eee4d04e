-- Words.
use Rattle.std.proofs.Common.{◌≡◌, ℕ, Bool, true, false, List, [], ◌∷◌, refl, sym}
use Rattle.std.specs.Prelude.{MatchBool}
use Rattle.std.specs.Str.{bytes_eq}
use Rattle.std.specs.List.{AllByRecursion}
use Rattle.std.proofs.lemmas.Slice.Eq.{bytes_eq-Decides}
use Rattle.cedar_grammar.specs.Token.{Word, Other, spelled, word_among}

differ : (xs ys : List ℕ) → (ys ≡ xs → ⊥) → bytes_eq xs ys ≡ false
differ xs ys f = by (bytes_eq xs ys) refl
  where
    by : (b : Bool) → bytes_eq xs ys ≡ b → b ≡ false
    by true e = absurd (f (sym ((bytes_eq-Decides xs ys).0 e)))
    by false e = refl

-- a text that none of these words is spelled as is another word
pub other_word : (ws : List Word) (s : List ℕ) → AllByRecursion (λ w. s ≡ spelled w → ⊥) ws → word_among ws s ≡ Other s
other_word [] s h = refl
other_word (w ∷ ws) s h = rw (differ (spelled w) s h.0) (other_word ws s h.1)

pub unless_written : (s w : List ℕ) (b : Bool) → MatchBool b (s ≡ w) (s ≡ w → ⊥) → b ≡ false → s ≡ w → ⊥
unless_written s w true h e = absurd (cc e)
unless_written s w false h e = h
