-- Names compared word by word.
use Rattle.std.proofs.Common.{◌≡◌, ◌∙◌, refl, sym, ap, ℕ, suc, ◌+◌, ◌<◌, ◌≤◌, Bool, true, false, ◌&&◌, [], ◌∷◌, drop, get_or, length}
use Rattle.std.specs.Prelude.{◌≢◌}
use Rattle.std.proofs.lemmas.List.{at_drop_more, at_drop_all}
use Rattle.cedar_language.specs.Uid.{Text, Name}
use Rattle.cedar_language.specs.Order.{same_text, same_name}

pub words_step : (xs ys : Name) (i : ℕ) (x y : Text) → i < length xs → i < length ys → x ≡ get_or xs i x → y ≡ get_or ys i y
    → same_name (drop i xs) (drop i ys) ≡ (same_text x y && same_name (drop (i + 1) xs) (drop (i + 1) ys))
words_step xs ys i x y lt lu is as_ =
    at_drop_more (λ (l : Name). same_name l (drop i ys)) xs i x lt
    ∙ ap (λ (h : Text). same_name (h ∷ drop (i + 1) xs) (drop i ys)) (sym is)
    ∙ at_drop_more (λ (l : Name). same_name (x ∷ drop (i + 1) xs) l) ys i y lu
    ∙ ap (λ (h : Text). same_name (x ∷ drop (i + 1) xs) (h ∷ drop (i + 1) ys)) (sym as_)

pub words_end : (xs ys : Name) (i : ℕ) → length xs ≤ i → length ys ≤ i → same_name (drop i xs) (drop i ys) ≡ true
words_end xs ys i h k = at_drop_all (λ (l : Name). same_name l (drop i ys)) xs i h ∙ at_drop_all (λ (l : Name). same_name [] l) ys i k

pub words_apart : (xs ys : Name) → length xs ≢ length ys → same_name xs ys ≡ false
words_apart [] [] h = absurd (h refl)
words_apart [] (y ∷ ys) h = refl
words_apart (x ∷ xs) [] h = refl
words_apart (x ∷ xs) (y ∷ ys) h = by (same_text x y) (words_apart xs ys (λ e. h (ap suc e)))
  where
    by : (b : Bool) → same_name xs ys ≡ false → (b && same_name xs ys) ≡ false
    by true k = k
    by false k = refl
