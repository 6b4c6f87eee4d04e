-- What is put at the keys of a list is what is found at them.
use Rattle.std.proofs.Common.{◌≡◌, ℕ, ◌+◌, ◌<◌, map, length, take, get_or, Bool, true, false, cond, ◌||◌, List, [], ◌∷◌, ◌++◌, Option, Some, None, refl, sym, ap, ◌∙◌}
use Rattle.std.specs.Prelude.{is_some}
use Rattle.std.specs.List.{list_any}
use Rattle.std.proofs.lemmas.List.{take_more, map-append}
use Rattle.std.proofs.lemmas.List.Folds.{list_any-append}

or_true : (a : Bool) → (a || true) ≡ true
or_true true = refl
or_true false = refl

or_false : (a : Bool) → (a || false) ≡ a
or_false true = refl
or_false false = refl

-- what is found at these keys, and nothing at others
abbrev pub so_far : {K X : Type 0} → (K → K → Bool) → (K → Option X) → List K → K → Option X
so_far same look ks q = cond (list_any (same q) ks) (look q) None

module _ {K X : Type 0} (same : K → K → Bool) (exact : (x y : K) → same x y ≡ true → x ≡ y) (turned : (x y : K) → same x y ≡ same y x)
    (look : K → Option X) where
  one_more : (ks : List K) (k q : K) → so_far same look (ks ++ k ∷ []) q ≡ cond (list_any (same q) ks || (same k q || false)) (look q) None
  one_more ks k q =
      ap (λ b. cond b (look q) None) (list_any-append (same q) ks (k ∷ []) ∙ ap (λ b. list_any (same q) ks || (b || false)) (turned q k))

  pub put_next : (ks : List K) (k : K) (x : X) (old new : K → Option X) → look k ≡ Some x → ((q : K) → new q ≡ cond (same k q) (Some x) (old q))
      → ((q : K) → old q ≡ so_far same look ks q) → (q : K) → new q ≡ so_far same look (ks ++ k ∷ []) q
  put_next ks k x old new is put was q =
      put q ∙ ap (cond (same k q) (Some x)) (was q) ∙ by (same k q) refl (list_any (same q) ks) ∙ sym (one_more ks k q)
    where
      by : (b : Bool) → same k q ≡ b → (a : Bool) → cond b (Some x) (cond a (look q) None) ≡ cond (a || (b || false)) (look q) None
      by true g a = sym (ap (λ c. cond c (look q) None) (or_true a) ∙ ap look (sym (exact k q g)) ∙ is)
      by false g a = ap (λ c. cond c (look q) None) (sym (or_false a))

  pub skip_next : (ks : List K) (k : K) (old : K → Option X) → look k ≡ None → ((q : K) → old q ≡ so_far same look ks q)
      → (q : K) → old q ≡ so_far same look (ks ++ k ∷ []) q
  skip_next ks k old is was q = was q ∙ by (same k q) refl (list_any (same q) ks) ∙ sym (one_more ks k q)
    where
      none : (a : Bool) → cond {A = Option X} a None None ≡ None
      none true = refl
      none false = refl

      by : (b : Bool) → same k q ≡ b → (a : Bool) → cond a (look q) None ≡ cond (a || (b || false)) (look q) None
      by true g a =
          let nothing : look q ≡ None = ap look (sym (exact k q g)) ∙ is in
          ap (λ o. cond a o None) nothing ∙ none a ∙ sym (ap (λ o. cond (a || (true || false)) o None) nothing ∙ none (a || (true || false)))
      by false g a = ap (λ c. cond c (look q) None) (sym (or_false a))

  pub all_put : (ks : List K) (new : K → Option X) → ((q : K) → list_any (same q) ks ≡ is_some (look q)) → ((q : K) → new q ≡ so_far same look ks q)
      → (q : K) → new q ≡ look q
  all_put ks new all was q = was q ∙ ap (λ b. cond b (look q) None) (all q) ∙ by (look q)
    where
      by : (o : Option X) → cond (is_some o) o None ≡ o
      by (Some x) = refl
      by None = refl

-- one more behind the first ones
pub next_key : {A B : Type 0} (view : A → B) (xs : List A) (i : ℕ) (x : A) → i < length xs → x ≡ get_or xs i x
    → map view (take (i + 1) xs) ≡ map view (take i xs) ++ view x ∷ []
next_key view xs i x low here = ap (map view) (take_more xs i x low ∙ ap (λ y. take i xs ++ y ∷ []) (sym here)) ∙ map-append view (take i xs) (x ∷ [])
