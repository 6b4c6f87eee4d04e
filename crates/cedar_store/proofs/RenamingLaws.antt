-- What a merge's renaming does to ids: distinct ids stay distinct, and the new ones are bound in neither set.
use Rattle.std.proofs.Common.{inl, inr, ◌⊎◌, ◌≡◌, ℕ, ◌+◌, ◌^◌, ◌<◌, ◌≤◌, Bool, true, false, cond, List, [], ◌∷◌, refl, sym, ap, subst, ◌∙◌, true≢false, arith, is_some, Option, None, Some, unwrap_or, ltb, ltb-true, ltb-false}
use Rattle.std.specs.Map.{keys_of, lookup}
use Rattle.std.specs.Set.{is_member}
use Rattle.std.proofs.lemmas.Map.Made.{is_some-lookup}
use Rattle.std.proofs.lemmas.Bool.{or_parts, or_right}
use Rattle.cedar_language.specs.Uid.{Text}
use Rattle.cedar_language.specs.Order.{same_text}
use Rattle.cedar_grammar.specs.Syntax.{numbered}
use Rattle.cedar_policy_set.specs.Entries.{Entry, Entries, is_bound}
use Rattle.cedar_policy_set.proofs.Finding.{same_id, id_apart}
use Rattle.cedar_store.specs.Renaming.{NewIds, is_taken, conflicting, Numbers, IsRenaming, IsNextFree, new_id}
use Rattle.cedar_store.proofs.Numbers.{numbered_injective}

-- x is a numbered id from `from` on that is free
pub record IsFreeNumber (mine theirs : Entries) (from : ℕ) (x : Text) : Type 0 where
  pub number : ℕ
  pub reached : from ≤ number
  pub fits : number < 2 ^ 64
  pub is : x ≡ numbered number
  pub free : is_taken mine theirs (numbered number) ≡ false

module _ (mine theirs : Entries) where
  -- exactly the ids given are renamed
  pub numbers_keys : (ids : List Text) (from : ℕ) (renaming : NewIds) → Numbers mine theirs ids from renaming → keys_of renaming ≡ ids
  numbers_keys [] from [] h = refl
  numbers_keys [] from (r ∷ rs) h = absurd h
  numbers_keys (id ∷ ids) from [] h = absurd h
  numbers_keys (id ∷ ids) from (r ∷ rs) h = (λ i. (h.2 i).0 ∷ numbers_keys ids (h.0 + 1) rs h.3 i)

  -- to free numbers
  pub numbers_free : (ids : List Text) (from : ℕ) (renaming : NewIds) → Numbers mine theirs ids from renaming
      → (a x : Text) → lookup (same_text a) renaming ≡ Some x → IsFreeNumber mine theirs from x
  numbers_free [] from [] h a x e = cc
  numbers_free [] from (r ∷ rs) h a x e = absurd h
  numbers_free (id ∷ ids) from [] h a x e = absurd h
  numbers_free (id ∷ ids) from (r ∷ rs) h a x e = by (same_text a r.0) e (numbers_free ids (h.0 + 1) rs h.3 a x)
    where
      by : (b : Bool) → cond b (Some r.1) (lookup (same_text a) rs) ≡ Some x → (lookup (same_text a) rs ≡ Some x → IsFreeNumber mine theirs (h.0 + 1) x) → IsFreeNumber mine theirs from x
      by true g rest =
          let same : r.1 ≡ x = cc in
          record { number = h.0; reached = h.1.reached; fits = h.1.fits; is = sym same ∙ ap (λ p. p.1) h.2; free = h.1.free }
      by false g rest =
          let w = rest g in
          let low = h.1.reached in
          let high = w.reached in
          record { number = w.number; reached = omega arith; fits = w.fits; is = w.is; free = w.free }

  -- two different ids get different numbers
  pub numbers_apart : (ids : List Text) (from : ℕ) (renaming : NewIds) → Numbers mine theirs ids from renaming
      → (a b x y : Text) → same_text a b ≡ false → lookup (same_text a) renaming ≡ Some x → lookup (same_text b) renaming ≡ Some y → x ≡ y → ⊥
  numbers_apart [] from [] h a b x y n e f = cc
  numbers_apart [] from (r ∷ rs) h a b x y n e f = absurd h
  numbers_apart (id ∷ ids) from [] h a b x y n e f = absurd h
  numbers_apart (id ∷ ids) from (r ∷ rs) h a b x y n e f =
      by (same_text a r.0) refl (same_text b r.0) refl e f (numbers_free ids (h.0 + 1) rs h.3 a x) (numbers_free ids (h.0 + 1) rs h.3 b y) (numbers_apart ids (h.0 + 1) rs h.3 a b x y n)
    where
      first : (z : Text) → r.1 ≡ z → z ≡ numbered h.0
      first z same = sym same ∙ ap (λ p. p.1) h.2

      differ : (z w : Text) → r.1 ≡ z → IsFreeNumber mine theirs (h.0 + 1) w → z ≡ w → ⊥
      differ z w same later q =
          let e = numbered_injective h.0 later.number h.1.fits later.fits (sym (first z same) ∙ q ∙ later.is) in
          let high = later.reached in
          omega arith

      by : (c : Bool) → same_text a r.0 ≡ c → (d : Bool) → same_text b r.0 ≡ d → cond c (Some r.1) (lookup (same_text a) rs) ≡ Some x → cond d (Some r.1) (lookup (same_text b) rs) ≡ Some y
          → (lookup (same_text a) rs ≡ Some x → IsFreeNumber mine theirs (h.0 + 1) x) → (lookup (same_text b) rs ≡ Some y → IsFreeNumber mine theirs (h.0 + 1) y)
          → (lookup (same_text a) rs ≡ Some x → lookup (same_text b) rs ≡ Some y → x ≡ y → ⊥) → x ≡ y → ⊥
      by true c true d g k fx fy rest = absurd (true≢false (sym (ap (same_text a) (same_id b r.0 d) ∙ c) ∙ n))
      by true c false d g k fx fy rest = λ q. let same : r.1 ≡ x = cc in differ x y same (fy k) q
      by false c true d g k fx fy rest = λ q. let same : r.1 ≡ y = cc in differ y x same (fx g) (sym q)
      by false c false d g k fx fy rest = rest g k

  module _ (renaming : NewIds) (is : IsRenaming mine theirs renaming) where
    taken_is_other : (b x : Text) → is_bound theirs b ≡ true → IsFreeNumber mine theirs 0 x → x ≡ b → ⊥
    taken_is_other b x there free e =
        true≢false (sym (ap (is_taken mine theirs) (sym free.is ∙ e) ∙ or_right (is_bound mine b) (is_bound theirs b) there) ∙ free.free)

    -- different ids of theirs are different after the renaming
    pub new_id_apart : (a b : Text) → is_bound theirs a ≡ true → is_bound theirs b ≡ true → same_text a b ≡ false → same_text (new_id renaming a) (new_id renaming b) ≡ false
    new_id_apart a b ha hb n = by (lookup (same_text a) renaming) refl (lookup (same_text b) renaming) refl
      where
        by : (o : Option Text) → lookup (same_text a) renaming ≡ o → (p : Option Text) → lookup (same_text b) renaming ≡ p → same_text (unwrap_or o a) (unwrap_or p b) ≡ false
        by None e None f = n
        by (Some x) e None f = id_apart x b (taken_is_other b x hb (numbers_free _ 0 renaming is a x e))
        by None e (Some y) f = id_apart a y (λ q. taken_is_other a y ha (numbers_free _ 0 renaming is b y f) (sym q))
        by (Some x) e (Some y) f = id_apart x y (numbers_apart _ 0 renaming is a b x y n e f)

    -- an id that theirs has more is bound in mine under no name
    pub more_is_free : (e : Text × Entry) → is_member same_text (conflicting mine theirs) e.0 ≡ true ⊎ is_bound mine e.0 ≡ false → is_bound mine (new_id renaming e.0) ≡ false
    more_is_free e h = by (lookup (same_text e.0) renaming) refl h
      where
        by : (o : Option Text) → lookup (same_text e.0) renaming ≡ o → is_member same_text (conflicting mine theirs) e.0 ≡ true ⊎ is_bound mine e.0 ≡ false → is_bound mine (unwrap_or o e.0) ≡ false
        by (Some x) f g =
            let free = numbers_free _ 0 renaming is e.0 x f in
            (or_parts (is_bound mine x) (is_bound theirs x) (ap (is_taken mine theirs) free.is ∙ free.free)).0
        by None f (inr free) = free
        by None f (inl there) =
            absurd (true≢false (sym there ∙ ap (λ ids. is_member same_text ids e.0) (sym (numbers_keys _ 0 renaming is)) ∙ sym (is_some-lookup (same_text e.0) renaming) ∙ ap is_some f))

-- there is one next number, so one renaming
next_one : (mine theirs : Entries) (from m n : ℕ) → IsNextFree mine theirs from m → IsNextFree mine theirs from n → m ≡ n
next_one mine theirs from m n a b = by (ltb m n) refl (ltb n m) refl
  where
    by : (c : Bool) → ltb m n ≡ c → (d : Bool) → ltb n m ≡ d → m ≡ n
    by true c d e = absurd (true≢false (sym (b.passed m a.reached (ltb-true m n c)) ∙ a.free))
    by false c true e = absurd (true≢false (sym (a.passed n b.reached (ltb-true n m e)) ∙ b.free))
    by false c false e = let over = ltb-false m n c in let under = ltb-false n m e in omega arith

pub one_renaming : (mine theirs : Entries) (ids : List Text) (from : ℕ) (xs ys : NewIds) → Numbers mine theirs ids from xs → Numbers mine theirs ids from ys → xs ≡ ys
one_renaming mine theirs [] from [] [] h k = refl
one_renaming mine theirs [] from [] (y ∷ ys) h k = absurd k
one_renaming mine theirs [] from (x ∷ xs) ys h k = absurd h
one_renaming mine theirs (id ∷ ids) from [] ys h k = absurd h
one_renaming mine theirs (id ∷ ids) from (x ∷ xs) [] h k = absurd k
one_renaming mine theirs (id ∷ ids) from (x ∷ xs) (y ∷ ys) h k =
    let same = next_one mine theirs from h.0 k.0 h.1 k.1 in
    let head : x ≡ y = h.2 ∙ ap (λ n. (id, numbered n)) same ∙ sym k.2 in
    let rest = one_renaming mine theirs ids (k.0 + 1) xs ys (subst (λ n. Numbers mine theirs ids (n + 1) xs) same h.3) k.3 in
    (λ i. head i ∷ rest i)
