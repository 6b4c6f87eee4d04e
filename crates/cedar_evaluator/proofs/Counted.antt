-- Lists in which the same policies count have the same decision, and the same ids among their reasons.
use Rattle.std.proofs.Common.{◌≡◌, Bool, true, false, ◌&&◌, ◌||◌, not, cond, inl, inr, List, filter, Contains, sym, ◌∙◌, ap, subst}
use Rattle.std.specs.Cmp.{both_ways}
use Rattle.cedar_language.specs.Uid.{Text}
use Rattle.cedar_language.specs.Answering.{Judged, is_permit, is_satisfied, is_residual, HasId, some, satisfied_permit, satisfied_forbid, residual_permit, residual_forbid, decision_by, decision, in_must, in_may, ids_with}
use Rattle.cedar_evaluator.proofs.Lists.{IsAmong, contained, contains, mapped, unmapped, some_of, of_some, and_right, or_left, or_right, or_cases}
use Rattle.cedar_evaluator.proofs.Members.{filtered, unfiltered}

-- only what is satisfied or open has a part in decision and reasons
abbrev pub counts : Judged → Bool
counts j = is_satisfied j.standing || is_residual j.standing

-- what counts is in both lists
pub record CountAlike (xs ys : List Judged) : Type 0 where
  pub there : (j : Judged) → IsAmong j ys → counts j ≡ true → IsAmong j xs
  pub back : (j : Judged) → IsAmong j xs → counts j ≡ true → IsAmong j ys

abbrev Counted : (Judged → Bool) → Type 0
Counted f = (j : Judged) → f j ≡ true → counts j ≡ true

by_satisfied : (b : Bool) (j : Judged) → (b && is_satisfied j.standing) ≡ true → counts j ≡ true
by_satisfied b j h = or_left (is_satisfied j.standing) _ (and_right b _ h)

by_open : (b : Bool) (j : Judged) → (b && is_residual j.standing) ≡ true → counts j ≡ true
by_open b j h = or_right (is_satisfied j.standing) _ (and_right b _ h)

must_counts : (b : Bool) (j : Judged) → cond b (satisfied_forbid j) (satisfied_permit j) ≡ true → counts j ≡ true
must_counts true j h = by_satisfied (not (is_permit j.effect)) j h
must_counts false j h = by_satisfied (is_permit j.effect) j h

may_counts : (b : Bool) (j : Judged) → cond b (satisfied_forbid j || residual_forbid j) (satisfied_permit j || residual_permit j || residual_forbid j) ≡ true → counts j ≡ true
may_counts true j h =
    elim (or_cases (satisfied_forbid j) _ h) [ inl x ↦ by_satisfied (not (is_permit j.effect)) j x | inr x ↦ by_open (not (is_permit j.effect)) j x ]
may_counts false j h =
    elim (or_cases (satisfied_permit j || residual_permit j) _ h) [
      | inr x ↦ by_open (not (is_permit j.effect)) j x
      | inl x ↦ elim (or_cases (satisfied_permit j) _ x) [ inl y ↦ by_satisfied (is_permit j.effect) j y | inr y ↦ by_open (is_permit j.effect) j y ]
    ]

must_counted : (js : List Judged) → Counted (in_must js)
must_counted js j = must_counts (some satisfied_forbid js || some residual_forbid js) j

may_counted : (js : List Judged) → Counted (in_may js)
may_counted js j = may_counts (some satisfied_forbid js) j

module _ (xs ys : List Judged) (alike : CountAlike xs ys) where
  same_some : (f : Judged → Bool) → Counted f → some f xs ≡ some f ys
  same_some f counted =
      both_ways (some f xs) (some f ys)
      (λ h. let (j, a, p) = of_some f xs h in some_of f ys j (alike.back j a (counted j p)) p)
      (λ h. let (j, a, p) = of_some f ys h in some_of f xs j (alike.there j a (counted j p)) p)

  same_sp : some satisfied_permit xs ≡ some satisfied_permit ys
  same_sp = same_some satisfied_permit (λ j h. by_satisfied (is_permit j.effect) j h)

  same_sf : some satisfied_forbid xs ≡ some satisfied_forbid ys
  same_sf = same_some satisfied_forbid (λ j h. by_satisfied (not (is_permit j.effect)) j h)

  same_rp : some residual_permit xs ≡ some residual_permit ys
  same_rp = same_some residual_permit (λ j h. by_open (is_permit j.effect) j h)

  same_rf : some residual_forbid xs ≡ some residual_forbid ys
  same_rf = same_some residual_forbid (λ j h. by_open (not (is_permit j.effect)) j h)

  pub same_decision : decision xs ≡ decision ys
  same_decision = λ i. decision_by (same_sf i) (same_sp i) (same_rp i) (same_rf i)

  same_must : in_must xs ≡ in_must ys
  same_must = λ i j. cond (same_sf i || same_rf i) (satisfied_forbid j) (satisfied_permit j)

  same_may : in_may xs ≡ in_may ys
  same_may = λ i j. cond (same_sf i) (satisfied_forbid j || residual_forbid j) (satisfied_permit j || residual_permit j || residual_forbid j)

  -- the same ids pass
  passing : (f g : Judged → Bool) → f ≡ g → Counted f → (id : Text) → HasId xs f id → HasId ys g id
  passing f g same counted id (j, c, is, p) = (j, contains ys j (alike.back j (contained xs j c) (counted j p)), is, sym (ap (λ t. t j) same) ∙ p)

  passing_back : (f g : Judged → Bool) → f ≡ g → Counted g → (id : Text) → HasId ys g id → HasId xs f id
  passing_back f g same counted id (j, c, is, p) = (j, contains xs j (alike.there j (contained ys j c) (counted j p)), is, ap (λ t. t j) same ∙ p)

  pub must_pass : (id : Text) → HasId xs (in_must xs) id → HasId ys (in_must ys) id
  must_pass = passing (in_must xs) (in_must ys) same_must (must_counted xs)

  pub must_pass_back : (id : Text) → HasId ys (in_must ys) id → HasId xs (in_must xs) id
  must_pass_back = passing_back (in_must xs) (in_must ys) same_must (must_counted ys)

  pub may_pass : (id : Text) → HasId xs (in_may xs) id → HasId ys (in_may ys) id
  may_pass = passing (in_may xs) (in_may ys) same_may (may_counted xs)

  pub may_pass_back : (id : Text) → HasId ys (in_may ys) id → HasId xs (in_may xs) id
  may_pass_back = passing_back (in_may xs) (in_may ys) same_may (may_counted ys)

-- ---- the ids of those that pass a test

module _ (f : Judged → Bool) (js : List Judged) (id : Text) where
  pub id_passes : Contains (ids_with f js) id → HasId js f id
  id_passes c =
      let (j, among, is) = unmapped (λ (j : Judged). j.id) (filter f js) id (contained (ids_with f js) id c) in
      let (there, passes) = unfiltered f j js among in
      (j, contains js j there, is, passes)

  pub passes_id : HasId js f id → Contains (ids_with f js) id
  passes_id (j, c, is, passes) =
      contains (ids_with f js) id
      (subst (λ x. IsAmong x (ids_with f js)) is (mapped (λ (j : Judged). j.id) (filter f js) j (filtered f j js (contained js j c) passes)))
