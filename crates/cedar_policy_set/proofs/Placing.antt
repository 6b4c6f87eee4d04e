-- Where ids stand among others: once one comes last, and once one is taken away.
use Rattle.std.proofs.Common.{◌≡◌, ℕ, suc, ◌+◌, ◌-◌, ◌<◌, Bool, true, false, not, ◌||◌, cond, ltb, lt-ltb, le-ltb, ltb-true, ltb-false, List, [], ◌∷◌, ◌++◌, length, refl, sym, ap, subst, ◌∙◌, true≢false, Option, None, Some, arith}
use Rattle.std.specs.Prelude.{option_map, position, remove}
use Rattle.std.specs.List.{position_or_len, list_any, AllByRecursion, IsDistinct}
use Rattle.std.specs.Option.{unwrap_or}
use Rattle.std.proofs.lemmas.Map.Keys.{apart_from_distinct, IsDistinct-from_apart, IsDistinct-head, IsDistinct-tail}
use Rattle.std.proofs.lemmas.List.Quantifiers.{all_pairs_remove}
use Rattle.cedar_language.specs.Uid.{Text}
use Rattle.cedar_language.specs.Order.{same_text}
use Rattle.cedar_policy_set.specs.ClosedPlaces.{closed_up}
use Rattle.cedar_policy_set.proofs.Finding.{same_id, id_itself, some_apart}

pub onward : (p : ℕ) → 1 + p ≡ suc p
onward p = omega arith

-- ids that stand apart stay so without one
pub distinct_without : (ids : List Text) (p : ℕ) → p < length ids → IsDistinct same_text ids → IsDistinct same_text (remove ids p)
distinct_without ids p within d =
    IsDistinct-from_apart same_text (remove ids p) (all_pairs_remove (λ x y. same_text x y ≡ false) ids p within (λ i j e below at. apart_from_distinct same_text ids i j e d below at))

-- the position among more ids, by that among those behind the first
step : (test : Text → Bool) (x : Text) (xs : List Text) → position test (x ∷ xs) ≡ cond (test x) (Some 0) (option_map suc (position test xs))
step test x xs = by (test x) (ltb (position_or_len test xs) (length xs)) refl
  where
    by : (b c : Bool) → ltb (position_or_len test xs) (length xs) ≡ c → cond (ltb (cond (not b) (1 + position_or_len test xs) 0) (length (x ∷ xs))) (Some (cond (not b) (1 + position_or_len test xs) 0)) None
        ≡ cond b (Some 0) (option_map suc (cond c (Some (position_or_len test xs)) None))
    by true c e = ap (λ d. cond d (Some 0) None) (lt-ltb 0 (length (x ∷ xs)) (omega arith))
    by false true e =
        let within = ltb-true _ _ e in
        ap (λ d. cond d (Some (1 + position_or_len test xs)) None) (lt-ltb (1 + position_or_len test xs) (length (x ∷ xs)) (omega arith)) ∙ ap Some (onward (position_or_len test xs))
    by false false e =
        let behind = ltb-false _ _ e in ap (λ d. cond d (Some (1 + position_or_len test xs)) None) (le-ltb (1 + position_or_len test xs) (length (x ∷ xs)) (omega arith))

-- ---- an id comes last

pub last_stands : (xs : List Text) (id : Text) → list_any (same_text id) xs ≡ false → position (same_text id) (xs ++ id ∷ []) ≡ Some (length xs)
last_stands [] id free = step (same_text id) id [] ∙ ap (λ b. cond b (Some 0) None) (id_itself id)
last_stands (x ∷ xs) id free = step (same_text id) x (xs ++ id ∷ []) ∙ by (same_text id x) free (last_stands xs id)
  where
    by : (b : Bool) → (b || list_any (same_text id) xs) ≡ false → (list_any (same_text id) xs ≡ false → position (same_text id) (xs ++ id ∷ []) ≡ Some (length xs))
        → cond b (Some 0) (option_map suc (position (same_text id) (xs ++ id ∷ []))) ≡ Some (length (x ∷ xs))
    by true g rest = absurd (true≢false g)
    by false g rest = ap (option_map suc) (rest g)

pub others_stay : (test : Text → Bool) (xs : List Text) (id : Text) → test id ≡ false → position test (xs ++ id ∷ []) ≡ position test xs
others_stay test [] id other = step test id [] ∙ ap (λ b. cond b (Some 0) None) other
others_stay test (x ∷ xs) id other = step test x (xs ++ id ∷ []) ∙ ap (λ o. cond (test x) (Some 0) (option_map suc o)) (others_stay test xs id other) ∙ sym (step test x xs)

-- ---- an id is taken away

none_of : (test : Text → Bool) (xs : List Text) → AllByRecursion (λ x. test x ≡ false) xs → position test xs ≡ None
none_of test [] none = refl
none_of test (x ∷ xs) none = step test x xs ∙ ap (λ b. cond b (Some 0) (option_map suc (position test xs))) none.0 ∙ ap (option_map suc) (none_of test xs none.1)

-- the first position, and the rest where it isn't that
before : (o : Option ℕ) (i : ℕ) → Some i ≡ option_map suc o → (j : ℕ) × (i ≡ suc j) × (Some j ≡ o)
before None i h = absurd (some_apart i None refl (sym h))
before (Some j) i h = (j, ap (λ o. unwrap_or o 0) h, refl)

pub gone : (xs : List Text) (id : Text) (i : ℕ) → IsDistinct same_text xs → Some i ≡ position (same_text id) xs → position (same_text id) (remove xs i) ≡ None
gone [] id i distinct at = absurd (some_apart i None refl (sym at))
gone (x ∷ xs) id i distinct at = by (same_text id x) refl (at ∙ step (same_text id) x xs) (λ j there. gone xs id j (IsDistinct-tail same_text x xs distinct) there)
  where
    by : (b : Bool) → same_text id x ≡ b → Some i ≡ cond b (Some 0) (option_map suc (position (same_text id) xs))
        → ((j : ℕ) → Some j ≡ position (same_text id) xs → position (same_text id) (remove xs j) ≡ None) → position (same_text id) (remove (x ∷ xs) i) ≡ None
    by true e h rest =
        let first : 0 ≡ i = ap (λ o. unwrap_or o 0) (sym h) in
        subst (λ k. position (same_text id) (remove (x ∷ xs) k) ≡ None) first
        (none_of (same_text id) xs (subst (λ y. AllByRecursion (λ z. same_text y z ≡ false) xs) (sym (same_id id x e)) (IsDistinct-head same_text x xs distinct)))
    by false e h rest =
        let (j, is, there) = before (position (same_text id) xs) i h in
        ap (λ k. position (same_text id) (remove (x ∷ xs) k)) is ∙ step (same_text id) x (remove xs j) ∙ ap (λ b. cond b (Some 0) (option_map suc (position (same_text id) (remove xs j)))) e
        ∙ ap (option_map suc) (rest j there)

closed_first : (o : Option ℕ) → option_map (closed_up 0) (option_map suc o) ≡ o
closed_first None = refl
closed_first (Some p) = let less : suc p - 1 ≡ p = omega arith in ap (λ b. Some (cond b (suc p - 1) (suc p))) (lt-ltb 0 (suc p) (omega arith)) ∙ ap Some less

closed_behind : (i : ℕ) (o : Option ℕ) → option_map (closed_up (suc i)) (option_map suc o) ≡ option_map suc (option_map (closed_up i) o)
closed_behind i None = refl
closed_behind i (Some p) = ap Some (by (ltb i p) refl)
  where
    by : (b : Bool) → ltb i p ≡ b → closed_up (suc i) (suc p) ≡ suc (closed_up i p)
    by true e =
        let below = ltb-true i p e in
        let less : suc p - 1 ≡ suc (p - 1) = omega arith in
        ap (λ b. cond b (suc p - 1) (suc p)) (lt-ltb (suc i) (suc p) (omega arith)) ∙ less ∙ sym (ap (λ b. suc (cond b (p - 1) p)) e)
    by false e =
        let least = ltb-false i p e in ap (λ b. cond b (suc p - 1) (suc p)) (le-ltb (suc i) (suc p) (omega arith)) ∙ sym (ap (λ b. suc (cond b (p - 1) p)) e)

closed_before : (i : ℕ) → closed_up (suc i) 0 ≡ 0
closed_before i = ap (λ b. cond b (0 - 1) 0) (le-ltb (suc i) 0 (omega arith))

-- where others stand, once the first that one test passes is taken away
pub moves_up : (one test : Text → Bool) (xs : List Text) (i : ℕ) → ((x : Text) → one x ≡ true → test x ≡ false) → Some i ≡ position one xs → position test (remove xs i) ≡ option_map (closed_up i) (position test xs)
moves_up one test [] i apart at = absurd (some_apart i None refl (sym at))
moves_up one test (x ∷ xs) i apart at = by (one x) refl (at ∙ step one x xs) (λ j there. moves_up one test xs j apart there)
  where
    behind : (j : ℕ) (b : Bool) → position test (remove xs j) ≡ option_map (closed_up j) (position test xs)
        → cond b (Some 0) (option_map suc (position test (remove xs j))) ≡ option_map (closed_up (suc j)) (cond b (Some 0) (option_map suc (position test xs)))
    behind j true g = ap Some (sym (closed_before j))
    behind j false g = ap (option_map suc) g ∙ sym (closed_behind j (position test xs))

    by : (b : Bool) → one x ≡ b → Some i ≡ cond b (Some 0) (option_map suc (position one xs))
        → ((j : ℕ) → Some j ≡ position one xs → position test (remove xs j) ≡ option_map (closed_up j) (position test xs)) → position test (remove (x ∷ xs) i) ≡ option_map (closed_up i) (position test (x ∷ xs))
    by true e h rest =
        let first : 0 ≡ i = ap (λ o. unwrap_or o 0) (sym h) in
        let other = step test x xs ∙ ap (λ b. cond b (Some 0) (option_map suc (position test xs))) (apart x e) in
        subst (λ k. position test (remove (x ∷ xs) k) ≡ option_map (closed_up k) (position test (x ∷ xs))) first
        (sym (ap (option_map (closed_up 0)) other ∙ closed_first (position test xs)))
    by false e h rest =
        let (j, is, there) = before (position one xs) i h in
        ap (λ k. position test (remove (x ∷ xs) k)) is ∙ step test x (remove xs j) ∙ behind j (test x) (rest j there)
        ∙ sym (ap (λ k. option_map (closed_up k) (position test (x ∷ xs))) is ∙ ap (option_map (closed_up (suc j))) (step test x xs))
