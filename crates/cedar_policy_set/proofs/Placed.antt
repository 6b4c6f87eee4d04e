-- Entries by the positions of their ids.
use Rattle.std.proofs.Common.{◌≡◌, ℕ, zero, suc, ◌+◌, ◌<◌, ◌≤◌, Bool, true, false, not, ◌||◌, cond, ltb, ltb-false, List, [], ◌∷◌, ◌++◌, length, get_or, take, drop, refl, sym, ap, subst, ◌∙◌, true≢false, None, Some, is_some, arith}
use Rattle.std.specs.Prelude.{position, remove, slice_set}
use Rattle.std.specs.List.{position_or_len, list_any, IsDistinct}
use Rattle.std.specs.Map.{lookup, keys_of, remove_entry}
use Rattle.std.proofs.lemmas.List.{length-map, map-append, take-map, drop-map, map_more, get_or-map}
use Rattle.std.proofs.lemmas.Map.Keys.{apart_from_distinct, IsDistinct-tail}
use Rattle.std.proofs.lemmas.Map.Made.{is_some-lookup}
use Rattle.std.specs.Cmp.Lexicographic.{nat_list_eq_equiv}
use Rattle.cedar_language.specs.Uid.{Text}
use Rattle.cedar_language.specs.Order.{same_text}
use Rattle.cedar_policy_set.specs.Places.{put}
use Rattle.cedar_policy_set.proofs.Distinct.{distinct_apart}
use Rattle.cedar_policy_set.proofs.Finding.{none_from, some_apart}
use Rattle.cedar_policy_set.proofs.Placing.{onward}
use Rattle.cedar_policy_set.proofs.Telling.{stands_at}

-- an id that stands nowhere
nowhere : (test : Text → Bool) (ids : List Text) → None ≡ position test ids → length ids ≤ position_or_len test ids
nowhere test ids h = by (ltb (position_or_len test ids) (length ids)) refl h
  where
    by : (b : Bool) → ltb (position_or_len test ids) (length ids) ≡ b → None ≡ cond b (Some (position_or_len test ids)) None → length ids ≤ position_or_len test ids
    by true e h = absurd (true≢false (ap is_some (sym h)))
    by false e h = ltb-false _ _ e

module _ {V : Type 0} (test : Text → Bool) where
  abbrev first_of : List (Text × V) → ℕ
  first_of es = position_or_len test (keys_of es)

  behind : (es : List (Text × V)) → length (keys_of es) ≤ first_of es → (lookup test es ≡ None) × (remove_entry test es ≡ es)
  behind [] h = (refl, refl)
  behind (e ∷ es) h = by (test e.0) h (behind es)
    where
      by : (b : Bool) → length (keys_of (e ∷ es)) ≤ cond (not b) (1 + first_of es) 0 → (length (keys_of es) ≤ first_of es → (lookup test es ≡ None) × (remove_entry test es ≡ es))
          → (cond b (Some e.1) (lookup test es) ≡ None) × (cond b es (e ∷ remove_entry test es) ≡ e ∷ es)
      by true g rest = absurd (let never : ⊥ = omega arith in never)
      by false g rest = let (none, same) = rest (omega arith) in (none, ap (λ fs. e ∷ fs) same)

  pub nothing_there : (es : List (Text × V)) → None ≡ position test (keys_of es) → lookup test es ≡ None
  nothing_there es h = (behind es (nowhere test (keys_of es) h)).0

  pub nothing_taken : (es : List (Text × V)) → None ≡ position test (keys_of es) → remove_entry test es ≡ es
  nothing_taken es h = (behind es (nowhere test (keys_of es) h)).1

  at_first : (es : List (Text × V)) → first_of es < length (keys_of es) → (d : Text × V) → (lookup test es ≡ Some ((get_or es (first_of es) d).1)) × (remove es (first_of es) ≡ remove_entry test es)
  at_first [] h d = absurd (let never : ⊥ = omega arith in never)
  at_first (e ∷ es) h d = by (test e.0) h (λ l. at_first es l d)
    where
      by : (b : Bool) → cond (not b) (1 + first_of es) 0 < length (keys_of (e ∷ es))
          → (first_of es < length (keys_of es) → (lookup test es ≡ Some ((get_or es (first_of es) d).1)) × (remove es (first_of es) ≡ remove_entry test es))
          → (cond b (Some e.1) (lookup test es) ≡ Some ((get_or (e ∷ es) (cond (not b) (1 + first_of es) 0) d).1)) × (remove (e ∷ es) (cond (not b) (1 + first_of es) 0) ≡ cond b es (e ∷ remove_entry test es))
      by true g rest = (refl, refl)
      by false g rest =
          let (found, taken) = rest (omega arith) in (
            found ∙ ap (λ i. Some ((get_or (e ∷ es) i d).1)) (sym (onward (first_of es))),
            ap (remove (e ∷ es)) (onward (first_of es)) ∙ ap (λ fs. e ∷ fs) taken,
          )

  -- an id that stands at a position
  pub found_there : (es : List (Text × V)) (p : ℕ) → Some p ≡ position test (keys_of es) → (d : Text × V) → lookup test es ≡ Some ((get_or es p d).1)
  found_there es p h d =
      let (first, within) = stands_at test (keys_of es) p h in (at_first es within d).0 ∙ ap (λ i. Some ((get_or es i d).1)) (sym first)

  pub taken_there : (es : List (Text × V)) (p : ℕ) → Some p ≡ position test (keys_of es) → (d : Text × V) → remove es p ≡ remove_entry test es
  taken_there es p h d = let (first, within) = stands_at test (keys_of es) p h in ap (remove es) first ∙ (at_first es within d).1

module _ {V : Type 0} where
  pub keys_without : (es : List (Text × V)) (p : ℕ) → keys_of (remove es p) ≡ remove (keys_of es) p
  keys_without es p = map-append (λ e. e.0) (take p es) (drop (suc p) es) ∙ sym (λ i. take-map (λ e. e.0) p es i ++ drop-map (λ e. e.0) (suc p) es i)

  pub keys_push : (es : List (Text × V)) (id : Text) (v : V) → keys_of (es ++ (id, v) ∷ []) ≡ keys_of es ++ id ∷ []
  keys_push es id v = map-append (λ e. e.0) es ((id, v) ∷ [])

  pub free_apart : (es : List (Text × V)) (id : Text) → lookup (same_text id) es ≡ None → list_any (same_text id) (keys_of es) ≡ false
  free_apart es id free = sym (is_some-lookup (same_text id) es) ∙ ap is_some free

  -- what comes after entries whose ids stand apart is none of them
  pub next_free : (es : List (Text × V)) (id : Text) (v : V) (rest : List (Text × V)) → IsDistinct same_text (keys_of (es ++ (id, v) ∷ rest)) → lookup (same_text id) es ≡ None
  next_free es id v rest distinct =
      none_from (lookup (same_text id) es)
      (is_some-lookup (same_text id) es ∙ distinct_apart (keys_of es) id (keys_of rest) (subst (IsDistinct same_text) (map-append (λ e. e.0) es ((id, v) ∷ rest)) distinct))

  -- the first ids and the next, which isn't among them
  pub keys_more : (es : List (Text × V)) (k : ℕ) (d : Text × V) → k < length es → keys_of (take (k + 1) es) ≡ keys_of (take k es) ++ (get_or es k d).0 ∷ []
  keys_more es k d within = map_more (λ e. e.0) es k d within

  pub next_apart : (es : List (Text × V)) (k : ℕ) (d : Text × V) → k < length es → IsDistinct same_text (keys_of es) → list_any (same_text (get_or es k d).0) (keys_of (take k es)) ≡ false
  next_apart [] k d within distinct = absurd (let never : ⊥ = omega arith in never)
  next_apart (e ∷ es) zero d within distinct = refl
  next_apart (e ∷ es) (suc k) d within distinct =
      let ids = keys_of (e ∷ es) in
      let here : get_or ids (suc k) d.0 ≡ (get_or (e ∷ es) (suc k) d).0 = get_or-map (λ x. x.0) (e ∷ es) (suc k) d d.0 within in
      let long : length ids ≡ length (e ∷ es) = length-map (e ∷ es) (λ x. x.0) in
      let apart : same_text e.0 (get_or ids (suc k) d.0) ≡ false = apart_from_distinct same_text ids 0 (suc k) d.0 distinct (omega arith) (omega arith) in
      let other : same_text (get_or es k d).0 e.0 ≡ false = nat_list_eq_equiv.symm (get_or es k d).0 e.0 ∙ ap (same_text e.0) (sym here) ∙ apart in
      ap (λ b. b || list_any (same_text (get_or es k d).0) (keys_of (take k es))) other ∙ next_apart es k d (omega arith) (IsDistinct-tail same_text e.0 (keys_of es) distinct)

  -- what is put where an id stands, or else last
  put_first : (es : List (Text × V)) (id : Text) (v : V) → position_or_len (same_text id) (keys_of es) < length (keys_of es) → (d : Text × V)
      → slice_set es (position_or_len (same_text id) (keys_of es)) ((get_or es (position_or_len (same_text id) (keys_of es)) d).0, v) ≡ put es id v
  put_first [] id v within d = absurd (let never : ⊥ = omega arith in never)
  put_first (e ∷ es) id v within d = by (same_text id e.0) within (λ l. put_first es id v l d)
    where
      by : (b : Bool) → cond (not b) (1 + position_or_len (same_text id) (keys_of es)) 0 < length (keys_of (e ∷ es))
          → (position_or_len (same_text id) (keys_of es) < length (keys_of es)
          → slice_set es (position_or_len (same_text id) (keys_of es)) ((get_or es (position_or_len (same_text id) (keys_of es)) d).0, v) ≡ put es id v)
          → slice_set (e ∷ es) (cond (not b) (1 + position_or_len (same_text id) (keys_of es)) 0) ((get_or (e ∷ es) (cond (not b) (1 + position_or_len (same_text id) (keys_of es)) 0) d).0, v)
          ≡ cond b ((e.0, v) ∷ es) (e ∷ put es id v)
      by true l rest = refl
      by false l rest = (λ i. slice_set (e ∷ es) (onward (position_or_len (same_text id) (keys_of es)) i) ((get_or (e ∷ es) (onward (position_or_len (same_text id) (keys_of es)) i) d).0, v)) ∙ ap (λ fs. e ∷ fs) (rest (omega arith))

  pub put_there : (es : List (Text × V)) (id : Text) (v : V) (p : ℕ) → Some p ≡ position (same_text id) (keys_of es) → (d : Text × V) → slice_set es p ((get_or es p d).0, v) ≡ put es id v
  put_there es id v p h d = let (first, within) = stands_at (same_text id) (keys_of es) p h in (λ i. slice_set es (first i) ((get_or es (first i) d).0, v)) ∙ put_first es id v within d

  pub put_last : (es : List (Text × V)) (id : Text) (v : V) → lookup (same_text id) es ≡ None → put es id v ≡ es ++ (id, v) ∷ []
  put_last [] id v h = refl
  put_last (e ∷ es) id v h = by (same_text id e.0) h (put_last es id v)
    where
      by : (b : Bool) → cond b (Some e.1) (lookup (same_text id) es) ≡ None → (lookup (same_text id) es ≡ None → put es id v ≡ es ++ (id, v) ∷ []) → cond b ((e.0, v) ∷ es) (e ∷ put es id v) ≡ e ∷ (es ++ (id, v) ∷ [])
      by true g rest = absurd (some_apart e.1 (Some e.1) g refl)
      by false g rest = ap (λ fs. e ∷ fs) (rest g)

  pub keys_set : (es : List (Text × V)) (p : ℕ) (v : V) (d : Text × V) → keys_of (slice_set es p ((get_or es p d).0, v)) ≡ keys_of es
  keys_set [] p v d = refl
  keys_set (e ∷ es) zero v d = refl
  keys_set (e ∷ es) (suc p) v d = ap (λ ids. e.0 ∷ ids) (keys_set es p v d)
