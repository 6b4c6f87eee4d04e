-- What the loop over the other set keeps while it numbers the conflicting ids.
use Rattle.std.proofs.Common.{◌≡◌, ℕ, ◌+◌, ◌-◌, ◌^◌, ◌<◌, ◌≤◌, Bool, true, false, not, ◌||◌, cond, List, [], ◌∷◌, ◌++◌, map, filter, length, refl, sym, ap, subst, ◌∙◌, true≢false, arith, is_some, Option, None, Some, ltb, ltb-true, ltb-false}
use Rattle.std.specs.List.{IsDistinct}
use Rattle.std.specs.Map.{keys_of, lookup}
use Rattle.std.specs.Set.{is_member}
use Rattle.std.specs.Option.{option_map_or}
use Rattle.std.proofs.lemmas.List.{append_assoc, append-nil, length-append, length-map, map-append}
use Rattle.std.proofs.lemmas.List.Folds.{list_any-append}
use Rattle.std.proofs.lemmas.Map.Entries.{length-keys_of}
use Rattle.std.proofs.lemmas.Map.Made.{is_some-lookup, IsDistinct-keys_filter}
use Rattle.std.proofs.lemmas.Bool.{or_left, or_right}
use Rattle.cedar_language.specs.Uid.{Text}
use Rattle.cedar_language.specs.Order.{same_text}
use Rattle.cedar_grammar.specs.Syntax.{numbered}
use Rattle.cedar_policy_set.specs.Entries.{Entry, Entries, bound_at, is_bound}
use Rattle.cedar_policy_set.specs.EntryNodes.{same_entry}
use Rattle.cedar_policy_set.proofs.Distinct.{distinct_apart}
use Rattle.cedar_policy_set.proofs.Finding.{same_id, id_itself, none_from}
use Rattle.cedar_store.specs.Renaming.{NewIds, is_taken, conflicts, conflicting, Numbers, IsNextFree}
use Rattle.cedar_store.specs.Room.{HasRoom}

-- the ids that are used: mine, those that only theirs has, and the new ones
abbrev only_theirs : Entries → Text × Entry → Bool
only_theirs mine e = not (is_bound mine e.0)

pub used : Entries → Entries → NewIds → List Text
used mine theirs renaming = keys_of mine ++ (keys_of (filter (only_theirs mine) theirs) ++ map (λ r. r.1) renaming)

pub record IsNumbered (mine theirs rest : Entries) (from : ℕ) (renaming : NewIds) : Type 0 where
  pub goes_on : (more : NewIds) → Numbers mine theirs (conflicting mine rest) from more → Numbers mine theirs (conflicting mine theirs) 0 (renaming ++ more)
  pub keys : keys_of renaming ++ conflicting mine rest ≡ conflicting mine theirs
  pub below : (k : ℕ) → k < from → is_member same_text (used mine theirs renaming) (numbered k) ≡ true
  pub distinct : IsDistinct same_text (keys_of theirs)
  pub small : length mine + length theirs < 2 ^ 64 - 1

pub conflict_is_bound : (mine : Entries) (e : Text × Entry) → conflicts mine e ≡ true → is_bound mine e.0 ≡ true
conflict_is_bound mine e = by (bound_at mine e.0)
  where
    by : (o : Option Entry) → option_map_or (λ b. not (same_entry b e.1)) o false ≡ true → is_some o ≡ true
    by None h = absurd (true≢false (sym h))
    by (Some b) h = refl

-- two tests of which no element passes both leave no more than the list has
apart_filters : {X : Type 0} (p q : X → Bool) → ((x : X) → p x ≡ true → q x ≡ false) → (xs : List X) → length (filter p xs) + length (filter q xs) ≤ length xs
apart_filters p q apart [] = omega arith
apart_filters p q apart (x ∷ xs) = by (p x) (q x) (apart x) (apart_filters p q apart xs)
  where
    by : (b c : Bool) → (b ≡ true → c ≡ false) → length (filter p xs) + length (filter q xs) ≤ length xs → length (cond b (x ∷ filter p xs) (filter p xs)) + length (cond c (x ∷ filter q xs) (filter q xs)) ≤ length (x ∷ xs)
    by true true h r = absurd (true≢false (h refl))
    by true false h r = omega arith
    by false true h r = omega arith
    by false false h r = omega arith

few_conflicts : (mine es : Entries) → length (conflicting mine es) + length (keys_of (filter (only_theirs mine) es)) ≤ length es
few_conflicts mine es =
    rw (length-keys_of (filter (conflicts mine) es), length-keys_of (filter (only_theirs mine) es))
    (apart_filters (conflicts mine) (only_theirs mine) (λ e h. ap not (conflict_is_bound mine e h)) es)

theirs_are_used : (mine : Entries) (id : Text) → is_bound mine id ≡ false → (es : Entries) → is_bound es id ≡ true → is_member same_text (keys_of (filter (only_theirs mine) es)) id ≡ true
theirs_are_used mine id free [] h = absurd (true≢false (sym h))
theirs_are_used mine id free (e ∷ es) h = by (same_text id e.0) refl (only_theirs mine e) refl h (theirs_are_used mine id free es)
  where
    by : (b : Bool) → same_text id e.0 ≡ b → (c : Bool) → only_theirs mine e ≡ c → is_some (cond b (Some e.1) (bound_at es id)) ≡ true
        → (is_bound es id ≡ true → is_member same_text (keys_of (filter (only_theirs mine) es)) id ≡ true)
        → is_member same_text (keys_of (cond c (e ∷ filter (only_theirs mine) es) (filter (only_theirs mine) es))) id ≡ true
    by true s true o g rest = or_left (same_text id e.0) _ s
    by true s false o g rest = absurd (true≢false (sym (ap not (ap (is_bound mine) (sym (same_id id e.0 s)) ∙ free)) ∙ o))
    by false s true o g rest = or_right (same_text id e.0) _ (rest g)
    by false s false o g rest = rest g

-- an id that is bound in either set is used
bound_is_used : (mine theirs : Entries) (renaming : NewIds) (id : Text) → is_taken mine theirs id ≡ true → is_member same_text (used mine theirs renaming) id ≡ true
unfolding used
bound_is_used mine theirs renaming id h =
    list_any-append (same_text id) (keys_of mine) (keys_of (filter (only_theirs mine) theirs) ++ map (λ r. r.1) renaming) ∙ by (is_bound mine id) refl h
  where
    by : (b : Bool) → is_bound mine id ≡ b → (b || is_bound theirs id) ≡ true
        → (is_member same_text (keys_of mine) id || is_member same_text (keys_of (filter (only_theirs mine) theirs) ++ map (λ r. r.1) renaming) id) ≡ true
    by true e g = or_left _ _ (sym (is_some-lookup (same_text id) mine) ∙ e)
    by false e g = or_right (is_member same_text (keys_of mine) id) _
        (list_any-append (same_text id) (keys_of (filter (only_theirs mine) theirs)) (map (λ r. r.1) renaming) ∙ or_left _ _ (theirs_are_used mine id e theirs g))

-- one more new id is one more that is used
used_push : (mine theirs : Entries) (renaming : NewIds) (r : Text × Text) → used mine theirs (renaming ++ r ∷ []) ≡ used mine theirs renaming ++ r.1 ∷ []
unfolding used
used_push mine theirs renaming r =
    let theirs_only = keys_of (filter (only_theirs mine) theirs) in
    ap (λ xs. keys_of mine ++ (theirs_only ++ xs)) (map-append (λ p. p.1) renaming (r ∷ []))
    ∙ ap (λ xs. keys_of mine ++ xs) (sym (append_assoc theirs_only (map (λ p. p.1) renaming) (r.1 ∷ [])))
    ∙ sym (append_assoc (keys_of mine) (theirs_only ++ map (λ p. p.1) renaming) (r.1 ∷ []))

module _ (mine theirs : Entries) (e : Text × Entry) (rest : Entries) (from : ℕ) (renaming : NewIds) where
  head_conflicts : conflicts mine e ≡ true → conflicting mine (e ∷ rest) ≡ e.0 ∷ conflicting mine rest
  head_conflicts h = ap (λ b. keys_of (cond b (e ∷ filter (conflicts mine) rest) (filter (conflicts mine) rest))) h

  -- there is room for one more number
  pub number_room : conflicts mine e ≡ true → IsNumbered mine theirs (e ∷ rest) from renaming → HasRoom mine theirs from
  unfolding used
  number_room h held =
      let lengths : length (keys_of renaming) + length (conflicting mine (e ∷ rest)) ≡ length (conflicting mine theirs) = sym (length-append (keys_of renaming) (conflicting mine (e ∷ rest))) ∙ ap length held.keys in
      let one : length (conflicting mine (e ∷ rest)) ≡ length (conflicting mine rest) + 1 = ap length (head_conflicts h) ∙ omega arith in
      let few = few_conflicts mine theirs in
      let small = held.small in
      let same = length-keys_of renaming in
      let new = length-map renaming (λ r. r.1) in
      let ours = length-keys_of mine in
      let sum : length (used mine theirs renaming) ≡ length (keys_of mine) + (length (keys_of (filter (only_theirs mine) theirs)) + length (map (λ r. r.1) renaming)) =
      length-append (keys_of mine) (keys_of (filter (only_theirs mine) theirs) ++ map (λ r. r.1) renaming) ∙ ap (λ n. length (keys_of mine) + n) (length-append (keys_of (filter (only_theirs mine) theirs)) (map (λ r. r.1) renaming)) in
      record {
        used = used mine theirs renaming;
        few = omega arith;
        bound = bound_is_used mine theirs renaming;
        below = held.below;
      }

  -- the old id is not renamed yet
  pub number_new : conflicts mine e ≡ true → IsNumbered mine theirs (e ∷ rest) from renaming → lookup (same_text e.0) renaming ≡ None
  number_new h held =
      none_from (lookup (same_text e.0) renaming)
      (is_some-lookup (same_text e.0) renaming ∙ distinct_apart (keys_of renaming) e.0 (conflicting mine rest)
      (subst (IsDistinct same_text) (sym held.keys ∙ ap (λ xs. keys_of renaming ++ xs) (head_conflicts h)) (IsDistinct-keys_filter same_text (conflicts mine) theirs held.distinct)))

  -- and the loop goes on
  pub number_one : conflicts mine e ≡ true → IsNumbered mine theirs (e ∷ rest) from renaming → (n : ℕ) → IsNextFree mine theirs from n
      → IsNumbered mine theirs rest (n + 1) (renaming ++ (e.0, numbered n) ∷ [])
  number_one h held n next =
      record {
        goes_on = λ more all. subst (Numbers mine theirs (conflicting mine theirs) 0) (sym (append_assoc renaming ((e.0, numbered n) ∷ []) more))
            (held.goes_on ((e.0, numbered n) ∷ more) (subst (λ ids. Numbers mine theirs ids from ((e.0, numbered n) ∷ more)) (sym (head_conflicts h)) (n, next, refl, all)));
        keys = ap (λ xs. xs ++ conflicting mine rest) (map-append (λ p. p.0) renaming ((e.0, numbered n) ∷ [])) ∙ append_assoc (keys_of renaming) (e.0 ∷ []) (conflicting mine rest)
            ∙ ap (λ xs. keys_of renaming ++ xs) (sym (head_conflicts h)) ∙ held.keys;
        below = λ k lt. ap (λ xs. is_member same_text xs (numbered k)) (used_push mine theirs renaming (e.0, numbered n))
            ∙ list_any-append (same_text (numbered k)) (used mine theirs renaming) (numbered n ∷ []) ∙ reached k lt (ltb k from) refl (ltb k n) refl;
        distinct = held.distinct;
        small = held.small;
      }
    where
      reached : (k : ℕ) → k < n + 1 → (b : Bool) → ltb k from ≡ b → (c : Bool) → ltb k n ≡ c
          → (is_member same_text (used mine theirs renaming) (numbered k) || is_member same_text (numbered n ∷ []) (numbered k)) ≡ true
      reached k lt true b c d = or_left _ _ (held.below k (ltb-true k from b))
      reached k lt false b true d = or_left _ _ (bound_is_used mine theirs renaming (numbered k) (next.passed k (ltb-false k from b) (ltb-true k n d)))
      reached k lt false b false d = or_right _ _ (or_left _ _ (ap (λ m. same_text (numbered k) (numbered m)) same ∙ id_itself (numbered k)))
        where
          same : n ≡ k
          same = let over = ltb-false k n d in omega arith

-- at the end the renaming is whole
pub number_all : (mine theirs : Entries) (from : ℕ) (renaming : NewIds) → IsNumbered mine theirs [] from renaming → Numbers mine theirs (conflicting mine theirs) 0 renaming
number_all mine theirs from renaming held = subst (Numbers mine theirs (conflicting mine theirs) 0) (append-nil renaming) (held.goes_on [] tt)
