-- What the loop keeps that renames what the other set has more.
use Rattle.std.proofs.Common.{inl, inr, ◌≡◌, Bool, true, false, not, ◌||◌, cond, List, [], ◌∷◌, ◌++◌, map, filter, refl, sym, ap, subst, ◌∙◌, true≢false, None}
use Rattle.std.specs.List.{IsDistinct, AllByRecursion}
use Rattle.std.specs.Map.{keys_of, values_of, lookup}
use Rattle.std.specs.Set.{is_member}
use Rattle.std.proofs.lemmas.List.{append_assoc, map-append}
use Rattle.std.proofs.lemmas.Map.Made.{is_some-lookup, IsDistinct-keys_filter}
use Rattle.std.proofs.lemmas.Bool.{or_left, or_right}
use Rattle.cedar_language.specs.Uid.{Text}
use Rattle.cedar_language.specs.Order.{same_text}
use Rattle.cedar_policy_set.specs.Entries.{Entry, Entries, is_bound}
use Rattle.cedar_policy_set.specs.declared.bounds.BoundKind.{BoundKind}
use Rattle.cedar_policy_set.specs.Bounds.{entry_of, bound_id, entries_of, IsNamed, ListsSlots, ListTheirSlots}
use Rattle.cedar_policy_set.proofs.Distinct.{distinct_apart}
use Rattle.cedar_policy_set.proofs.Finding.{same_id, id_itself, none_from}
use Rattle.cedar_policy_set.proofs.Views.{named_push, listed_push, keys_of_entries, entries_append}
use Rattle.cedar_store.specs.Renaming.{NewIds, conflicts, conflicting, IsRenaming, new_id, renamed}
use Rattle.cedar_store.specs.Merged.{renamed_entry, is_more, joining}
use Rattle.cedar_store.proofs.RenamingLaws.{new_id_apart, more_is_free}

pub record IsJoining (mine theirs : Entries) (renaming : NewIds) (rest : Entries) (more : List (Text × BoundKind)) : Type 0 where
  pub goes_on : entries_of more ++ joining mine renaming rest ≡ joining mine renaming theirs
  pub distinct : IsDistinct same_text (keys_of (joining mine renaming theirs))
  pub named : IsNamed more
  pub listed : ListTheirSlots (values_of more)

-- a filter has no more ids
pub member_of_filter : (p : Text × Entry → Bool) (a : Text) (es : Entries) → is_member same_text (keys_of (filter p es)) a ≡ true
    → is_member same_text (keys_of es) a ≡ true
member_of_filter p a [] h = h
member_of_filter p a (e ∷ es) h = by (p e) h (member_of_filter p a es)
  where
    by : (b : Bool) → is_member same_text (keys_of (cond b (e ∷ filter p es) (filter p es))) a ≡ true
        → (is_member same_text (keys_of (filter p es)) a ≡ true → is_member same_text (keys_of es) a ≡ true)
        → is_member same_text (keys_of (e ∷ es)) a ≡ true
    by true g rest = head (same_text a e.0) g
      where
        head : (c : Bool) → (c || is_member same_text (keys_of (filter p es)) a) ≡ true → (c || is_member same_text (keys_of es) a) ≡ true
        head true k = refl
        head false k = rest k
    by false g rest = or_right (same_text a e.0) (is_member same_text (keys_of es) a) (rest g)

module _ (mine theirs : Entries) (renaming : NewIds) (is : IsRenaming mine theirs renaming) where
  all_apart : (e : Text × Entry) (es : Entries) → is_bound theirs e.0 ≡ true
      → ((a : Text) → is_member same_text (keys_of es) a ≡ true → is_bound theirs a ≡ true)
      → AllByRecursion (λ y. same_text e.0 y ≡ false) (keys_of es)
      → AllByRecursion (λ y. same_text (new_id renaming e.0) y ≡ false) (keys_of (map (renamed_entry renaming) es))
  all_apart e [] here within apart = tt
  all_apart e (f ∷ es) here within apart = (
    new_id_apart mine theirs renaming is e.0 f.0 here (within f.0 (or_left _ _ (id_itself f.0))) apart.0,
    all_apart e es here (λ a m. within a (or_right (same_text a f.0) _ m)) apart.1,
  )

  distinct_joining : (es : Entries) → ((a : Text) → is_member same_text (keys_of es) a ≡ true → is_bound theirs a ≡ true) → IsDistinct same_text (keys_of es)
      → IsDistinct same_text (keys_of (map (renamed_entry renaming) es))
  unfolding IsDistinct
  distinct_joining [] within d = tt
  distinct_joining (e ∷ es) within d =
      let later : (a : Text) → is_member same_text (keys_of es) a ≡ true → is_bound theirs a ≡ true = λ a m. within a (or_right (same_text a e.0) _ m) in
      (all_apart e es (within e.0 (or_left _ _ (id_itself e.0))) later d.0, distinct_joining es later d.1)

  -- the loop begins
  pub join_first : IsDistinct same_text (keys_of theirs) → IsJoining mine theirs renaming theirs []
  join_first d =
      record {
        goes_on = refl;
        named = refl;
        listed = tt;
        distinct = distinct_joining (filter (is_more mine) theirs) (λ a m. is_some-lookup (same_text a) theirs ∙ member_of_filter (is_more mine) a theirs m)
            (IsDistinct-keys_filter same_text (is_more mine) theirs d);
      }

  -- each renamed entry is new to mine
  pub more_are_free : (es : Entries) → ((a : Text) → is_member same_text (conflicting mine es) a ≡ true
      → is_member same_text (conflicting mine theirs) a ≡ true)
      → (a : Text) → is_member same_text (keys_of (joining mine renaming es)) a ≡ true → is_bound mine a ≡ false
  more_are_free [] within a m = absurd (true≢false (sym m))
  more_are_free (e ∷ es) within a m = by (is_bound mine e.0) refl (conflicts mine e) refl m
      (more_are_free es (λ b n. within b (wider b (conflicts mine e) n)) a)
    where
      wider : (b : Text) → (c : Bool) → is_member same_text (conflicting mine es) b ≡ true
          → is_member same_text (keys_of (cond c (e ∷ filter (conflicts mine) es) (filter (conflicts mine) es))) b ≡ true
      wider b true n = or_right (same_text b e.0) _ n
      wider b false n = n

      head : is_bound mine (new_id renaming e.0) ≡ false → (b : Bool) → same_text a (new_id renaming e.0) ≡ b
          → (b || is_member same_text (keys_of (joining mine renaming es)) a) ≡ true
          → (is_member same_text (keys_of (joining mine renaming es)) a ≡ true → is_bound mine a ≡ false) → is_bound mine a ≡ false
      head free true s g go = ap (is_bound mine) (same_id a (new_id renaming e.0) s) ∙ free
      head free false s g go = go g

      by : (b : Bool) → is_bound mine e.0 ≡ b → (c : Bool) → conflicts mine e ≡ c
          → is_member same_text (keys_of (map (renamed_entry renaming) (cond (not b || c) (e ∷ filter (is_more mine) es) (filter (is_more mine) es)))) a ≡ true
          → (is_member same_text (keys_of (joining mine renaming es)) a ≡ true → is_bound mine a ≡ false) → is_bound mine a ≡ false
      by false f c g n go = head (more_is_free mine theirs renaming is e (inr f)) (same_text a (new_id renaming e.0)) refl n go
      by true f false g n go = go n
      by true f true g n go =
          head (more_is_free mine theirs renaming is e
          (inl (within e.0 (ap (λ r. is_member same_text (keys_of (cond r (e ∷ filter (conflicts mine) es) (filter (conflicts mine) es))) e.0) g
          ∙ or_left _ _ (id_itself e.0)))))
          (same_text a (new_id renaming e.0)) refl n go

module _ (mine theirs : Entries) (renaming : NewIds) (e : Text × Entry) (rest : Entries) (more : List (Text × BoundKind))
    (here : is_more mine e ≡ true) (held : IsJoining mine theirs renaming (e ∷ rest) more) where
  head_joins : joining mine renaming (e ∷ rest) ≡ renamed_entry renaming e ∷ joining mine renaming rest
  head_joins = ap (λ b. map (renamed_entry renaming) (cond b (e ∷ filter (is_more mine) rest) (filter (is_more mine) rest))) here

  goes : entries_of more ++ (renamed_entry renaming e ∷ joining mine renaming rest) ≡ joining mine renaming theirs
  goes = ap (λ xs. entries_of more ++ xs) (sym head_joins) ∙ held.goes_on

  -- the next renamed id is new
  pub join_new : lookup (same_text (new_id renaming e.0)) more ≡ None
  join_new =
      let keys : keys_of (joining mine renaming theirs) ≡ keys_of more ++ new_id renaming e.0 ∷ keys_of (joining mine renaming rest) =
      sym (ap keys_of goes) ∙ map-append (λ p. p.0) (entries_of more) (renamed_entry renaming e ∷ joining mine renaming rest)
      ∙ ap (λ ks. ks ++ new_id renaming e.0 ∷ keys_of (joining mine renaming rest)) (keys_of_entries more)
      in
      none_from _
      (is_some-lookup (same_text (new_id renaming e.0)) more
      ∙ distinct_apart (keys_of more) (new_id renaming e.0) (keys_of (joining mine renaming rest)) (subst (IsDistinct same_text) keys held.distinct))

  -- and the loop goes on
  pub join_one : (b : BoundKind) → bound_id b ≡ new_id renaming e.0 → ListsSlots b → entry_of b ≡ renamed renaming e.1
      → IsJoining mine theirs renaming rest (more ++ (bound_id b, b) ∷ [])
  join_one b id lists entry =
      record {
        goes_on =
            ap (λ xs. xs ++ joining mine renaming rest) (entries_append more ((bound_id b, b) ∷ []))
            ∙ append_assoc (entries_of more) ((bound_id b, entry_of b) ∷ []) (joining mine renaming rest)
            ∙ (λ i. entries_of more ++ (id i, entry i) ∷ joining mine renaming rest)
            ∙ goes;
        distinct = held.distinct;
        named = named_push more (bound_id b) b held.named refl;
        listed = listed_push more (bound_id b) b held.listed lists;
      }
