-- A merge with the policies of a text is the world's load of that text.
use Rattle.std.proofs.Common.{inl, inr, ◌≡◌, ◌≢◌, ℕ, suc, ◌+◌, ◌^◌, ◌<◌, ◌≤◌, Bool, true, false, not, ◌||◌, cond, List, [], ◌∷◌, ◌++◌, map, filter, length, refl, sym, ap, subst, ◌∙◌, true≢false, arith, is_some, Option, None, Some, unwrap_or, ltb, ltb-true, ltb-false}
use Rattle.std.specs.List.{IsDistinct, AllByRecursion}
use Rattle.std.specs.Map.{keys_of, lookup}
use Rattle.std.specs.Option.{option_map, option_map_or}
use Rattle.std.specs.FinMap as finmap
use Rattle.std.specs.FinMap.{get-insert, same_map}
use Rattle.std.specs.Ordering.{eq_by_cmp}
use Rattle.std.specs.Set.{is_member}
use Rattle.std.proofs.lemmas.List.{append_assoc, append-nil, map-append}
use Rattle.std.proofs.lemmas.Map.Made.{is_some-lookup}
use Rattle.std.proofs.lemmas.Bool.{or_right}
use Rattle.cedar_language.specs.Uid.{Text}
use Rattle.cedar_language.specs.Order.{same_text, text_cmp}
use Rattle.cedar_language.specs.OrderLaws.{text_cmp_total, text_cmp_same}
use Rattle.cedar_grammar.specs.Syntax.{PolicySyntax, numbered}
use Rattle.cedar_world.specs.World as world
use Rattle.cedar_world.specs.PolicyEdits as edits
use Rattle.cedar_world.specs.PolicyEdits.{own_ids, HasRoom, Conflicts, IsFree, Names}
use Rattle.cedar_policy_set.specs.Entries.{Entry, static_policy, template, link, Entries, bound_at, is_bound}
use Rattle.cedar_policy_set.specs.EntryNodes.{same_entry, entries_decide}
use Rattle.cedar_held.specs.PolicyWorlds.{world_bound, policies_in}
use Rattle.cedar_policy_set.proofs.Distinct.{distinct_apart}
use Rattle.cedar_policy_set.proofs.Finding.{id_apart, same_id, id_itself, none_from, found_first}
use Rattle.cedar_held.proofs.PolicyWorlds.{ties_are, finds_as_worlds, binds_as_worlds}
use Rattle.cedar_store.specs.Renaming as merging
use Rattle.cedar_store.specs.Renaming.{NewIds, conflicts, conflicting, Numbers, new_id, renamed}
use Rattle.cedar_store.specs.Merged.{renamed_entry, is_more, joining}
use Rattle.cedar_policy_set.specs.Texts.{text_entry, text_entries, AreToldBySlots}
use Rattle.cedar_held.specs.LoadWorlds.{LoadsAsWorlds}
use Rattle.cedar_store.proofs.Joins.{member_of_filter}
use Rattle.cedar_store.proofs.Keeps.{false_unless, not_false, or_none, not_renamed}
use Rattle.cedar_store.proofs.Numbers.{numbered_injective}
use Rattle.cedar_store.proofs.RenamingLaws.{numbers_keys}
use Rattle.cedar_held.proofs.TextEntries.{number_in_text, text_has_number, text_bound, text_renamed, text_is_whole}
use Rattle.cedar_store.proofs.Wholes.{all_of, whole_joined}
use Rattle.cedar_lemmas.proofs.Booleans.{or_first as or_false}

not_later : (mine : Entries) (i j : ℕ) (ss : List PolicySyntax) → i < j → j + length ss ≤ 2 ^ 64 → is_member same_text (conflicting mine (text_entries j ss)) (numbered i) ≡ false
not_later mine i j ss under small =
    false_unless _
    (λ m.
    let there : is_bound (text_entries j ss) (numbered i) ≡ true = is_some-lookup (same_text (numbered i)) (text_entries j ss) ∙ member_of_filter (conflicts mine) (numbered i) (text_entries j ss) m in
    let low : j ≤ i = (number_in_text j i ss (omega arith) small there).0 in
    omega arith)

abbrev syntax_in : PolicySyntax → world.Bound → PolicySyntax
syntax_in s (world.Policy r) = r
syntax_in s (world.Link t b) = s

abbrev is_written : world.Bound → Bool
is_written (world.Policy r) = true
is_written (world.Link t b) = false

abbrev bound_in : world.Bound → Option world.Bound → world.Bound
bound_in b None = b
bound_in b (Some c) = c

module _ (mine : Entries) (told : AreToldBySlots mine) where
  found : (id : Text) (o : Option Entry) → bound_at mine id ≡ o → finmap.get (policies_in mine) id ≡ option_map world_bound o
  found id o f = finds_as_worlds mine id ∙ ap (option_map world_bound) f

  -- what the world sees as this policy is what the text binds
  is_text : (id : Text) (s : PolicySyntax) (e : Entry) → bound_at mine id ≡ Some e → world_bound e ≡ world.Policy s → e ≡ text_entry s
  is_text id s (static_policy r) f v =
      let same : r ≡ s = ap (syntax_in r) v in
      sym (ap (λ b. cond b (template r) (static_policy r)) (told.policies id r f)) ∙ ap text_entry same
  is_text id s (template r) f v =
      let same : r ≡ s = ap (syntax_in r) v in
      sym (ap (λ b. cond b (template r) (static_policy r)) (told.templates id r f)) ∙ ap text_entry same
  is_text id s (link t r b) f v = absurd (true≢false (sym (ap is_written v)))

  room : (i : ℕ) (s : PolicySyntax) → conflicts mine (numbered i, text_entry s) ≡ false → HasRoom (policies_in mine) (numbered i) s
  room i s = by (bound_at mine (numbered i)) refl
    where
      by : (o : Option Entry) → bound_at mine (numbered i) ≡ o → option_map_or (λ b. not (same_entry b (text_entry s))) o false ≡ false → HasRoom (policies_in mine) (numbered i) s
      by None f g = inl (found (numbered i) None f)
      by (Some e) f g =
          let same : e ≡ text_entry s = (entries_decide e (text_entry s)).0 (not_false _ g) in
          inr (found (numbered i) (Some e) f ∙ ap (λ x. Some (world_bound x)) same ∙ ap Some (text_bound s))

  clash : (i : ℕ) (s : PolicySyntax) → conflicts mine (numbered i, text_entry s) ≡ true → Conflicts (policies_in mine) (numbered i) s
  clash i s = by (bound_at mine (numbered i)) refl
    where
      by : (o : Option Entry) → bound_at mine (numbered i) ≡ o → option_map_or (λ b. not (same_entry b (text_entry s))) o false ≡ true → Conflicts (policies_in mine) (numbered i) s
      by None f g = absurd (true≢false (sym g))
      by (Some e) f g = (ap is_some (found (numbered i) (Some e) f), other)
        where
          other : finmap.get (policies_in mine) (numbered i) ≢ Some (world.Policy s)
          other q =
              let seen : world_bound e ≡ world.Policy s = ap (bound_in (world_bound e)) (sym (found (numbered i) (Some e) f) ∙ q) in
              true≢false (sym g ∙ ap not ((entries_decide e (text_entry s)).1 (is_text (numbered i) s e f seen)))

  next : (all : List PolicySyntax) (from n : ℕ) → length all ≤ 2 ^ 64 → merging.IsNextFree mine (text_entries 0 all) from n → edits.IsNextFree (policies_in mine) (length all) from n
  next all from n fits is =
      record {
        reached = is.reached;
        free = (found (numbered n) None (none_from _ (or_false (is_bound mine (numbered n)) (is_bound (text_entries 0 all) (numbered n)) is.free)), above (ltb n (length all)) refl);
        first = λ m low under free. passed m under free (is_bound mine (numbered m)) refl (is.passed m low under);
      }
    where
      above : (b : Bool) → ltb n (length all) ≡ b → length all ≤ n
      above true e =
          let under : n < length all = ltb-true n (length all) e in
          absurd (true≢false (sym (or_right (is_bound mine (numbered n)) (is_bound (text_entries 0 all) (numbered n)) (text_has_number 0 n all (omega arith) (omega arith))) ∙ is.free))
      above false e = ltb-false n (length all) e

      passed : (m : ℕ) → m < n → IsFree (policies_in mine) (length all) m → (b : Bool) → is_bound mine (numbered m) ≡ b → (b || is_bound (text_entries 0 all) (numbered m)) ≡ true → ⊥
      passed m under free true e h = there (bound_at mine (numbered m)) refl e
        where
          there : (o : Option Entry) → bound_at mine (numbered m) ≡ o → is_some o ≡ true → ⊥
          there None f g = true≢false (sym g)
          there (Some x) f g = true≢false (ap is_some (sym (found (numbered m) (Some x) f) ∙ free.0))
      passed m under free false e h =
          let small = is.fits in
          let high : m < 0 + length all = (number_in_text 0 m all (omega arith) (omega arith) h).1 in
          let low : length all ≤ m = free.1 in
          omega arith

  -- the ids that the text gets are the world's
  module _ (all : List PolicySyntax) (fits : length all ≤ 2 ^ 64) (f : Text → Text) where
    pub names : (i : ℕ) (ss : List PolicySyntax) (from : ℕ) (r : NewIds) → i + length ss ≤ 2 ^ 64 → Numbers mine (text_entries 0 all) (conflicting mine (text_entries i ss)) from r
        → ((j : ℕ) → i ≤ j → j < i + length ss → f (numbered j) ≡ new_id r (numbered j)) → Names (policies_in mine) (length all) i from ss (map f (own_ids i ss))
    names i [] from r small h agrees = tt
    names i (s ∷ ss) from r small h agrees =
        by (conflicts mine (numbered i, text_entry s)) refl r h agrees (λ g k a. names (suc i) ss g k (omega arith) a)
      where
        Goes : ℕ → NewIds → Type 0
        Goes g k =
            Numbers mine (text_entries 0 all) (conflicting mine (text_entries (suc i) ss)) g k
            → ((j : ℕ) → suc i ≤ j → j < suc i + length ss → f (numbered j) ≡ new_id k (numbered j)) → Names (policies_in mine) (length all) (suc i) g ss (map f (own_ids (suc i) ss))

        -- the number itself is none of the later ones
        own : (k : NewIds) → Numbers mine (text_entries 0 all) (conflicting mine (text_entries (suc i) ss)) from k → new_id k (numbered i) ≡ numbered i
        own k h =
            ap (λ o. unwrap_or o (numbered i))
            (none_from (lookup (same_text (numbered i)) k)
            (is_some-lookup (same_text (numbered i)) k ∙ ap (λ ids. is_member same_text ids (numbered i)) (numbers_keys mine (text_entries 0 all) _ from k h) ∙ not_later mine i (suc i) ss (omega arith) (omega arith)))

        later : (q : Text × Text) (k : NewIds) (j : ℕ) → q.0 ≡ numbered i → suc i ≤ j → j < suc i + length ss → new_id (q ∷ k) (numbered j) ≡ new_id k (numbered j)
        later q k j e low high =
            ap (λ c. unwrap_or (cond c (Some q.1) (lookup (same_text (numbered j)) k)) (numbered j))
            (ap (same_text (numbered j)) e ∙ id_apart (numbered j) (numbered i) (λ p. let same : j ≡ i = numbered_injective j i (omega arith) (omega arith) p in omega arith))

        by : (c : Bool) → conflicts mine (numbered i, text_entry s) ≡ c → (k : NewIds)
            → Numbers mine (text_entries 0 all) (keys_of (cond c ((numbered i, text_entry s) ∷ filter (conflicts mine) (text_entries (suc i) ss)) (filter (conflicts mine) (text_entries (suc i) ss)))) from k
            → ((j : ℕ) → i ≤ j → j < i + length (s ∷ ss) → f (numbered j) ≡ new_id k (numbered j)) → ((g : ℕ) (q : NewIds) → Goes g q)
            → Names (policies_in mine) (length all) i from (s ∷ ss) (map f (own_ids i (s ∷ ss)))
        by false g k h a go =
            inl (room i s g, a i (omega arith) (omega arith) ∙ own k h, go from k h (λ j low high. a j (omega arith) (omega arith)))
        by true g [] h a go = absurd h
        by true g (q ∷ k) h a go =
            let n = h.0 in
            let first : new_id (q ∷ k) (numbered i) ≡ numbered n =
            ap (λ p. new_id (p ∷ k) (numbered i)) h.2 ∙ ap (λ c. unwrap_or (cond c (Some (numbered n)) (lookup (same_text (numbered i)) k)) (numbered i)) (id_itself (numbered i))
            in
            let up : n + 1 ≡ suc n = omega arith in
            inr (
              n,
              clash i s g,
              next all from n fits h.1,
              a i (omega arith) (omega arith) ∙ first,
              go (suc n) k (subst (λ m. Numbers mine (text_entries 0 all) (conflicting mine (text_entries (suc i) ss)) m k) up h.3)
                  (λ j low high. a j (omega arith) (omega arith) ∙ later q k j (ap (λ p. p.0) h.2) low high),
            )

-- inserting what is held already changes nothing
insert_held : (p : world.Policies) (id : Text) (b : world.Bound) → finmap.get p id ≡ Some b → finmap.insert p id b ≡ p
insert_held p id b h = same_map text_cmp_total text_cmp_same (finmap.insert p id b) p (λ q. get-insert text_cmp_total p id b q ∙ at q (eq_by_cmp text_cmp q id) refl)
  where
    at : (q : Text) (c : Bool) → eq_by_cmp text_cmp q id ≡ c → cond c (Some b) (finmap.get p q) ≡ finmap.get p q
    at q true e = sym (ap (finmap.get p) (same_id q id (sym (ties_are q id) ∙ e)) ∙ h)
    at q false e = refl

module _ (mine : Entries) (r : NewIds) where
  -- the set that the merge makes is the world's
  joins : (done : Entries) (i : ℕ) (ss : List PolicySyntax) → IsDistinct same_text (keys_of (mine ++ (done ++ joining mine r (text_entries i ss))))
      → AllByRecursion (λ e. conflicts mine e ≡ false → new_id r e.0 ≡ e.0) (text_entries i ss)
      → edits.joined (policies_in (mine ++ done)) ss (map (new_id r) (own_ids i ss)) ≡ policies_in (mine ++ (done ++ joining mine r (text_entries i ss)))
  joins done i [] d stays = ap (λ es. policies_in (mine ++ es)) (sym (append-nil done))
  joins done i (s ∷ ss) d stays = by (is_more mine (numbered i, text_entry s)) refl d (λ more h. joins more (suc i) ss h stays.1)
    where
      by : (c : Bool) → is_more mine (numbered i, text_entry s) ≡ c
          → IsDistinct same_text (keys_of (mine ++ (done ++ map (renamed_entry r) (cond c ((numbered i, text_entry s) ∷ filter (is_more mine) (text_entries (suc i) ss)) (filter (is_more mine) (text_entries (suc i) ss))))))
          → ((more : Entries) → IsDistinct same_text (keys_of (mine ++ (more ++ joining mine r (text_entries (suc i) ss))))
          → edits.joined (policies_in (mine ++ more)) ss (map (new_id r) (own_ids (suc i) ss)) ≡ policies_in (mine ++ (more ++ joining mine r (text_entries (suc i) ss))))
          → edits.joined (finmap.insert (policies_in (mine ++ done)) (new_id r (numbered i)) (world.Policy s)) ss (map (new_id r) (own_ids (suc i) ss))
          ≡ policies_in (mine ++ (done ++ map (renamed_entry r) (cond c ((numbered i, text_entry s) ∷ filter (is_more mine) (text_entries (suc i) ss)) (filter (is_more mine) (text_entries (suc i) ss)))))
      by true e h go =
          let again : done ++ (new_id r (numbered i), renamed r (text_entry s)) ∷ joining mine r (text_entries (suc i) ss)
          ≡ (done ++ (new_id r (numbered i), renamed r (text_entry s)) ∷ []) ++ joining mine r (text_entries (suc i) ss) =
          sym (append_assoc done ((new_id r (numbered i), renamed r (text_entry s)) ∷ []) (joining mine r (text_entries (suc i) ss)))
          in
          let keys : keys_of (mine ++ (done ++ (new_id r (numbered i), renamed r (text_entry s)) ∷ joining mine r (text_entries (suc i) ss)))
          ≡ keys_of (mine ++ done) ++ new_id r (numbered i) ∷ keys_of (joining mine r (text_entries (suc i) ss)) =
          ap keys_of (sym (append_assoc mine done ((new_id r (numbered i), renamed r (text_entry s)) ∷ joining mine r (text_entries (suc i) ss))))
          ∙ map-append (λ p. p.0) (mine ++ done) ((new_id r (numbered i), renamed r (text_entry s)) ∷ joining mine r (text_entries (suc i) ss))
          in
          let free : bound_at (mine ++ done) (new_id r (numbered i)) ≡ None =
          none_from _
          (is_some-lookup (same_text (new_id r (numbered i))) (mine ++ done)
          ∙ distinct_apart (keys_of (mine ++ done)) (new_id r (numbered i)) (keys_of (joining mine r (text_entries (suc i) ss))) (subst (IsDistinct same_text) keys h))
          in
          let bound : world_bound (renamed r (text_entry s)) ≡ world.Policy s = ap world_bound (text_renamed r s) ∙ text_bound s in
          let one : finmap.insert (policies_in (mine ++ done)) (new_id r (numbered i)) (world.Policy s) ≡ policies_in (mine ++ (done ++ (new_id r (numbered i), renamed r (text_entry s)) ∷ [])) =
          ap (finmap.insert (policies_in (mine ++ done)) (new_id r (numbered i))) (sym bound)
          ∙ sym (binds_as_worlds (mine ++ done) (new_id r (numbered i)) (renamed r (text_entry s)) free)
          ∙ ap policies_in (append_assoc mine done ((new_id r (numbered i), renamed r (text_entry s)) ∷ []))
          in
          ap (λ p. edits.joined p ss (map (new_id r) (own_ids (suc i) ss))) one
          ∙ go (done ++ (new_id r (numbered i), renamed r (text_entry s)) ∷ []) (subst (λ es. IsDistinct same_text (keys_of (mine ++ es))) again h)
          ∙ ap (λ es. policies_in (mine ++ es)) (sym again)
      by false e h go =
          let parts = or_none (not (is_bound mine (numbered i))) (conflicts mine (numbered i, text_entry s)) e in
          let held = shared (bound_at mine (numbered i)) refl parts.0 parts.1 in
          let stay : new_id r (numbered i) ≡ numbered i = stays.0 parts.1 in
          let same : finmap.get (policies_in (mine ++ done)) (new_id r (numbered i)) ≡ Some (world.Policy s) =
          ap (finmap.get (policies_in (mine ++ done))) stay
          ∙ finds_as_worlds (mine ++ done) (numbered i)
          ∙ ap (option_map world_bound) (found_first mine done (numbered i) (text_entry s) held)
          ∙ ap Some (text_bound s)
          in
          ap (λ p. edits.joined p ss (map (new_id r) (own_ids (suc i) ss))) (insert_held (policies_in (mine ++ done)) (new_id r (numbered i)) (world.Policy s) same) ∙ go done h
        where
          shared : (o : Option Entry) → bound_at mine (numbered i) ≡ o → not (is_some o) ≡ false → option_map_or (λ b. not (same_entry b (text_entry s))) o false ≡ false
              → bound_at mine (numbered i) ≡ Some (text_entry s)
          shared None f g n = absurd (true≢false g)
          shared (Some x) f g n = f ∙ ap Some ((entries_decide x (text_entry s)).0 (not_false _ n))

pub loads_as_worlds : LoadsAsWorlds
loads_as_worlds mine ss r whole told fits is =
    let text = text_is_whole ss fits in
    let stays = all_of (λ e. conflicts mine e ≡ false → new_id r e.0 ≡ e.0) (text_entries 0 ss) text.distinct
    (λ id e h n. ap (λ o. unwrap_or o id) (not_renamed mine (text_entries 0 ss) r is whole text id e h n)) in
    let distinct = (whole_joined mine (text_entries 0 ss) r is whole text).distinct in
    record {
      names = names mine told ss fits (new_id r) 0 ss 0 r (omega arith) is (λ j low high. refl);
      policies = sym (ap (λ es. edits.joined (policies_in es) ss (map (new_id r) (own_ids 0 ss))) (sym (append-nil mine)) ∙ joins mine r [] 0 ss distinct stays);
    }
