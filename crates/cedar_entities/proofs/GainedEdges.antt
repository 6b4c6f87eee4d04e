-- What one entity gains that keeps its parents, and that the map is closed once those below it gain it.
use Rattle.std.proofs.Common.{◌≡◌, ◌↔◌, ◌⊎◌, inl, inr, Bool, true, false, ◌||◌, ◌&&◌, not, cond, length, List, [], ◌∷◌, ◌++◌, Option, None, Some}
use Rattle.std.proofs.Common.{option_map, slice_index_or, refl, sym, ap, subst, ◌∙◌, IsTrue, true≢false, arith}
use Rattle.std.specs.Option.{option_map_or, is_some, IsSomeAnd}
use Rattle.std.specs.FinSet as set
use Rattle.std.specs.List.{list_any, list_all}
use Rattle.std.specs.Set.{is_member}
use Rattle.std.proofs.lemmas.Bool.{or_cases, or_left, or_right, and_parts}
use Rattle.std.proofs.lemmas.List.Folds.{list_any-append}
use Rattle.cedar_language.specs.Uid.{Uid}
use Rattle.cedar_language.specs.Facts.{Reaches, edge}
use Rattle.cedar_language.specs.Order.{uid_cmp, same_uid}
use Rattle.cedar_literals.specs.Laws.{uid_cmp_total, same_uid_equiv}
use Rattle.cedar_closure.proofs.AddedEdges as added
use Rattle.cedar_closure.proofs.Search.{Reaches-joined}
use Rattle.cedar_entities.specs.Data.{EntityData, UidSet, IsListOf, IsSameEntity, ancestors_of}
use Rattle.cedar_entities.specs.Edits.{or_first}
use Rattle.cedar_entities.specs.Held.{held_of, parents_of, IsParent, IsAncestor}
use Rattle.cedar_entities.specs.Kept.{Lookup, held_in, kept_at, IsKept, KeepsAncestors, Covers, IsVersion, AreVersions, put_over, added_to}
use Rattle.cedar_entities.specs.Modes.{IsComputed}
use Rattle.cedar_entities.specs.Beside.{among}
use Rattle.cedar_entities.specs.Gaining.{put_one, KeepsParents, is_new_in, IsThrough, IsGain, ListsBelow, Gains}
use Rattle.cedar_entities.specs.declared.gaining.Gain.{Gain}
use Rattle.cedar_entities.proofs.Lookups.{ancestors_same}
use Rattle.cedar_entities.proofs.UidLemmas.{contains-listed, contains-both, uid_is}
use Rattle.cedar_entities.proofs.Whole.{one_of, which}

-- ---- words

-- a test of the ancestors of what stands there
abbrev of_kept : (UidSet → Bool) → Option EntityData → Bool
of_kept test o = test (option_map_or ancestors_of o set.empty)

and_true : (b : Bool) → (b && true) ≡ b
and_true true = refl
and_true false = refl

or_none : (b : Bool) → (b || false) ≡ b
or_none true = refl
or_none false = refl

-- ---- whether parents are kept

pub keeps_held : (found : Lookup) (e h : EntityData) → Some h ≡ found e.uid → (r : Bool) → r ≡ set.is_subset h.parents e.parents → IsTrue r
    → KeepsParents found e
keeps_held found e h here r is t q p =
    set.is_subset-contains uid_cmp_total h.parents e.parents (sym is ∙ t) q (ap (λ o. set.contains (parents_of (option_map held_of o)) q) here ∙ p)

pub keeps_none : (found : Lookup) (e : EntityData) → None ≡ found e.uid → KeepsParents found e
keeps_none found e none q p =
    absurd (true≢false (sym p ∙ sym (ap (λ o. set.contains (parents_of (option_map held_of o)) q) none) ∙ set.contains-empty uid_cmp q))

pub single : (es : List EntityData) (e : EntityData) → length es ≡ 1 → e ≡ slice_index_or es 0 e → es ≡ e ∷ []
single [] e n is = absurd (omega arith)
single (x ∷ []) e n is = ap (λ (y : EntityData). y ∷ []) (sym is)
single (x ∷ (y ∷ es)) e n is = absurd (omega arith)

pub first_is : (es : List EntityData) (g e : EntityData) → es ≡ g ∷ [] → e ≡ slice_index_or es 0 e → e ≡ g
first_is es g e are is = is ∙ ap (λ xs. slice_index_or xs 0 e) are

pub first_alone : (es : List EntityData) (g e : EntityData) → es ≡ g ∷ [] → e ≡ slice_index_or es 0 e → es ≡ e ∷ []
first_alone es g e are is = are ∙ ap (λ (x : EntityData). x ∷ []) (sym (first_is es g e are is))

-- ---- an entity of a new uid

none_from : (o : Option EntityData) → (not (is_some o) && true) ≡ true → o ≡ None
none_from None h = refl
none_from (Some e) h = absurd (true≢false (sym h))

module _ (found : Lookup) (e : EntityData) (none : found e.uid ≡ None) where
  added_new : (uid : Uid) → added_to found (e ∷ []) uid ≡ put_one found e uid
  added_new uid = by_test (same_uid e.uid uid) refl
    where
      or_nothing : (o : Option EntityData) → or_first o None ≡ o
      or_nothing None = refl
      or_nothing (Some x) = refl

      by_test : (b : Bool) → same_uid e.uid uid ≡ b → or_first (found uid) (cond (same_uid e.uid uid) (Some e) None) ≡ cond (same_uid e.uid uid) (Some e)
          (found uid)
      by_test true t =
          let here : found uid ≡ None = sym (ap found (uid_is e.uid uid t)) ∙ none in
          ap (λ o. or_first o (cond (same_uid e.uid uid) (Some e) None)) here ∙ ap (λ b. cond b (Some e) None) t
          ∙ sym (ap (λ b. cond b (Some e) (found uid)) t)
      by_test false t = ap (λ b. or_first (found uid) (cond b (Some e) None)) t ∙ or_nothing (found uid) ∙ sym (ap (λ b. cond b (Some e) (found uid)) t)

  version_new : IsVersion (added_to found (e ∷ [])) e
  version_new =
      let here : added_to found (e ∷ []) e.uid ≡ Some e = added_new e.uid ∙ ap (λ b. cond b (Some e) (found e.uid)) (same_uid_equiv.refl e.uid) in
      subst (λ o. IsSomeAnd o (λ k. IsSameEntity k e)) (sym here) (record { uid = refl; attributes = refl; tags = refl; ancestors = refl })

module _ (found : Lookup) (es : List EntityData) (e : EntityData) (are : es ≡ e ∷ []) (new : IsTrue (list_all (is_new_in found) es)) where
  none_there : found e.uid ≡ None
  none_there = none_from (found e.uid) (sym (ap (list_all (is_new_in found)) are) ∙ new)

  pub added_is_put : added_to found es ≡ put_over found es
  added_is_put = subst (λ xs. added_to found xs ≡ put_over found xs) (sym are) (λ i uid. added_new found e none_there uid i)

  pub versions_new : AreVersions (added_to found es) es
  versions_new = subst (λ xs. AreVersions (added_to found xs) xs) (sym are) (version_new found e none_there, tt)

-- ---- those below it

pub lists_covered : (found : Lookup) (es : List EntityData) (edited below : List Uid) (e : EntityData) → es ≡ e ∷ []
    → ((q : Uid) → list_any (same_uid q) edited ≡ list_any (λ x. same_uid q x.uid) es) → Covers found edited below → (more : UidSet)
    → ListsBelow found e.uid more below
lists_covered found es edited below e one are covers more a b k m = by_test (among below a) refl
  where
    here : list_any (same_uid e.uid) edited ≡ true
    here = are e.uid ∙ ap (λ xs. list_any (λ (x : EntityData). same_uid e.uid x.uid) xs) one ∙ ap (λ b. b || false) (same_uid_equiv.refl e.uid)

    by_test : (x : Bool) → among below a ≡ x → IsTrue (among below a)
    by_test true t = t
    by_test false n = absurd (true≢false (sym (one_of (set.contains (kept_at found a)) e.uid edited here k) ∙ (covers a n).apart))

pub lists_nothing : (found : Lookup) (from : Uid) (more : UidSet) (below : List Uid) → more ≡ set.empty → ListsBelow found from more below
lists_nothing found from more below none a b k m = absurd (true≢false (sym m ∙ ap (λ s. set.contains s b) none ∙ set.contains-empty uid_cmp b))

-- ---- the parents, and what is kept of them

-- one of these, or kept of one of them
abbrev pub through : Lookup → List Uid → Uid → Bool
through found ps q = list_any (λ p. same_uid q p || set.contains (kept_at found p) q) ps

pub through_goes_on : (found : Lookup) (us vs ws rest more : List Uid) (p k : Uid) (all : Uid → Bool) → rest ≡ p ∷ more → k ≡ p → vs ≡ us ++ k ∷ []
    → ((q : Uid) → list_any (same_uid q) ws ≡ (list_any (same_uid q) vs || set.contains (kept_at found p) q))
    → ((q : Uid) → (list_any (same_uid q) us || through found rest q) ≡ all q) → (q : Uid) → (list_any (same_uid q) ws || through found more q) ≡ all q
through_goes_on found us vs ws rest more p k all step is pushed adds before q =
    let kept = set.contains (kept_at found p) q in
    let left = through found more q in
    ap (λ b. b || left) (adds q)
    ∙ ap (λ ks. (list_any (same_uid q) ks || kept) || left) pushed
    ∙ ap (λ b. (b || kept) || left) (list_any-append (same_uid q) us (k ∷ []))
    ∙ moved (list_any (same_uid q) us) (same_uid q k) kept left
    ∙ ap (λ x. list_any (same_uid q) us || ((same_uid q x || kept) || left)) is
    ∙ ap (λ ps. list_any (same_uid q) us || through found ps q) (sym step)
    ∙ before q
  where
    moved : (u s k t : Bool) → (((u || (s || false)) || k) || t) ≡ (u || ((s || k) || t))
    moved true s k t = refl
    moved false true k t = refl
    moved false false k t = refl

any_weaker : (p r : Uid → Bool) → ((u : Uid) → p u ≡ true → r u ≡ true) → (us : List Uid) → list_any p us ≡ true → list_any r us ≡ true
any_weaker p r on [] h = h
any_weaker p r on (u ∷ us) h = elim (or_cases (p u) (list_any p us) h) [
  | inl k ↦ or_left (r u) (list_any r us) (on u k)
  | inr k ↦ or_right (r u) (list_any r us) (any_weaker p r on us k)
]

pub through_all : (found : Lookup) (s above : UidSet) (ps us rest : List Uid) → IsListOf ps s → above ≡ set.from_list us → rest ≡ []
    → ((q : Uid) → (list_any (same_uid q) us || through found rest q) ≡ through found ps q) → IsThrough found s above
through_all found s above ps us rest lists made none all = record {
  parents_in = λ q h. is q ∙ any_weaker (same_uid q) (test q) (λ u e. or_left (same_uid q u) (set.contains (kept_at found u) q) e) ps (lists.members q ∙ h);
  kept_in = λ p q h k. is q ∙ one_of (test q) p ps (lists.members p ∙ h) (or_right (same_uid q p) (set.contains (kept_at found p) q) k);
  only = λ q h.
      let w = which (test q) ps (sym (is q) ∙ h) in
      let parent : set.contains s w.0 ≡ true = sym (lists.members w.0) ∙ w.1 in
      elim (or_cases (same_uid q w.0) (set.contains (kept_at found w.0) q) w.2) [
        | inl e ↦ inl (ap (set.contains s) (uid_is q w.0 e) ∙ parent)
        | inr k ↦ inr (w.0, parent, k)
      ];
}
  where
    test : Uid → Uid → Bool
    test q p = same_uid q p || set.contains (kept_at found p) q

    is : (q : Uid) → set.contains above q ≡ through found ps q
    is q =
        ap (λ x. set.contains x q) made ∙ contains-listed us q ∙ sym (or_none (list_any (same_uid q) us))
        ∙ sym (ap (λ ks. list_any (same_uid q) us || through found ks q) none) ∙ all q

-- ---- what is lacking

pub nothing_pushed : (found : Lookup) (at : Uid) (us : List Uid) → None ≡ found at → (q : Uid)
    → list_any (same_uid q) us ≡ (list_any (same_uid q) us || set.contains (kept_at found at) q)
nothing_pushed found at us none q =
    sym (or_none (list_any (same_uid q) us)) ∙ ap (λ b. list_any (same_uid q) us || b) (sym (set.contains-empty uid_cmp q))
    ∙ ap (of_kept (λ s. list_any (same_uid q) us || set.contains s q)) none

module _ (found : Lookup) (at : Uid) where
  pub lacks_held : (e : EntityData) (us others : UidSet) → Some e ≡ found at → others ≡ set.difference us (ancestors_of e) → (q : Uid)
      → set.contains others q ≡ (set.contains us q && not (set.contains (kept_at found at) q))
  lacks_held e us others here is q =
      ap (λ s. set.contains s q) is ∙ set.contains-difference uid_cmp_total us (ancestors_of e) q
      ∙ ap (of_kept (λ s. set.contains us q && not (set.contains s q))) here

  pub lacks_none : (us others : UidSet) → None ≡ found at → others ≡ us → (q : Uid)
      → set.contains others q ≡ (set.contains us q && not (set.contains (kept_at found at) q))
  lacks_none us others none is q =
      ap (λ s. set.contains s q) is ∙ sym (and_true (set.contains us q)) ∙ sym (ap (λ b. set.contains us q && not b) (set.contains-empty uid_cmp q))
      ∙ ap (of_kept (λ s. set.contains us q && not (set.contains s q))) none

  -- the same, where the ancestors have one uid
  abbrev pub LacksBelow : Uid → UidSet → UidSet → Type 0
  LacksBelow from more us = (q : Uid) → set.contains us q ≡ (set.contains (kept_at found at) from && (set.contains more q && not
      (set.contains (kept_at found at) q)))

  module _ (from : Uid) (more us : UidSet) where
    abbrev answer : Uid → UidSet → Bool
    answer q s = set.contains s from && (set.contains more q && not (set.contains s q))

    pub below_none : None ≡ found at → us ≡ set.empty → LacksBelow from more us
    below_none none is q =
        ap (λ s. set.contains s q) is ∙ set.contains-empty uid_cmp q
        ∙ sym (ap (λ b. b && (set.contains more q && not (set.contains (set.empty {R = uid_cmp}) q))) (set.contains-empty uid_cmp from))
        ∙ ap (of_kept (answer q)) none

    pub below_apart : (e : EntityData) → Some e ≡ found at → set.contains (ancestors_of e) from ≡ false → us ≡ set.empty → LacksBelow from more us
    below_apart e here apart is q =
        ap (λ s. set.contains s q) is ∙ set.contains-empty uid_cmp q
        ∙ sym (ap (λ b. b && (set.contains more q && not (set.contains (ancestors_of e) q))) apart) ∙ ap (of_kept (answer q)) here

    pub below_held : (e : EntityData) → Some e ≡ found at → set.contains (ancestors_of e) from ≡ true → us ≡ set.difference more (ancestors_of e)
        → LacksBelow from more us
    below_held e here has is q =
        ap (λ s. set.contains s q) is ∙ set.contains-difference uid_cmp_total more (ancestors_of e) q
        ∙ sym (ap (λ b. b && (set.contains more q && not (set.contains (ancestors_of e) q))) has) ∙ ap (of_kept (answer q)) here

-- ---- the edges once the entity is put

module _ (found : Lookup) (e : EntityData) (keeps : KeepsAncestors found) (parents : KeepsParents found e) where
  abbrev Old : Uid → Uid → Type 0
  Old = IsParent (held_in found)

  abbrev New : Uid → Uid → Type 0
  New = IsParent (held_in (put_one found e))

  pub put_there : (a : Uid) → same_uid e.uid a ≡ true → put_one found e a ≡ Some e
  put_there a t = ap (λ b. cond b (Some e) (found a)) t

  pub put_apart : (a : Uid) → same_uid e.uid a ≡ false → put_one found e a ≡ found a
  put_apart a t = ap (λ b. cond b (Some e) (found a)) t

  parent_is : (b : Uid) → set.contains (parents_of (held_in (put_one found e) e.uid)) b ≡ set.contains e.parents b
  parent_is b = ap (λ o. set.contains (parents_of (option_map held_of o)) b) (put_there e.uid (same_uid_equiv.refl e.uid))

  others : (a : Uid) → (a ≡ e.uid) ⊎ ((b : Uid) → New a b ↔ Old a b)
  others a = by_test (same_uid e.uid a) refl
    where
      by_test : (x : Bool) → same_uid e.uid a ≡ x → (a ≡ e.uid) ⊎ ((b : Uid) → New a b ↔ Old a b)
      by_test true t = inl (sym (uid_is e.uid a t))
      by_test false t = inr (λ b. let is = ap (λ o. set.contains (parents_of (option_map held_of o)) b) (put_apart a t) in (λ h. sym is ∙ h, λ h. is ∙ h))

  still : (b : Uid) → Old e.uid b → New e.uid b
  still b h = parent_is b ∙ parents b h

  module _ (above : UidSet) (through_parents : IsThrough found e.parents above) where
    to_above : (b : Uid) → IsTrue (set.contains above b) → added.IsAbove Old New e.uid others still b
    to_above b h = elim (through_parents.only b h) [
      | inl p ↦ inl (parent_is b ∙ p)
      | inr k ↦ inr (k.0, parent_is k.0 ∙ k.1, (keeps.ancestors k.0 b).0 k.2)
    ]

    from_above : (b : Uid) → added.IsAbove Old New e.uid others still b → IsTrue (set.contains above b)
    from_above b (inl h) = through_parents.parents_in b (sym (parent_is b) ∙ h)
    from_above b (inr h) = through_parents.kept_in h.0 b (sym (parent_is h.0) ∙ h.1) ((keeps.ancestors h.0 b).1 h.2)

    pub above_is : (b : Uid) → IsTrue (set.contains above b) ↔ IsAncestor (held_in (put_one found e)) e.uid b
    above_is b = (
      λ h. added.above_reached Old New e.uid others still b (to_above b h),
      λ r. from_above b (added.reached_from_key Old New e.uid others still b r),
    )

  -- ---- the map once those below have gained

  module _ (gain : Gain) (is : IsGain found e gain) (below : List Uid) (lists : ListsBelow found e.uid gain.more below) (now new : Lookup) (w : EntityData)
      (gains : Gains found now e.uid gain.more (among below)) (held : (uid : Uid) → held_in now uid ≡ held_in found uid)
      (made : w ≡ record e { indirect = set.difference gain.above e.parents })
      (puts : (uid : Uid) → new uid ≡ cond (same_uid e.uid uid) (Some w) (now uid)) where
    abbrev Reached : Uid → Uid → Type 0
    Reached a b = IsAncestor (held_in (put_one found e)) a b

    here : (uid : Uid) → same_uid e.uid uid ≡ true → new uid ≡ Some w
    here uid t = puts uid ∙ ap (λ b. cond b (Some w) (now uid)) t

    apart : (uid : Uid) → same_uid e.uid uid ≡ false → new uid ≡ now uid
    apart uid t = puts uid ∙ ap (λ b. cond b (Some w) (now uid)) t

    held_same : (uid : Uid) → held_in new uid ≡ held_in (put_one found e) uid
    held_same uid = by_test (same_uid e.uid uid) refl
      where
        by_test : (x : Bool) → same_uid e.uid uid ≡ x → held_in new uid ≡ held_in (put_one found e) uid
        by_test true t = ap (option_map held_of) (here uid t) ∙ ap (λ (d : EntityData). Some (held_of d)) made
            ∙ sym (ap (option_map held_of) (put_there uid t))
        by_test false t = ap (option_map held_of) (apart uid t) ∙ held uid ∙ sym (ap (option_map held_of) (put_apart uid t))

    filled : (p u : Bool) → (p ≡ true → u ≡ true) → (p || (u && not p)) ≡ u
    filled true u f = sym (f refl)
    filled false true f = refl
    filled false false f = refl

    -- what is kept of the entity is what it reaches
    kept_here : (b : Uid) → set.contains (ancestors_of w) b ≡ set.contains gain.above b
    kept_here b =
        ap (λ (d : EntityData). set.contains (ancestors_of d) b) made
        ∙ contains-both e.parents (set.difference gain.above e.parents) b
        ∙ ap (λ x. set.contains e.parents b || x) (set.contains-difference uid_cmp_total gain.above e.parents b)
        ∙ filled (set.contains e.parents b) (set.contains gain.above b) (λ p. (is.above b).1 (edge (parent_is b ∙ p)))

    kept_there : (a b : Uid) → same_uid e.uid a ≡ true → set.contains (kept_at new a) b ≡ set.contains gain.above b
    kept_there a b t = ap (λ o. set.contains (option_map_or ancestors_of o set.empty) b) (here a t) ∙ kept_here b

    kept_apart : (a b : Uid) → same_uid e.uid a ≡ false → set.contains (kept_at new a) b ≡ set.contains (kept_at now a) b
    kept_apart a b t = ap (λ o. set.contains (option_map_or ancestors_of o set.empty) b) (apart a t)

    from_old : (a b : Uid) → IsKept found a b → Reached a b
    from_old a b k = added.still_reached Old New e.uid others still ((keeps.ancestors a b).0 k)

    more_above : (b : Uid) → IsTrue (set.contains gain.more b) → IsTrue (set.contains gain.above b)
    more_above b m = (and_parts (set.contains gain.above b) (not (set.contains (kept_at found e.uid) b)) (sym (is.more b) ∙ m)).0

    below_reached : (a b : Uid) → IsKept found a e.uid → IsTrue (set.contains gain.above b) → Reached a b
    below_reached a b k h = Reaches-joined (from_old a e.uid k) ((is.above b).0 h)

    sound : (a b : Uid) → IsKept now a b → Reached a b
    sound a b k = elim (gains.only a b k) [
      | inl h ↦ from_old a b h
      | inr h ↦ below_reached a b h.0 (more_above b h.1)
    ]

    -- what is above the entity is gained below it, where it wasn't kept
    gained : (a b : Uid) → IsKept found a e.uid → IsTrue (set.contains gain.above b) → IsKept now a b
    gained a b k h = by_test (set.contains (kept_at found e.uid) b) refl
      where
        by_test : (x : Bool) → set.contains (kept_at found e.uid) b ≡ x → IsKept now a b
        by_test true t = gains.kept a b ((keeps.ancestors a b).1 (Reaches-joined ((keeps.ancestors a e.uid).0 k) ((keeps.ancestors e.uid b).0 t)))
        by_test false t =
            let m : IsTrue (set.contains gain.more b) = is.more b ∙ ap (λ x. x && not (set.contains (kept_at found e.uid) b)) h ∙ ap not t in
            gains.whole a b (lists a b k m) k m

    whole : (a b : Uid) → same_uid e.uid a ≡ false → Reached a b → IsKept now a b
    whole a b t r = elim (added.reached Old New e.uid others still r) [
      | inl h ↦ absurd (true≢false (sym (ap (same_uid e.uid) h.0 ∙ same_uid_equiv.refl e.uid) ∙ t))
      | inr h ↦ elim h [
        | inl o ↦ gains.kept a b ((keeps.ancestors a b).1 o)
        | inr o ↦ gained a b ((keeps.ancestors a e.uid).1 o.0) ((is.above b).1 (added.above_reached Old New e.uid others still b o.1))
      ]
    ]

    never : ¬ (IsTrue (set.contains gain.above e.uid))
    never h = true≢false (sym h ∙ is.acyclic)

    acyclic : (a : Uid) → ¬ (Reached a a)
    acyclic a r = elim (added.reached Old New e.uid others still r) [
      | inl h ↦ never ((is.above e.uid).1 (subst (λ x. Reached e.uid x) h.0 (added.above_reached Old New e.uid others still a h.1)))
      | inr h ↦ elim h [
        | inl o ↦ keeps.acyclic a o
        | inr o ↦ never ((is.above e.uid).1 (Reaches-joined (added.above_reached Old New e.uid others still a o.1) (added.still_reached Old New e.uid others
            still o.0)))
      ]
    ]

    to_put : {a b : Uid} → IsAncestor (held_in new) a b → Reached a b
    to_put r = ancestors_same (held_in new) (held_in (put_one found e)) held_same r

    from_put : {a b : Uid} → Reached a b → IsAncestor (held_in new) a b
    from_put r = ancestors_same (held_in (put_one found e)) (held_in new) (λ uid. sym (held_same uid)) r

    kept_is : (a b : Uid) → IsKept new a b ↔ IsAncestor (held_in new) a b
    kept_is a b = by_test (same_uid e.uid a) refl
      where
        by_test : (x : Bool) → same_uid e.uid a ≡ x → IsKept new a b ↔ IsAncestor (held_in new) a b
        by_test true t =
            let one : e.uid ≡ a = uid_is e.uid a t in (
              λ k. from_put (subst (λ x. Reached x b) one ((is.above b).0 (sym (kept_there a b t) ∙ k))),
              λ r. kept_there a b t ∙ (is.above b).1 (subst (λ x. Reached x b) (sym one) (to_put r)),
            )
        by_test false t = (λ k. from_put (sound a b (sym (kept_apart a b t) ∙ k)), λ r. kept_apart a b t ∙ whole a b t (to_put r))

    pub gain_computes : IsComputed (put_one found e) new
    gain_computes = record {
      held = held_same;
      keeps = record {
        ancestors = kept_is;
        acyclic = λ a r. acyclic a (to_put r);
      };
    }
