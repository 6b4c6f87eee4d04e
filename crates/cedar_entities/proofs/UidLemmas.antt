-- Sets of uids and the entities that hold them.
use Rattle.std.proofs.Common.{◌≡◌, Bool, true, false, ◌||◌, ◌&&◌, not, List, [], ◌∷◌, ◌++◌, IsTrue, ◌↔◌, refl, sym, ap, ◌∙◌, true≢false}
use Rattle.std.specs.Ordering.{eq_by_cmp}
use Rattle.std.specs.FinSet as set
use Rattle.std.specs.List.{list_any, list_all}
use Rattle.std.specs.Set.{is_member}
use Rattle.std.proofs.lemmas.List.Folds.{list_any-append}
use Rattle.cedar_language.specs.Uid.{Uid}
use Rattle.cedar_language.specs.Order.{uid_cmp, same_uid}
use Rattle.cedar_literals.specs.Laws.{uid_cmp_total, uid_cmp_ties, same_uid_equiv}
use Rattle.std.specs.Prelude.{if◌then◌else◌}
use Rattle.cedar_closure.specs.Graph.{SameKeys}
use Rattle.cedar_entities.specs.Lists.{AreRising, AreInTurn}
use Rattle.cedar_entities.proofs.Distinct.{rising_distinct, members_in_turn, distinct_in_turn}
pub use Rattle.cedar_entities.proofs.UidSets.{contains-listed, contains-items, same_uids, contains-both, uid_is, none_passes, difference_apart}
use Rattle.cedar_entities.specs.Data.{EntityData, UidSet, IsListOf, IsSameEntity, ancestors_of, without}
use Rattle.cedar_lemmas.proofs.Booleans.{or_nothing as or-none, or_swapped as or_last, same_both as equal_tests}

-- the same uids in another order
pub reordered : (us vs : List Uid) → ((q : Uid) → list_any (same_uid q) vs ≡ list_any (same_uid q) us) → set.from_list {R = uid_cmp} vs ≡ set.from_list us
reordered us vs h = same_uids _ _ (λ q. contains-listed vs q ∙ h q ∙ sym (contains-listed us q))

-- ---- unions

-- nothing kept beside a set
pub union-empty : (s : UidSet) → set.union s set.empty ≡ s
union-empty s = same_uids _ _ (λ q. contains-both s set.empty q ∙ ap (λ b. set.contains s q || b) (set.contains-empty uid_cmp q) ∙ or-none (set.contains s q))

-- a uid that is kept beside a set
pub added_beside : (s t : UidSet) (k q : Uid) → set.contains (set.union s (set.insert t k)) q ≡ (same_uid q k || set.contains (set.union s t) q)
added_beside s t k q =
    contains-both s (set.insert t k) q ∙ ap (λ b. set.contains s q || b) (set.contains-insert uid_cmp_total t k q)
    ∙ or_last (set.contains s q) (eq_by_cmp uid_cmp q k) (set.contains t q)
    ∙ ap (λ b. b || (set.contains s q || set.contains t q)) (sym (uid_cmp_ties q k))
    ∙ ap (λ b. same_uid q k || b) (sym (contains-both s t q))

absorbed : (s t : UidSet) (k q : Uid) → set.contains s k ≡ true → (b : Bool) → same_uid q k ≡ b → (set.contains s q || set.contains t q) ≡ (b || (set.contains s q || set.contains t q))
absorbed s t k q there true e = ap (λ u. set.contains s u || set.contains t q) (uid_is q k e) ∙ ap (λ b. b || set.contains t q) there
absorbed s t k q there false e = refl

-- a uid that is there already
pub added_again : (s t : UidSet) (k q : Uid) → set.contains s k ≡ true → set.contains (set.union s t) q ≡ (same_uid q k || set.contains (set.union s t) q)
added_again s t k q there = contains-both s t q ∙ absorbed s t k q there (same_uid q k) refl ∙ ap (λ b. same_uid q k || b) (sym (contains-both s t q))

pub found_first : (a b r : Bool) → r ≡ a → r ≡ true → r ≡ (a || b)
found_first a b r e t = t ∙ sym (ap (λ x. x || b) (sym e ∙ t))

pub found_second : (a b r s : Bool) → r ≡ a → r ≡ false → s ≡ b → s ≡ (a || b)
found_second a b r s e f h = h ∙ sym (ap (λ x. x || b) (sym e ∙ f))

-- first those of one set go, and then those of another
pub differences : (us s t : UidSet) → set.difference (set.difference us s) t ≡ set.difference us (set.union s t)
differences us s t = same_uids _ _ (λ q.
    set.contains-difference uid_cmp_total (set.difference us s) t q ∙ ap (λ b. b && not (set.contains t q)) (set.contains-difference uid_cmp_total us s q)
    ∙ neither (set.contains us q) (set.contains s q) (set.contains t q) ∙ ap (λ b. set.contains us q && not b) (sym (contains-both s t q))
    ∙ sym (set.contains-difference uid_cmp_total us (set.union s t) q))
  where
    neither : (a b c : Bool) → ((a && not b) && not c) ≡ (a && not (b || c))
    neither true true c = refl
    neither true false c = refl
    neither false b c = refl

pub list_rising : (us : List Uid) (s : UidSet) → AreRising us → set.from_list us ≡ s → IsListOf us s
list_rising us s rises is = record { members = λ q. sym (contains-listed us q) ∙ ap (λ x. set.contains x q) is; distinct = rising_distinct us rises }

pub list_in_turn : (s t : UidSet) (us : List Uid) → AreInTurn s t us → IsListOf us (set.union s t)
list_in_turn s t us turn = record { members = members_in_turn s t us turn; distinct = distinct_in_turn s t us turn }

-- ---- entities with other parents or ancestors

pub parents_are : (e n : EntityData) (f : UidSet → UidSet) (ps : UidSet) → e ≡ n → ps ≡ f e.parents → record e { parents = ps } ≡ record n { parents = f n.parents }
parents_are e n f ps is h = ap (λ (qs : UidSet). record e { parents = qs }) h ∙ ap (λ (d : EntityData). record d { parents = f d.parents }) is

pub indirect_are : (e n : EntityData) (is : UidSet) (js : UidSet) → e ≡ n → is ≡ js → record e { indirect = is } ≡ record n { indirect = js }
indirect_are e n is js same h = (λ i. record (same i) { indirect = h i })

pub both_are : (e n : EntityData) (f g : UidSet → UidSet) (ps qs : UidSet) → e ≡ n → ps ≡ f e.parents → qs ≡ g e.indirect → record e { parents = ps; indirect = qs } ≡ record n { parents = f n.parents; indirect = g n.indirect }
both_are e n f g ps qs is h k = (λ i. record e { parents = h i; indirect = k i }) ∙ ap (λ (d : EntityData). record d { parents = f d.parents; indirect = g d.indirect }) is

-- what stands beside the parents once a uid is to be kept there
abbrev pub kept_beside : Uid → EntityData → UidSet
kept_beside k e = if set.contains e.parents k then e.indirect else set.insert e.indirect k

pub kept_new : (k : Uid) (e : EntityData) (vs : UidSet) → set.contains e.parents k ≡ false → vs ≡ set.insert e.indirect k → vs ≡ kept_beside k e
kept_new k e vs h is = is ∙ sym (ap (λ b. if b then e.indirect else set.insert e.indirect k) h)

pub kept_there : (k : Uid) (e : EntityData) → set.contains e.parents k ≡ true → e ≡ record e { indirect = kept_beside k e }
kept_there k e h = ap (λ (is : UidSet). record e { indirect = is }) (sym (ap (λ b. if b then e.indirect else set.insert e.indirect k) h))

more_edges : (k : Uid) (e : EntityData) (q : Uid) (b : Bool) → set.contains e.parents k ≡ b → set.contains (set.union e.parents (if b then e.indirect else set.insert e.indirect k)) q ≡ (same_uid q k || set.contains (ancestors_of e) q)
more_edges k e q true h = added_again e.parents e.indirect k q h
more_edges k e q false h = added_beside e.parents e.indirect k q

-- a uid that is kept is one more edge
pub edges_with : (k : Uid) (e n : EntityData) → n ≡ record e { indirect = kept_beside k e } → SameKeys same_uid (k ∷ set.items (ancestors_of e)) (set.items (ancestors_of n))
edges_with k e n is q =
    sym (contains-items (ancestors_of n) q) ∙ ap (λ (d : EntityData). set.contains (ancestors_of d) q) is
    ∙ more_edges k e q (set.contains e.parents k) refl
    ∙ ap (λ b. same_uid q k || b) (contains-items (ancestors_of e) q)

beside_more : (p i u : Bool) → (p || (i || (u && not p))) ≡ (u || (p || i))
beside_more true i true = refl
beside_more true i false = refl
beside_more false true true = refl
beside_more false true false = refl
beside_more false false true = refl
beside_more false false false = refl

-- so are many
pub edges_with_all : (ks : List Uid) (e n : EntityData) → n ≡ record e { indirect = set.union e.indirect (set.difference (set.from_list ks) e.parents) } → SameKeys same_uid (ks ++ set.items (ancestors_of e)) (set.items (ancestors_of n))
edges_with_all ks e n is q =
    let us = set.from_list {R = uid_cmp} ks in
    sym (contains-items (ancestors_of n) q) ∙ ap (λ (d : EntityData). set.contains (ancestors_of d) q) is
    ∙ contains-both e.parents (set.union e.indirect (set.difference us e.parents)) q
    ∙ ap (λ b. set.contains e.parents q || b) (contains-both e.indirect (set.difference us e.parents) q)
    ∙ ap (λ b. set.contains e.parents q || (set.contains e.indirect q || b)) (set.contains-difference uid_cmp_total us e.parents q)
    ∙ beside_more (set.contains e.parents q) (set.contains e.indirect q) (set.contains us q)
    ∙ ap (λ b. b || (set.contains e.parents q || set.contains e.indirect q)) (contains-listed ks q)
    ∙ ap (λ b. list_any (same_uid q) ks || b) (sym (contains-both e.parents e.indirect q) ∙ contains-items (ancestors_of e) q)
    ∙ sym (list_any-append (same_uid q) ks (set.items (ancestors_of e)))

-- nothing kept beside the parents: they alone are edges
pub edges_without : (e n : EntityData) → n ≡ record e { indirect = set.empty } → SameKeys same_uid (set.items e.parents) (set.items (ancestors_of n))
edges_without e n is q = ap (λ (s : UidSet). is_member same_uid (set.items s) q) (ap ancestors_of is ∙ union-empty e.parents)

-- a list of a set has the set's uids
pub listed_edges : (us : List Uid) (s : UidSet) → ((q : Uid) → is_member same_uid us q ≡ set.contains s q) → SameKeys same_uid (set.items s) us
listed_edges us s h q = h q ∙ contains-items s q

pub listed_all : (us rest all from : List Uid) (s : UidSet) → us ++ rest ≡ all → rest ≡ [] → all ≡ from → ((q : Uid) → is_member same_uid from q ≡ set.contains s q) → SameKeys same_uid (set.items s) us
listed_all us rest all from s along none is h = listed_edges us s (λ q. ap (λ xs. is_member same_uid xs q) (sym (all_taken us rest none) ∙ along ∙ is) ∙ h q)
  where
    all_taken : (xs ys : List Uid) → ys ≡ [] → xs ++ ys ≡ xs
    all_taken [] ys e = e
    all_taken (x ∷ xs) ys e = ap (λ zs. x ∷ zs) (all_taken xs ys e)

-- ---- sets within one another

abbrev pub IsWithin : UidSet → UidSet → Type 0
IsWithin s t = (q : Uid) → set.contains s q ≡ true → set.contains t q ≡ true

pub within_both : (s t : UidSet) → IsWithin s t → IsWithin t s → t ≡ s
within_both s t f g = same_uids t s (λ q. equal_tests _ _ (g q) (f q))

pub within_itself : (s t : UidSet) → t ≡ s → IsWithin s t
within_itself s t e q h = ap (λ x. set.contains x q) e ∙ h

pub within_back : (s t : UidSet) → t ≡ s → IsWithin t s
within_back s t e q h = ap (λ x. set.contains x q) (sym e) ∙ h

-- each listed uid passes a test that equal uids pass alike
pub all_listed : (us : List Uid) (t : UidSet) → list_all (set.contains t) us ≡ true → IsWithin (set.from_list us) t
all_listed us t all q h = passes us all (sym (contains-listed us q) ∙ h)
  where
    passes : (vs : List Uid) → list_all (set.contains t) vs ≡ true → list_any (same_uid q) vs ≡ true → set.contains t q ≡ true
    passes [] a one = absurd (true≢false (sym one))
    passes (v ∷ vs) a one =
        elim (same_uid q v) as (λ b. same_uid q v ≡ b → (b || list_any (same_uid q) vs) ≡ true → set.contains t q ≡ true) [
          | true ↦ λ e _. ap (set.contains t) (uid_is q v e) ∙ first (set.contains t v) (list_all (set.contains t) vs) a
          | false ↦ λ _ rest. passes vs (second (set.contains t v) (list_all (set.contains t) vs) a) rest
        ] refl one
      where
        first : (a b : Bool) → (a && b) ≡ true → a ≡ true
        first true b h = refl
        first false b h = absurd (true≢false (sym h))

        second : (a b : Bool) → (a && b) ≡ true → b ≡ true
        second true b h = h
        second false b h = absurd (true≢false (sym h))

pub listed_within : (us : List Uid) (t : UidSet) → IsWithin (set.from_list us) t → list_all (set.contains t) us ≡ true
listed_within us t within = each us (λ q h. within q (contains-listed us q ∙ h))
  where
    each : (vs : List Uid) → ((q : Uid) → list_any (same_uid q) vs ≡ true → set.contains t q ≡ true) → list_all (set.contains t) vs ≡ true
    each [] h = refl
    each (v ∷ vs) h =
        ap (λ b. b && list_all (set.contains t) vs) (h v (ap (λ b. b || list_any (same_uid v) vs) (same_uid_equiv.refl v)))
        ∙ each vs (λ q one. h q (either_way (same_uid q v) (list_any (same_uid q) vs) one))
      where
        either_way : (a b : Bool) → b ≡ true → (a || b) ≡ true
        either_way true b h = refl
        either_way false b h = h

pub union_within : (s t u : UidSet) → IsWithin s u → IsWithin t u → IsWithin (set.union s t) u
union_within s t u f g q h = one_side (set.contains s q) (set.contains t q) (f q) (g q) (sym (contains-both s t q) ∙ h)
  where
    one_side : (a b : Bool) {c : Bool} → (a ≡ true → c ≡ true) → (b ≡ true → c ≡ true) → (a || b) ≡ true → c ≡ true
    one_side true b f g h = f refl
    one_side false b f g h = g h

pub within_union : (s t u : UidSet) → IsWithin (set.union s t) u → IsWithin s u × IsWithin t u
within_union s t u f = (λ q h. f q (contains-both s t q ∙ ap (λ b. b || set.contains t q) h), λ q h. f q (contains-both s t q ∙ ap (λ b. set.contains s q || b) h ∙ last (set.contains s q)))
  where
    last : (a : Bool) → (a || true) ≡ true
    last true = refl
    last false = refl

-- ---- comparisons of entities

-- a list passes where its set lies within the other
pub subset_listed : (us : List Uid) (s t : UidSet) → set.from_list us ≡ s → list_all (set.contains t) us ≡ set.is_subset s t
subset_listed us s t is = equal_tests _ _
    (λ h. set.contains-is_subset uid_cmp_total s t (λ q k. all_listed us t h q (ap (λ x. set.contains x q) is ∙ k)))
    (λ h. listed_within us t (λ q k. set.is_subset-contains uid_cmp_total s t h q (ap (λ x. set.contains x q) (sym is) ∙ k)))

pub shares_both : (p i t : UidSet) (r s : Bool) → r ≡ set.is_subset p t → r ≡ true → s ≡ set.is_subset i t → IsTrue s ↔ IsWithin (set.union p i) t
shares_both p i t r s e h k = (
  λ h2. union_within p i t (set.is_subset-contains uid_cmp_total p t (sym e ∙ h)) (set.is_subset-contains uid_cmp_total i t (sym k ∙ h2)),
  λ f. k ∙ set.contains-is_subset uid_cmp_total i t (within_union p i t f).1,
)

pub shares_none : (p i t : UidSet) (r : Bool) → r ≡ set.is_subset p t → r ≡ false → IsTrue r ↔ IsWithin (set.union p i) t
shares_none p i t r e h = (λ h2. absurd (true≢false (sym h2 ∙ h)), λ f. e ∙ set.contains-is_subset uid_cmp_total p t (within_union p i t f).0)

pub same_both : (s t : UidSet) (r q : Bool) → IsTrue r ↔ IsWithin s t → r ≡ true → IsTrue q ↔ IsWithin t s → IsTrue q ↔ (t ≡ s)
same_both s t r q f h g = (λ k. within_both s t (f.0 h) (g.0 k), λ e. g.1 (within_back s t e))

pub same_entity : (e f : EntityData) (r s : Bool) → r ≡ same_uid e.uid f.uid → r ≡ true → IsTrue s ↔ ((f.attributes ≡ e.attributes) × (f.tags ≡ e.tags) × (ancestors_of f ≡ ancestors_of e)) → IsTrue s ↔ IsSameEntity e f
same_entity e f r s p h g =
    (λ k. record { uid = sym (uid_is e.uid f.uid (sym p ∙ h)); attributes = (g.0 k).0; tags = (g.0 k).1; ancestors = (g.0 k).2 }, λ k. g.1 (k.attributes, k.tags, k.ancestors))

pub other_entity : (e f : EntityData) (r : Bool) → r ≡ same_uid e.uid f.uid → r ≡ false → IsTrue r ↔ IsSameEntity e f
other_entity e f r p h = (λ k. absurd (true≢false (sym k ∙ h)), λ k. p ∙ ap (same_uid e.uid) k.uid ∙ same_uid_equiv.refl e.uid)

-- ---- entities without some uids among their ancestors

-- one of the uids is an ancestor where it is a parent or is kept beside these
pub one_of_both : (s t : UidSet) (ks : List Uid) → list_any (set.contains (set.union s t)) ks ≡ (list_any (set.contains s) ks || list_any (set.contains t) ks)
one_of_both s t [] = refl
one_of_both s t (k ∷ ks) = ap (λ b. b || list_any (set.contains (set.union s t)) ks) (contains-both s t k) ∙ ap (λ b. (set.contains s k || set.contains t k) || b) (one_of_both s t ks) ∙ four (set.contains s k) (set.contains t k) (list_any (set.contains s) ks) (list_any (set.contains t) ks)
  where
    four : (a b c d : Bool) → ((a || b) || (c || d)) ≡ ((a || c) || (b || d))
    four true b c d = refl
    four false true true d = refl
    four false true false d = refl
    four false false true d = refl
    four false false false d = refl

pub none_of_nothing : (ks : List Uid) → list_any (set.contains (set.empty {R = uid_cmp})) ks ≡ false
none_of_nothing [] = refl
none_of_nothing (k ∷ ks) = ap (λ b. b || list_any (set.contains (set.empty {R = uid_cmp})) ks) (set.contains-empty uid_cmp k) ∙ none_of_nothing ks

pub apart_stays : (e : EntityData) (ks : List Uid) → list_any (set.contains (ancestors_of e)) ks ≡ false → without (set.from_list ks) e ≡ e
apart_stays e ks h =
    let parents = difference_apart e.parents ks (none_passes (set.contains (ancestors_of e)) (set.contains e.parents) (λ q k. contains-both e.parents e.indirect q ∙ ap (λ b. b || set.contains e.indirect q) k) ks h) in
    let indirect = difference_apart e.indirect ks (none_passes (set.contains (ancestors_of e)) (set.contains e.indirect) (λ q k. contains-both e.parents e.indirect q ∙ last (set.contains e.parents q) (set.contains e.indirect q) k) ks h) in
    λ i. record e { parents = parents i; indirect = indirect i }
  where
    last : (a b : Bool) → b ≡ true → (a || b) ≡ true
    last true b k = refl
    last false b k = k

pub without_again : (g : UidSet) (e : EntityData) → without g (without g e) ≡ without g e
without_again g e =
    let parents = twice e.parents in
    let indirect = twice e.indirect in
    λ i. record e { parents = parents i; indirect = indirect i }
  where
    again : (a b : Bool) → ((a && not b) && not b) ≡ (a && not b)
    again true true = refl
    again true false = refl
    again false b = refl

    twice : (s : UidSet) → set.difference (set.difference s g) g ≡ set.difference s g
    twice s = same_uids _ _ (λ q.
        set.contains-difference uid_cmp_total (set.difference s g) g q ∙ ap (λ b. b && not (set.contains g q)) (set.contains-difference uid_cmp_total s g q)
        ∙ again (set.contains s q) (set.contains g q) ∙ sym (set.contains-difference uid_cmp_total s g q))
