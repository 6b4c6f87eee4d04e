-- What is added to ancestors below an entity, and taken back.
use Rattle.std.proofs.Common.{◌≡◌, ◌⊎◌, inl, inr, Bool, true, false, ◌||◌, ◌&&◌, not, cond, List, [], ◌∷◌, ◌++◌, Option, None, Some, option_map, is_some}
use Rattle.std.proofs.Common.{Result, Ok, Err, OnOk, OnErr, refl, sym, ap, subst, ◌∙◌, IsTrue, true≢false}
use Rattle.std.specs.Option.{option_map_or, IsSome}
use Rattle.std.specs.BTreeMap.{BTreeMap, is_at}
use Rattle.std.specs.Map.{lookup}
use Rattle.std.specs.FinSet as set
use Rattle.std.specs.List.{list_any}
use Rattle.std.specs.Set.{is_member}
use Rattle.std.proofs.lemmas.Bool.{or_cases, or_left, or_right, and_parts}
use Rattle.std.proofs.lemmas.List.Folds.{list_any-append}
use Rattle.cedar_language.specs.Uid.{Uid}
use Rattle.cedar_language.specs.Order.{uid_cmp, same_uid}
use Rattle.cedar_literals.specs.Laws.{uid_cmp_total, same_uid_equiv}
use Rattle.cedar_closure.specs.Graph.{edges_at, has_edge_with, HasEdge, SameNodes, IsBetween}
use Rattle.cedar_entities.specs.Beside.{among, nowhere, IsSameBeside}
use Rattle.cedar_entities.specs.Data.{EntityData, UidSet, IsSameBesideAncestors, ancestors_of}
use Rattle.cedar_entities.specs.Held.{held_of, parents_of}
use Rattle.cedar_entities.specs.Kept.{Lookup, in_map, held_in, kept_at, IsKept, IsByUid}
use Rattle.cedar_entities.specs.Gaining.{Added, is_added, HasGained, Gains, losing}
use Rattle.cedar_entities.proofs.Closed.{kept_edges, to_kept, from_kept, held_same, there_at, by_uid_same}
use Rattle.cedar_entities.proofs.GainedEdges.{LacksBelow}
use Rattle.cedar_entities.proofs.UidLemmas.{contains-listed, contains-both, uid_is}

all_true : (x y z : Bool) → x ≡ true → y ≡ true → z ≡ false → (x && (y && not z)) ≡ true
all_true x y z h k l = ap (λ b. b && (y && not z)) h ∙ ap (λ b. b && not z) k ∙ ap not l

not_true : (b : Bool) → not b ≡ true → b ≡ false
not_true true h = absurd (true≢false (sym h))
not_true false h = refl

no_both : (b : Bool) → ¬ (b ≡ true) → b ≡ false
no_both true h = absurd (h refl)
no_both false h = refl

stands : (f : Lookup) (a b : Uid) → IsKept f a b → IsSome (f a)
stands f a b k = at_option (f a) k
  where
    at_option : (o : Option EntityData) → IsTrue (set.contains (option_map_or ancestors_of o set.empty) b) → IsSome o
    at_option None h = absurd (true≢false (sym h ∙ set.contains-empty uid_cmp b))
    at_option (Some e) h = refl

-- ---- one step

-- at a uid these ancestors came in, or some of them, and nothing else changed
pub record IsGrown (now next : Lookup) (at : Uid) (us : UidSet) : Type 0 where
  pub kept : (a b : Uid) → IsKept now a b → IsKept next a b
  pub only : (a b : Uid) → IsKept next a b → IsKept now a b ⊎ ((a ≡ at) × IsTrue (set.contains us b))
  pub same : SameNodes IsSameBesideAncestors now next

abbrev With : Lookup → Uid → List Uid → Uid → Uid → Type 0
With now at vs a b = IsTrue (has_edge_with same_uid kept_edges now at vs a b)

within : (now : Lookup) (at : Uid) (vs : List Uid) (us : UidSet) → set.from_list vs ≡ us → (a b : Uid) → With now at vs a b
    → IsKept now a b ⊎ ((a ≡ at) × IsTrue (set.contains us b))
within now at vs us is a b h = elim (or_cases (is_member same_uid (edges_at kept_edges now a) b) (is_some (now a) && (same_uid a at && is_member same_uid vs
    b)) h) [
      | inl k ↦ inl (to_kept now a b k)
      | inr k ↦
          let p = and_parts (same_uid a at) (is_member same_uid vs b) (and_parts (is_some (now a)) (same_uid a at && is_member same_uid vs b) k).1 in
          inr (uid_is a at p.0, ap (λ s. set.contains s b) (sym is) ∙ contains-listed vs b ∙ p.1)
    ]

-- each edge comes that is added
abbrev pub AddsEach : Lookup → Lookup → Uid → List Uid → Type 0
AddsEach now next at vs = (a b : Uid) → is_member same_uid (edges_at kept_edges next a) b ≡ has_edge_with same_uid kept_edges now at vs a b

module _ (now next : Lookup) (at : Uid) (vs : List Uid) (us : UidSet) (is : set.from_list vs ≡ us) (same : SameNodes IsSameBesideAncestors now next) where
  grown_ok : AddsEach now next at vs → IsGrown now next at us
  grown_ok adds = record {
    kept = λ a b k. to_kept next a b (adds a b ∙ or_left (is_member same_uid (edges_at kept_edges now a) b)
        (is_some (now a) && (same_uid a at && is_member same_uid vs b)) (from_kept now a b k));
    only = λ a b k. within now at vs us is a b (sym (adds a b) ∙ from_kept next a b k);
    same = same;
  }

  grown_err : IsBetween (HasEdge same_uid kept_edges now) (With now at vs) (HasEdge same_uid kept_edges next) → IsGrown now next at us
  grown_err between = record {
    kept = λ a b k. to_kept next a b (between.least a b (from_kept now a b k));
    only = λ a b k. within now at vs us is a b (between.most a b (from_kept next a b k));
    same = same;
  }

  pub grown : {E : Type 0} (r : Result (Unit {0}) E) → OnOk r (AddsEach now next at vs)
      → OnErr r (IsBetween (HasEdge same_uid kept_edges now) (With now at vs) (HasEdge same_uid kept_edges next)) → IsGrown now next at us
  grown (Ok done) h k = grown_ok h
  grown (Err e) h k = grown_err k

  all_came : AddsEach now next at vs → (b : Uid) → IsSome (now at) → IsTrue (set.contains us b) → IsKept next at b
  all_came adds b here h =
      let listed : is_member same_uid vs b ≡ true = sym (ap (λ s. set.contains s b) (sym is) ∙ contains-listed vs b) ∙ h in
      to_kept next at b (adds at b ∙ or_right (is_member same_uid (edges_at kept_edges now at) b) (is_some (now at) && (same_uid at at && is_member same_uid
      vs b))
      (ap (λ x. x && (same_uid at at && is_member same_uid vs b)) here ∙ ap (λ x. x && is_member same_uid vs b) (same_uid_equiv.refl at) ∙ listed))

  module _ (from : Uid) (more : UidSet) (lacks : LacksBelow now at from more us) where
    lacked : (b : Uid) → IsTrue (set.contains us b) → IsKept now at from × IsTrue (set.contains more b) × (set.contains (kept_at now at) b ≡ false)
    lacked b h =
        let p = and_parts (set.contains (kept_at now at) from) (set.contains more b && not (set.contains (kept_at now at) b)) (sym (lacks b) ∙ h) in
        let q = and_parts (set.contains more b) (not (set.contains (kept_at now at) b)) p.1 in
        (p.0, q.0, not_true (set.contains (kept_at now at) b) q.1)

    pub gains_here : AddsEach now next at vs → Gains now next from more (same_uid at)
    gains_here adds =
        let g = grown_ok adds in
        record {
          kept = g.kept;
          only = λ a b k. elim (g.only a b k) [
            | inl h ↦ inl h
            | inr h ↦ let l = lacked b h.1 in inr (subst (λ x. IsKept now x from) (sym h.0) l.0, l.1)
          ];
          whole = λ a b e k m. subst (λ x. IsKept next x b) (uid_is at a e) (came b (subst (λ x. IsKept now x from) (sym (uid_is at a e)) k) m);
        }
      where
        came : (b : Uid) → IsKept now at from → IsTrue (set.contains more b) → IsKept next at b
        came b k m = by_test (set.contains (kept_at now at) b) refl
          where
            by_test : (x : Bool) → set.contains (kept_at now at) b ≡ x → IsKept next at b
            by_test true t = (grown_ok adds).kept at b t
            by_test false t = all_came adds b (stands now at from k) (lacks b ∙ all_true (set.contains (kept_at now at) from) (set.contains more b)
                (set.contains (kept_at now at) b) k m t)

    -- what comes in at the uid is told
    pub gained_grows : (before : Lookup) (all more_told : List Added) (k : Uid) (told : UidSet) → more_told ≡ all ++ (k, told) ∷ [] → k ≡ at → told ≡ us
        → IsGrown now next at us → HasGained before now all → HasGained before next more_told
    gained_grows before all more_told k told pushed is_at is_us g before_now = record {
      held = λ uid. held_same now next same uid ∙ before_now.held uid;
      kept = λ a b h. g.kept a b (before_now.kept a b h);
      only = λ a b h. elim (g.only a b h) [
        | inl n ↦ elim (before_now.only a b n) [
          | inl o ↦ inl o
          | inr o ↦ inr (told_is a b ∙ or_left (is_added all a b) (same_uid a at && set.contains us b) o)
        ]
        | inr n ↦ inr (told_is a b ∙ or_right (is_added all a b) (same_uid a at && set.contains us b) (ap (λ x. x && set.contains us b)
            (ap (λ x. same_uid x at) n.0 ∙ same_uid_equiv.refl at) ∙ n.1))
      ];
      apart = λ a b t. elim (or_cases (is_added all a b) (same_uid a at && set.contains us b) (sym (told_is a b) ∙ t)) [
        | inl h ↦ before_now.apart a b h
        | inr h ↦
            let p = and_parts (same_uid a at) (set.contains us b) h in
            let new : set.contains (kept_at now a) b ≡ false = ap (λ x. set.contains (kept_at now x) b) (uid_is a at p.0) ∙ (lacked b p.1).2 in
            no_both (set.contains (kept_at before a) b) (λ o. true≢false (sym (before_now.kept a b o) ∙ new))
      ];
      there = λ uid h. there_at (now uid) (next uid) (same uid) (before_now.there uid h);
      by_uid = λ b. by_uid_same now next same (before_now.by_uid b);
    }
      where
        or_none : (x : Bool) → (x || false) ≡ x
        or_none true = refl
        or_none false = refl

        told_is : (a b : Uid) → is_added more_told a b ≡ (is_added all a b || (same_uid a at && set.contains us b))
        told_is a b =
            ap (λ xs. is_added xs a b) pushed
            ∙ list_any-append (λ (x : Added). same_uid a x.0 && set.contains x.1 b) all ((k, told) ∷ [])
            ∙ ap (λ x. is_added all a b || x) (or_none (same_uid a k && set.contains told b))
            ∙ ap (λ x. is_added all a b || (same_uid a x && set.contains told b)) is_at
            ∙ ap (λ x. is_added all a b || (same_uid a at && set.contains x b)) is_us

-- ---- one step after another

pub gains_begin : (f : Lookup) (from : Uid) (more : UidSet) (at : Uid → Bool) → ((q : Uid) → ¬ (IsTrue (at q))) → Gains f f from more at
gains_begin f from more at none = record { kept = λ a b k. k; only = λ a b k. inl k; whole = λ a b t k m. absurd (none a t) }

pub gains_through : (f g h : Lookup) (from : Uid) (more : UidSet) (p r s : Uid → Bool) → ((q : Uid) → IsTrue (s q) → IsTrue (p q) ⊎ IsTrue (r q))
    → Gains f g from more p → Gains g h from more r → Gains f h from more s
gains_through f g h from more p r s split x y = record {
  kept = λ a b k. y.kept a b (x.kept a b k);
  only = λ a b k. elim (y.only a b k) [
    | inl j ↦ x.only a b j
    | inr j ↦ inr (was_from a j.0, j.1)
  ];
  whole = λ a b t k m. elim (split a t) [
    | inl i ↦ y.kept a b (x.whole a b i k m)
    | inr i ↦ y.whole a b i (x.kept a from k) m
  ];
}
  where
    was_from : (a : Uid) → IsKept g a from → IsKept f a from
    was_from a k = elim (x.only a from k) [
      | inl j ↦ j
      | inr j ↦ j.0
    ]

-- at the uids that are passed
abbrev pub is_passed : List Uid → List Uid → Uid → Bool
is_passed all rest q = among all q && not (among rest q)

pub none_passed : (all rest : List Uid) → rest ≡ all → (q : Uid) → ¬ (IsTrue (is_passed all rest q))
none_passed all rest is q h = never (among all q) (sym (ap (λ us. among all q && not (among us q)) is) ∙ h)
  where
    never : (b : Bool) → ¬ ((b && not b) ≡ true)
    never true e = true≢false (sym e)
    never false e = true≢false (sym e)

pub passes_one : (all rest more : List Uid) (x : Uid) → rest ≡ x ∷ more → (q : Uid) → IsTrue (is_passed all more q) → IsTrue (is_passed all rest q) ⊎ IsTrue
    (same_uid x q)
passes_one all rest more x step q h = by_test (same_uid q x) refl
  where
    by_test : (b : Bool) → same_uid q x ≡ b → IsTrue (is_passed all rest q) ⊎ IsTrue (same_uid x q)
    by_test true t = inr (same_uid_equiv.symm x q ∙ t)
    by_test false t = inl (ap (λ us. among all q && not (among us q)) step ∙ ap (λ b. among all q && not (b || among more q)) t ∙ h)

pub all_passed : (f g : Lookup) (from : Uid) (more : UidSet) (all rest : List Uid) → rest ≡ [] → Gains f g from more (is_passed all rest)
    → Gains f g from more (among all)
all_passed f g from more all rest none x = record {
  kept = x.kept;
  only = x.only;
  whole = λ a b t k m. x.whole a b (ap (λ us. among all a && not (among us a)) none ∙ ap (λ c. c && true) t) k m;
}

-- ---- what is taken back

pub nothing_gained : (f : Lookup) → HasGained f f []
nothing_gained f = record {
  held = λ uid. refl;
  kept = λ a b k. k;
  only = λ a b k. inl k;
  apart = λ a b t. absurd (true≢false (sym t));
  there = λ uid h. h;
  by_uid = λ h. h;
}

-- a map of the same entries holds the same
pub gained_unchanged : (before : Lookup) (m n : BTreeMap Uid EntityData) (all : List Added) → n.entries ≡ m.entries → HasGained before (in_map m) all
    → HasGained before (in_map n) all
gained_unchanged before m n all same g = subst (λ f. HasGained before f all) (λ i uid. is uid i) g
  where
    is : (uid : Uid) → in_map m uid ≡ in_map n uid
    is uid = ap (λ (es : List (Uid × EntityData)). lookup (is_at (uid_cmp uid)) es) (sym same)

pub nothing_left : (before now : Lookup) (all : List Added) → all ≡ [] → HasGained before now all → IsSameBeside nowhere before now
nothing_left before now all none g = record {
  held = λ uid n. g.held uid;
  kept = λ a b n. (
    λ k. elim (g.only a b k) [
      | inl h ↦ h
      | inr h ↦ absurd (true≢false (sym h ∙ ap (λ xs. is_added xs a b) none))
    ],
    g.kept a b,
  );
  there = g.there;
  by_uid = g.by_uid;
}

-- at a uid these are taken away
abbrev pub Takes : Lookup → Lookup → Uid → UidSet → Type 0
Takes now next at us = (q : Uid) → next q ≡ cond (same_uid at q) (option_map (losing us) (now q)) (now q)

lost_held : (us : UidSet) (b : Bool) (o : Option EntityData) → option_map held_of (cond b (option_map (losing us) o) o) ≡ option_map held_of o
lost_held us true None = refl
lost_held us true (Some e) = refl
lost_held us false o = refl

lost_some : (us : UidSet) (b : Bool) (o : Option EntityData) → IsSome o → IsSome (cond b (option_map (losing us) o) o)
lost_some us true None h = h
lost_some us true (Some e) h = refl
lost_some us false o h = h

lost_uid : (us : UidSet) (uid : Uid) (b : Bool) (o : Option EntityData) → ((e : EntityData) → o ≡ Some e → IsTrue (same_uid e.uid uid)) → (w : EntityData)
    → cond b (option_map (losing us) o) o ≡ Some w → IsTrue (same_uid w.uid uid)
lost_uid us uid true None by w h = let never : ◌≡◌ {A = Option EntityData} None (Some w) = h in cc
lost_uid us uid true (Some e) by w h = let one : losing us e ≡ w = inj (losing us e) w h in ap (λ (d : EntityData). same_uid d.uid uid) (sym one) ∙ by e refl
  where
    inj : (x y : EntityData) → ◌≡◌ {A = Option EntityData} (Some x) (Some y) → x ≡ y
    inj x y p = cc
lost_uid us uid false o by w h = by w h

-- what is kept then was kept, and isn't one of these unless it is a parent
lost_kept : (us : UidSet) (q : Uid) (o : Option EntityData) → IsTrue (set.contains (option_map_or ancestors_of (option_map (losing us) o) set.empty) q)
    → IsTrue (set.contains (option_map_or ancestors_of o set.empty) q) × (IsTrue (set.contains (parents_of (option_map held_of o)) q) ⊎ (set.contains us
    q ≡ false))
lost_kept us q None h = absurd (true≢false (sym h ∙ set.contains-empty uid_cmp q))
lost_kept us q (Some e) h = elim (or_cases (set.contains e.parents q) (set.contains (set.difference e.indirect us) q)
    (sym (contains-both e.parents (set.difference e.indirect us) q) ∙ h)) [
      | inl p ↦ (contains-both e.parents e.indirect q ∙ or_left (set.contains e.parents q) (set.contains e.indirect q) p, inl p)
      | inr d ↦
          let k = and_parts (set.contains e.indirect q) (not (set.contains us q)) (sym (set.contains-difference uid_cmp_total e.indirect us q) ∙ d) in
          (contains-both e.parents e.indirect q ∙ or_right (set.contains e.parents q) (set.contains e.indirect q) k.0, inr (not_true (set.contains us q) k.1))
    ]

still_kept : (us : UidSet) (q : Uid) (o : Option EntityData) → set.contains us q ≡ false → IsTrue (set.contains (option_map_or ancestors_of o set.empty) q)
    → IsTrue (set.contains (option_map_or ancestors_of (option_map (losing us) o) set.empty) q)
still_kept us q None n h = h
still_kept us q (Some e) n h = elim (or_cases (set.contains e.parents q) (set.contains e.indirect q) (sym (contains-both e.parents e.indirect q) ∙ h)) [
  | inl p ↦ contains-both e.parents (set.difference e.indirect us) q ∙ or_left (set.contains e.parents q) (set.contains (set.difference e.indirect us) q) p
  | inr d ↦
      contains-both e.parents (set.difference e.indirect us) q
      ∙ or_right (set.contains e.parents q) (set.contains (set.difference e.indirect us) q) (set.contains-difference uid_cmp_total e.indirect us q
      ∙ ap (λ b. b && not (set.contains us q)) d ∙ ap not n)
]

parent_kept : (q : Uid) (o : Option EntityData) → IsTrue (set.contains (parents_of (option_map held_of o)) q)
    → IsTrue (set.contains (option_map_or ancestors_of o set.empty) q)
parent_kept q None h = h
parent_kept q (Some e) h = contains-both e.parents e.indirect q ∙ or_left (set.contains e.parents q) (set.contains e.indirect q) h

module _ (before now next : Lookup) (all rest : List Added) (at : Uid) (us : UidSet) (step : all ≡ (at, us) ∷ rest) (takes : Takes now next at us)
    (g : HasGained before now all) where
  added_is : (a b : Uid) → is_added all a b ≡ ((same_uid a at && set.contains us b) || is_added rest a b)
  added_is a b = ap (λ xs. is_added xs a b) step

  at_next : (a b : Uid) (x : Bool) → same_uid at a ≡ x → set.contains (kept_at next a) b ≡ set.contains (option_map_or ancestors_of
      (cond x (option_map (losing us) (now a)) (now a)) set.empty) b
  at_next a b x t = ap (λ o. set.contains (option_map_or ancestors_of o set.empty) b) (takes a ∙ ap (λ y. cond y (option_map (losing us) (now a)) (now a)) t)

  kept_still : (a b : Uid) → IsKept before a b → IsKept next a b
  kept_still a b k = by_test (same_uid at a) refl
    where
      by_test : (x : Bool) → same_uid at a ≡ x → IsKept next a b
      by_test true t =
          let isnt = no_both (set.contains us b) (λ h. true≢false (sym k ∙ g.apart a b (added_is a b ∙ or_left (same_uid a at && set.contains us b)
          (is_added rest a b) (ap (λ y. y && set.contains us b) (same_uid_equiv.symm a at ∙ t) ∙ h)))) in
          at_next a b true t ∙ still_kept us b (now a) isnt (g.kept a b k)
      by_test false t = at_next a b false t ∙ g.kept a b k

  left_or_told : (a b : Uid) → IsTrue (is_added all a b) → ¬ (IsTrue (same_uid a at && set.contains us b)) → IsTrue (is_added rest a b)
  left_or_told a b h n = elim (or_cases (same_uid a at && set.contains us b) (is_added rest a b) (sym (added_is a b) ∙ h)) [
    | inl k ↦ absurd (n k)
    | inr k ↦ k
  ]

  only_left : (a b : Uid) → IsKept next a b → IsKept before a b ⊎ IsTrue (is_added rest a b)
  only_left a b k = by_test (same_uid at a) refl
    where
      told : ¬ (IsTrue (same_uid a at && set.contains us b)) → IsKept now a b → IsKept before a b ⊎ IsTrue (is_added rest a b)
      told n h = elim (g.only a b h) [
        | inl o ↦ inl o
        | inr o ↦ inr (left_or_told a b o n)
      ]

      by_test : (x : Bool) → same_uid at a ≡ x → IsKept before a b ⊎ IsTrue (is_added rest a b)
      by_test true t =
          let l = lost_kept us b (now a) (sym (at_next a b true t) ∙ k) in
          elim l.1 [
            | inl p ↦ inl (parent_kept b (before a) (ap (λ o. set.contains (parents_of o) b) (sym (g.held a)) ∙ p))
            | inr n ↦ told (λ h. true≢false (sym (and_parts (same_uid a at) (set.contains us b) h).1 ∙ n)) l.0
          ]
      by_test false t = told (λ h. true≢false (sym (and_parts (same_uid a at) (set.contains us b) h).0 ∙ same_uid_equiv.symm a at ∙ t))
          (sym (at_next a b false t) ∙ k)

  pub taken_back : HasGained before next rest
  taken_back = record {
    held = λ uid. ap (option_map held_of) (takes uid) ∙ lost_held us (same_uid at uid) (now uid) ∙ g.held uid;
    kept = kept_still;
    only = only_left;
    apart = λ a b t. g.apart a b (added_is a b ∙ or_right (same_uid a at && set.contains us b) (is_added rest a b) t);
    there = λ uid h. ap is_some (takes uid) ∙ lost_some us (same_uid at uid) (now uid) (g.there uid h);
    by_uid = λ by uid w h. lost_uid us uid (same_uid at uid) (now uid) (λ e k. g.by_uid by uid e k) w (sym (takes uid) ∙ h);
  }
