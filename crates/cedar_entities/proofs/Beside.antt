-- Edits of a map that touch some uids alone, and what is put back at these.
use Rattle.std.proofs.Common.{◌≡◌, inl, inr, ◌⊎◌, Bool, true, false, ◌||◌, cond, List, [], ◌∷◌, ◌++◌, Option, Some, option_map, is_some, refl, sym, ap, subst, ◌∙◌, IsTrue}
use Rattle.std.specs.Option.{option_map_or, IsSome}
use Rattle.std.specs.FinSet as set
use Rattle.std.specs.List.{list_any}
use Rattle.std.proofs.lemmas.List.Folds.{list_any-append}
use Rattle.cedar_language.specs.Uid.{Uid}
use Rattle.cedar_language.specs.Order.{same_uid}
use Rattle.cedar_literals.specs.Laws.{same_uid_equiv}
use Rattle.cedar_entities.specs.Data.{EntityData, ancestors_of}
use Rattle.cedar_entities.specs.Held.{held_of}
use Rattle.cedar_entities.specs.Kept.{Lookup, IsByUid}
use Rattle.cedar_entities.specs.Beside.{among, IsSameBeside, Saved, AreSaved, among_saved}
use Rattle.cedar_entities.proofs.UidLemmas.{uid_is}
use Rattle.cedar_lemmas.proofs.Booleans.{or_first as left_false, or_second as right_false}

-- ---- edits one after another

pub beside_itself : (some : Uid → Bool) (f : Lookup) → IsSameBeside some f f
beside_itself some f = record { held = λ uid h. refl; kept = λ a b h. (λ k. k, λ k. k); there = λ uid h. h; by_uid = λ h. h }

pub beside_same : (some : Uid → Bool) (f g : Lookup) → ((uid : Uid) → g uid ≡ f uid) → IsSameBeside some f g
beside_same some f g is =
    let same : f ≡ g = λ i uid. sym (is uid) i in
    subst (IsSameBeside some f) same (beside_itself some f)

pub beside_through : (some : Uid → Bool) (f g h : Lookup) → IsSameBeside some f g → IsSameBeside some g h → IsSameBeside some f h
beside_through some f g h p q = record {
  held = λ uid n. q.held uid n ∙ p.held uid n;
  kept = λ a b n. (λ k. (p.kept a b n).0 ((q.kept a b n).0 k), λ k. (q.kept a b n).1 ((p.kept a b n).1 k));
  there = λ uid k. q.there uid (p.there uid k);
  by_uid = λ k. q.by_uid (p.by_uid k);
}

pub beside_wider : (some more : Uid → Bool) → ((uid : Uid) → more uid ≡ false → some uid ≡ false) → (f g : Lookup) → IsSameBeside some f g → IsSameBeside more f g
beside_wider some more on f g p = record {
  held = λ uid n. p.held uid (on uid n);
  kept = λ a b n. p.kept a b (on a n);
  there = p.there;
  by_uid = p.by_uid;
}

pub beside_agreeing : (some : Uid → Bool) (f g : Lookup) → ((uid : Uid) → some uid ≡ false → g uid ≡ f uid) → ((uid : Uid) → IsSome (f uid) → IsSome (g uid)) → (IsByUid f → IsByUid g) → IsSameBeside some f g
beside_agreeing some f g agrees there by = record {
  held = λ uid n. ap (option_map held_of) (agrees uid n);
  kept = λ a b n.
      let is = ap (λ o. set.contains (option_map_or ancestors_of o set.empty) b) (agrees a n) in
      (λ k. sym is ∙ k, λ k. is ∙ k);
  there = there;
  by_uid = by;
}

-- one entity is put under its uid
pub beside_put : (f g : Lookup) (e : EntityData) (k : Uid) → k ≡ e.uid → ((uid : Uid) → g uid ≡ cond (same_uid k uid) (Some e) (f uid)) → IsSameBeside (λ q. same_uid q e.uid) f g
beside_put f g e k is puts =
    beside_agreeing (λ q. same_uid q e.uid) f g
    (λ uid n. puts uid ∙ ap (λ b. cond b (Some e) (f uid)) (ap (λ u. same_uid u uid) is ∙ same_uid_equiv.symm e.uid uid ∙ n))
    (λ uid h. ap is_some (puts uid) ∙ still uid (same_uid k uid) h)
    (λ by uid x h. of_uid by uid x (same_uid k uid) refl (sym (puts uid) ∙ h))
  where
    still : (uid : Uid) (b : Bool) → IsSome (f uid) → IsSome (cond b (Some e) (f uid))
    still uid true h = refl
    still uid false h = h

    of_uid : IsByUid f → (uid : Uid) (x : EntityData) (b : Bool) → same_uid k uid ≡ b → cond b (Some e) (f uid) ≡ Some x → IsTrue (same_uid x.uid uid)
    of_uid by uid x true t h =
        let one : e ≡ x = inj h in
        ap (λ (y : EntityData). same_uid y.uid uid) (sym one) ∙ ap (λ u. same_uid u uid) (sym is) ∙ t
      where
        inj : ◌≡◌ {A = Option EntityData} (Some e) (Some x) → e ≡ x
        inj p = cc
    of_uid by uid x false t h = by uid x h

-- another value is written where one stands, under its uid
pub beside_written : (f g : Lookup) (at : Uid) (e w : EntityData) → Some e ≡ f at → w.uid ≡ e.uid → ((uid : Uid) → g uid ≡ cond (same_uid at uid) (Some w) (f uid)) → IsSameBeside (λ q. same_uid q at) f g
beside_written f g at e w here is writes =
    beside_agreeing (λ q. same_uid q at) f g
    (λ uid n. writes uid ∙ ap (λ b. cond b (Some w) (f uid)) (same_uid_equiv.symm at uid ∙ n))
    (λ uid h. ap is_some (writes uid) ∙ still uid (same_uid at uid) h)
    (λ by uid x h. of_uid by uid x (same_uid at uid) refl (sym (writes uid) ∙ h))
  where
    still : (uid : Uid) (b : Bool) → IsSome (f uid) → IsSome (cond b (Some w) (f uid))
    still uid true h = refl
    still uid false h = h

    of_uid : IsByUid f → (uid : Uid) (x : EntityData) (b : Bool) → same_uid at uid ≡ b → cond b (Some w) (f uid) ≡ Some x → IsTrue (same_uid x.uid uid)
    of_uid by uid x true t h =
        let one : w ≡ x = inj h in
        ap (λ (y : EntityData). same_uid y.uid uid) (sym one) ∙ ap (λ u. same_uid u uid) is ∙ by uid e (sym (ap f (uid_is at uid t)) ∙ sym here)
      where
        inj : ◌≡◌ {A = Option EntityData} (Some w) (Some x) → w ≡ x
        inj p = cc
    of_uid by uid x false t h = by uid x h

-- ---- one after another

-- one of the uids of some things
abbrev pub among_by : {X : Type 0} → (X → Uid) → List X → Uid → Bool
among_by key xs q = list_any (λ x. same_uid q (key x)) xs

module _ {X : Type 0} (key : X → Uid) where
  -- those passed changed what stands at the uids of them all, and the rest are among these
  pub record IsPassing (before now : Lookup) (all rest : List X) : Type 0 where
    pub beside : IsSameBeside (among_by key all) before now
    pub within : (q : Uid) → among_by key all q ≡ false → among_by key rest q ≡ false

  pub passing_begins : (f : Lookup) (all : List X) → IsPassing f f all all
  passing_begins f all = record { beside = beside_itself (among_by key all) f; within = λ q n. n }

  pub passing_goes_on : (before now next : Lookup) (all rest more : List X) (x : X) → rest ≡ x ∷ more → IsSameBeside (λ q. same_uid q (key x)) now next → IsPassing before now all rest → IsPassing before next all more
  passing_goes_on before now next all rest more x step one p =
      let within : (q : Uid) → among_by key all q ≡ false → (same_uid q (key x) || among_by key more q) ≡ false = λ q n. sym (ap (λ xs. among_by key xs q) step) ∙ p.within q n in
      record {
        beside = beside_through (among_by key all) before now next p.beside (beside_wider (λ q. same_uid q (key x)) (among_by key all) (λ q n. left_false (same_uid q (key x)) (among_by key more q) (within q n)) now next one);
        within = λ q n. right_false (same_uid q (key x)) (among_by key more q) (within q n);
      }

-- ---- saving what stands there

pub record IsSaving (found : Lookup) (uids : List Uid) (all : List Saved) (left : List Uid) : Type 0 where
  pub stood : AreSaved found all
  pub listed : (q : Uid) → (among_saved all q || among left q) ≡ among uids q

saved_more : (found : Lookup) (all : List Saved) (s : Saved) → AreSaved found all → s.1 ≡ found s.0 → AreSaved found (all ++ s ∷ [])
saved_more found [] s h k = (k, tt)
saved_more found (t ∷ all) s h k = (h.0, saved_more found all s h.1 k)

moved : (a b r : Bool) → ((a || (b || false)) || r) ≡ (a || (b || r))
moved true b r = refl
moved false true r = refl
moved false false r = refl

pub saving_goes_on : (found : Lookup) (uids left rest : List Uid) (all : List Saved) (x k : Uid) (o : Option EntityData) → left ≡ x ∷ rest → k ≡ x → o ≡ found x → IsSaving found uids all left → IsSaving found uids (all ++ (k, o) ∷ []) rest
saving_goes_on found uids left rest all x k o step is here p = record {
  stood = saved_more found all (k, o) p.stood (here ∙ ap found (sym is));
  listed = λ q.
      ap (λ b. b || among rest q) (list_any-append (λ (s : Saved). same_uid q s.0) all ((k, o) ∷ []))
      ∙ moved (among_saved all q) (same_uid q k) (among rest q)
      ∙ ap (λ u. among_saved all q || (same_uid q u || among rest q)) is
      ∙ ap (λ us. among_saved all q || among us q) (sym step)
      ∙ p.listed q;
}

pub saving_ends : (found : Lookup) (uids left : List Uid) (all : List Saved) → left ≡ [] → IsSaving found uids all left → (q : Uid) → among_saved all q ≡ among uids q
saving_ends found uids left all none p q = sym (or_none (among_saved all q)) ∙ ap (λ us. among_saved all q || among us q) (sym none) ∙ p.listed q
  where
    or_none : (b : Bool) → (b || false) ≡ b
    or_none true = refl
    or_none false = refl

-- ---- putting it back

-- o is put at k where it may be
abbrev pub PutsBack : Lookup → Lookup → Uid → Option EntityData → Type 0
PutsBack now next k o = (IsSome o → IsSome (now k)) → (q : Uid) → next q ≡ cond (same_uid k q) o (now q)

-- what is left to be put back stood there, and at all other uids the same is held
pub record IsLeftToPutBack (before now : Lookup) (rest : List Saved) : Type 0 where
  pub stood : AreSaved before rest
  pub beside : IsSameBeside (among_saved rest) before now

module _ (before now next : Lookup) (rest more : List Saved) (k : Uid) (o : Option EntityData) (step : rest ≡ (k, o) ∷ more) (puts_back : PutsBack now next k o) (p : IsLeftToPutBack before now rest) where
  stood : AreSaved before ((k, o) ∷ more)
  stood = subst (AreSaved before) step p.stood

  puts : (q : Uid) → next q ≡ cond (same_uid k q) o (now q)
  puts = puts_back (λ h. p.beside.there k (sym (ap is_some stood.0) ∙ h))

  -- at k stands what stood there, and at all others what now stands there
  abbrev Either : Uid → Type 0
  Either uid = (next uid ≡ before uid) ⊎ ((next uid ≡ now uid) × (same_uid uid k ≡ false))

  either : (uid : Uid) → Either uid
  either uid = by_test (same_uid k uid) refl
    where
      by_test : (b : Bool) → same_uid k uid ≡ b → Either uid
      by_test true t = inl (puts uid ∙ ap (λ b. cond b o (now uid)) t ∙ stood.0 ∙ ap before (uid_is k uid t))
      by_test false t = inr (puts uid ∙ ap (λ b. cond b o (now uid)) t, same_uid_equiv.symm uid k ∙ t)

  still_among : (uid : Uid) → same_uid uid k ≡ false → among_saved more uid ≡ false → among_saved rest uid ≡ false
  still_among uid t n = ap (λ ss. among_saved ss uid) step ∙ ap (λ b. b || among_saved more uid) t ∙ n

  pub put_back_goes_on : IsLeftToPutBack before next more
  put_back_goes_on = record {
    stood = stood.1;
    beside = record {
      held = λ uid n. elim (either uid) [
        | inl h ↦ ap (option_map held_of) h
        | inr h ↦ ap (option_map held_of) h.0 ∙ p.beside.held uid (still_among uid h.1 n)
      ];
      kept = λ a b n. elim (either a) [
        | inl h ↦ let is = ap (λ e. set.contains (option_map_or ancestors_of e set.empty) b) h in (λ j. sym is ∙ j, λ j. is ∙ j)
        | inr h ↦
            let is = ap (λ e. set.contains (option_map_or ancestors_of e set.empty) b) h.0 in
            let was = p.beside.kept a b (still_among a h.1 n) in
            (λ j. was.0 (sym is ∙ j), λ j. is ∙ was.1 j)
      ];
      there = λ uid j. elim (either uid) [
        | inl h ↦ ap is_some h ∙ j
        | inr h ↦ ap is_some h.0 ∙ p.beside.there uid j
      ];
      by_uid = λ by uid e j. elim (either uid) [
        | inl h ↦ by uid e (sym h ∙ j)
        | inr h ↦ p.beside.by_uid by uid e (sym h.0 ∙ j)
      ];
    };
  }
