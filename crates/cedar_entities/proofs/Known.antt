-- Children that are known, and what an edit touches by them.
use Rattle.std.proofs.Common.{◌≡◌, Bool, true, false, not, ◌||◌, ◌&&◌, ◌⊎◌, inl, inr, List, [], ◌∷◌, Option, None, Some, cond, option_map, is_some, refl, sym, ap, subst, ◌∙◌, IsTrue, IfSome, true≢false, Result, Ok, Err, IfOk, OnOk, OnErr}
use Rattle.std.specs.FinSet as set
use Rattle.std.specs.List.{list_any}
use Rattle.std.proofs.lemmas.List.Elements.{All-head, All-tail}
use Rattle.std.specs.Map.{keys_of}
use Rattle.std.specs.BTreeMap.{BTreeMap}
use Rattle.cedar_language.proofs.Booleans.{or_right}
use Rattle.cedar_language.specs.Uid.{Uid}
use Rattle.cedar_language.specs.Facts.{Reaches, edge, further}
use Rattle.cedar_language.specs.Order.{uid_cmp, same_uid}
use Rattle.cedar_literals.specs.Laws.{uid_cmp_total, same_uid_equiv}
use Rattle.cedar_closure.specs.Sources.{has_source}
use Rattle.cedar_closure.specs.declared.sources.Sources.{Sources}
use Rattle.cedar_entities.specs.Data.{EntityData, UidSet, without}
use Rattle.cedar_entities.specs.Held.{held_of, parents_of, IsParent}
use Rattle.cedar_entities.specs.Edits.{last_by, first_by, or_first, IsListed}
use Rattle.cedar_entities.specs.Kept.{Lookup, in_map, held_in, kept_at, same, put_over, added_to, removed_from, KeepsAncestors, Covers}
use Rattle.cedar_entities.specs.Modes.{IsComputed}
use Rattle.cedar_entities.specs.Beside.{nowhere, IsSameBeside}
use Rattle.cedar_entities.specs.Children.{KnowsParents, KnowsAll, KnowsChildren, KnowsIfAny, KeepsKnown}
use Rattle.cedar_entities.proofs.UidLemmas.{uid_is}
use Rattle.cedar_entities.proofs.Gathering.{AreStanding}
use Rattle.cedar_entities.proofs.Sameness.{IsUnderway, begins, goes_on}
use Rattle.cedar_entities.proofs.Untouched.{some_weaker}

-- what stands at the uid is known as a child of each of its parents
abbrev pub KnowsAt : Sources Uid → Uid → Option EntityData → Type 0
KnowsAt index uid o = (b : Uid) → IsTrue (set.contains (parents_of (option_map held_of o)) b) → IsTrue (has_source uid_cmp index b uid)

nothing_known : (index : Sources Uid) (uid : Uid) → KnowsAt index uid None
nothing_known index uid b h = absurd (true≢false (sym h ∙ set.contains-empty uid_cmp b))

-- ---- what edits leave

at_cond : (index : Sources Uid) (e : EntityData) (uid : Uid) (o : Option EntityData) (b : Bool) → same_uid e.uid uid ≡ b → KnowsParents index e → KnowsAt index uid o → KnowsAt index uid (cond b (Some e) o)
at_cond index e uid o true t k h = λ c p. subst (λ u. IsTrue (has_source uid_cmp index c u)) (uid_is e.uid uid t) (k c p)
at_cond index e uid o false t k h = h

last_known : (index : Sources Uid) (es : List EntityData) (uid : Uid) (o : Option EntityData) → KnowsAll index es → KnowsAt index uid o → KnowsAt index uid (last_by same es uid o)
last_known index [] uid o k h = h
last_known index (e ∷ es) uid o k h =
    last_known index es uid (cond (same_uid e.uid uid) (Some e) o) (λ f l. k f (inr l)) (at_cond index e uid o (same_uid e.uid uid) refl (k e (inl refl)) h)

first_known : (index : Sources Uid) (es : List EntityData) (uid : Uid) → KnowsAll index es → KnowsAt index uid (first_by same es uid)
first_known index [] uid k = nothing_known index uid
first_known index (e ∷ es) uid k = at_cond index e uid (first_by same es uid) (same_uid e.uid uid) refl (k e (inl refl)) (first_known index es uid (λ f l. k f (inr l)))

either_known : (index : Sources Uid) (uid : Uid) (o p : Option EntityData) → KnowsAt index uid o → KnowsAt index uid p → KnowsAt index uid (or_first o p)
either_known index uid (Some e) p h k = h
either_known index uid None p h k = k

left_known : (index : Sources Uid) (uid : Uid) (gone : UidSet) (b : Bool) (o : Option EntityData) → KnowsAt index uid o → KnowsAt index uid (cond b None (option_map (without gone) o))
left_known index uid gone true o h = nothing_known index uid
left_known index uid gone false None h = nothing_known index uid
left_known index uid gone false (Some e) h = λ b p. h b (first_true (set.contains e.parents b) (set.contains gone b) (sym (set.contains-difference uid_cmp_total e.parents gone b) ∙ p))
  where
    first_true : (a b : Bool) → (a && not b) ≡ true → a ≡ true
    first_true true b e = refl
    first_true false b e = absurd (true≢false (sym e))

pub put_known : (old : Lookup) (es : List EntityData) (children : Option (Sources Uid)) → KnowsIfAny old children → IfSome children (λ index. KnowsAll index es) → KnowsIfAny (put_over old es) children
put_known old es None h k = tt
put_known old es (Some index) h k = λ a b p. last_known index es a (old a) k (h a) b p

pub added_known : (old : Lookup) (es : List EntityData) (children : Option (Sources Uid)) → KnowsIfAny old children → IfSome children (λ index. KnowsAll index es) → KnowsIfAny (added_to old es) children
added_known old es None h k = tt
added_known old es (Some index) h k = λ a b p. either_known index a (old a) (first_by same es a) (h a) (first_known index es a k) b p

pub removed_known : (old : Lookup) (gone : UidSet) (children : Option (Sources Uid)) → KnowsIfAny old children → KnowsIfAny (removed_from old gone) children
removed_known old gone None h = tt
removed_known old gone (Some index) h = λ a b p. left_known index a gone (set.contains gone a) (old a) (h a) b p

-- what holds the same knows the same
pub known_along : (f g : Lookup) (children : Option (Sources Uid)) → ((uid : Uid) → held_in g uid ≡ held_in f uid) → KnowsIfAny f children → KnowsIfAny g children
known_along f g children is h = some_weaker _ _ (λ index k a b p. k a b (ap (λ o. set.contains (parents_of o) b) (sym (is a)) ∙ p)) children h

-- the edited map, or the old one where the edit is refused
pub known_either : {E : Type 0} (old edited new : Lookup) (children : Option (Sources Uid)) → KnowsIfAny old children → KnowsIfAny edited children → (r : Result (Unit {0}) E) → OnOk r (IsComputed edited new) → OnErr r (IsSameBeside nowhere old new) → KnowsIfAny new children
known_either old edited new children h k (Ok done) computed left = known_along edited new children computed.held k
known_either old edited new children h k (Err e) computed left = known_along old new children (λ uid. left.held uid refl) h

-- ---- one child of some parents

-- the parents walked over have the child
pub record IsAdding (uid : Uid) (parents : UidSet) (rest : List Uid) (old now : Sources Uid) : Type 0 where
  pub added : (b : Uid) → IsTrue (set.contains parents b) → IsTrue (has_source uid_cmp now b uid || list_any (same_uid b) rest)
  pub kept : KeepsKnown old now

pub adding_goes_on : (uid : Uid) (parents : UidSet) (rest more : List Uid) (k : Uid) (old now next : Sources Uid) → rest ≡ k ∷ more
    → ((t s : Uid) → has_source uid_cmp next t s ≡ (has_source uid_cmp now t s || (same_uid k t && same_uid uid s)))
    → IsAdding uid parents rest old now → IsAdding uid parents more old next
adding_goes_on uid parents rest more k old now next step adds p = record {
  added = λ b h.
      ap (λ x. x || list_any (same_uid b) more) (adds b uid)
      ∙ ap (λ x. (has_source uid_cmp now b uid || (x && same_uid uid uid)) || list_any (same_uid b) more) (same_uid_equiv.symm k b)
      ∙ ap (λ x. (has_source uid_cmp now b uid || (same_uid b k && x)) || list_any (same_uid b) more) (same_uid_equiv.refl uid)
      ∙ moved (has_source uid_cmp now b uid) (same_uid b k) (list_any (same_uid b) more)
      ∙ ap (λ us. has_source uid_cmp now b uid || list_any (same_uid b) us) (sym step)
      ∙ p.added b h;
  kept = λ t s h. adds t s ∙ ap (λ x. x || (same_uid k t && same_uid uid s)) (p.kept t s h);
}
  where
    moved : (a b c : Bool) → ((a || (b && true)) || c) ≡ (a || (b || c))
    moved true b c = refl
    moved false true c = refl
    moved false false c = refl

-- ---- all entities of a map

-- what stands at the uids walked over is known
abbrev pub IsIndexing : Lookup → Sources Uid → List (Uid × EntityData) → Type 0
IsIndexing found index left = IsUnderway found (λ uid. KnowsAt index uid (found uid)) (keys_of left) × AreStanding found left

pub indexing_begins : (m : BTreeMap Uid EntityData) (index : Sources Uid) → AreStanding (in_map m) m.entries → IsIndexing (in_map m) index m.entries
indexing_begins m index standing = (begins m (λ uid. KnowsAt index uid (in_map m uid)), standing)

module _ (found : Lookup) (now next : Sources Uid) (left more : List (Uid × EntityData)) (k : Uid) (e : EntityData) (step : left ≡ (k, e) ∷ more) where
  pub indexing_goes_on : ((b : Uid) → IsTrue (set.contains e.parents b) → IsTrue (has_source uid_cmp next b k)) → KeepsKnown now next → IsIndexing found now left → IsIndexing found next more
  indexing_goes_on known kept walking =
      let all : AreStanding found ((k, e) ∷ more) = subst (AreStanding found) step walking.1 in
      let here : found k ≡ Some e = All-head (λ (x : Uid × EntityData). found x.0 ≡ Some x.1) (k, e) more all in
      let underway : IsUnderway found (λ uid. KnowsAt next uid (found uid)) (keys_of left) = record {
        holds = λ uid gone has b p. kept b uid (walking.0.holds uid gone has b p);
        here = walking.0.here;
      } in
      (goes_on found (λ uid. KnowsAt next uid (found uid)) (keys_of left) (keys_of more) k underway (ap keys_of step) (subst (KnowsAt next k) (sym here) known), All-tail (λ (x : Uid × EntityData). found x.0 ≡ Some x.1) (k, e) more all)

pub indexed : (found : Lookup) (index : Sources Uid) (left : List (Uid × EntityData)) → left ≡ [] → IsIndexing found index left → KnowsChildren found index
indexed found index left none walking a b p = by_test (found a) refl p
  where
    by_test : (o : Option EntityData) → found a ≡ o → IsTrue (set.contains (parents_of (option_map held_of o)) b) → IsTrue (has_source uid_cmp index b a)
    by_test None is h = nothing_known index a b h
    by_test (Some e) is h = walking.0.holds a (ap (λ es. list_any (same_uid a) (keys_of es)) none) (ap is_some is) b (ap (λ o. set.contains (parents_of (option_map held_of o)) b) is ∙ h)

-- ---- some entities

-- those walked over are known, and what was known is
pub record AreAdding (all rest : List EntityData) (old now : Sources Uid) : Type 0 where
  pub added : (e : EntityData) → IsListed all e → KnowsParents now e ⊎ IsListed rest e
  pub kept : KeepsKnown old now

pub all_added_begins : (all : List EntityData) (old : Sources Uid) → AreAdding all all old old
all_added_begins all old = record { added = λ e h. inr h; kept = λ t s h. h }

pub all_added_goes_on : (all rest more : List EntityData) (x : EntityData) (old now next : Sources Uid) → rest ≡ x ∷ more → ((b : Uid) → IsTrue (set.contains x.parents b) → IsTrue (has_source uid_cmp next b x.uid)) → KeepsKnown now next
    → AreAdding all rest old now → AreAdding all more old next
all_added_goes_on all rest more x old now next step known kept p = record {
  added = λ e h. elim (p.added e h) [
    | inl k ↦ inl (λ b q. kept b e.uid (k b q))
    | inr l ↦ next_one e (subst (λ es. IsListed es e) step l)
  ];
  kept = λ t s h. kept t s (p.kept t s h);
}
  where
    next_one : (e : EntityData) → IsListed (x ∷ more) e → KnowsParents next e ⊎ IsListed more e
    next_one e (inl is) = inl (subst (KnowsParents next) (sym is) known)
    next_one e (inr l) = inr l

pub all_added : (all rest : List EntityData) (old now : Sources Uid) → rest ≡ [] → AreAdding all rest old now → KnowsAll now all
all_added all rest old now none p e h = elim (p.added e h) [
  | inl k ↦ k
  | inr l ↦ absurd (subst (λ es. IsListed es e) none l)
]

-- ---- what isn't a child is forgotten

pub forgotten_kept : (found : Lookup) (child parent : Uid) (old new : Sources Uid) → ((t s : Uid) → has_source uid_cmp new t s ≡ (has_source uid_cmp old t s && not (same_uid parent t && same_uid child s)))
    → set.contains (parents_of (held_in found child)) parent ≡ false → KnowsChildren found old → KnowsChildren found new
forgotten_kept found child parent old new removes isnt h a b p =
    removes b a ∙ ap (λ x. x && not (same_uid parent b && same_uid child a)) (h a b p) ∙ by_test (same_uid parent b) (same_uid child a) refl refl
  where
    by_test : (x y : Bool) → same_uid parent b ≡ x → same_uid child a ≡ y → not (x && y) ≡ true
    by_test false y s t = refl
    by_test true false s t = refl
    by_test true true s t =
        absurd (true≢false (sym p ∙ ap (λ u. set.contains (parents_of (held_in found u)) b) (sym (uid_is child a t)) ∙ ap (set.contains (parents_of (held_in found child))) (sym (uid_is parent b s)) ∙ isnt))

pub forgotten_lost : (child parent : Uid) (old new : Sources Uid) → ((t s : Uid) → has_source uid_cmp new t s ≡ (has_source uid_cmp old t s && not (same_uid parent t && same_uid child s)))
    → ¬ (IsTrue (has_source uid_cmp new parent child))
forgotten_lost child parent old new removes h = true≢false (sym h ∙ removes parent child ∙ ap (λ x. has_source uid_cmp old parent child && not (x && same_uid child child)) (same_uid_equiv.refl parent)
    ∙ ap (λ x. has_source uid_cmp old parent child && not x) (same_uid_equiv.refl child) ∙ never (has_source uid_cmp old parent child))
  where
    never : (a : Bool) → (a && false) ≡ false
    never true = refl
    never false = refl

-- ---- what an edit touches

module _ (found : Lookup) (index : Sources Uid) (uids : List Uid) (keeps : KeepsAncestors found) (knows : KnowsChildren found index)
    (sources : (t s : Uid) → IsTrue (list_any (same_uid t) uids) → IsTrue (has_source uid_cmp index t s) → IsTrue (list_any (same_uid s) uids)) where
  -- with a uid those below it are listed
  below : {a b : Uid} → Reaches (IsParent (held_in found)) a b → IsTrue (list_any (same_uid b) uids) → IsTrue (list_any (same_uid a) uids)
  below (edge {a = a} {b = b} h) m = sources b a m (knows a b h)
  below (further {a = a} {b = c} h r) m = sources c a (below r m) (knows a c h)

  isnt : (b : Bool) → ¬ (b ≡ true) → b ≡ false
  isnt true h = absurd (h refl)
  isnt false h = refl

  pub covers_below : (edited : List Uid) → ((q : Uid) → IsTrue (list_any (same_uid q) edited) → IsTrue (list_any (same_uid q) uids)) → Covers found edited uids
  covers_below edited targets uid n = record {
    stays = isnt (list_any (same_uid uid) edited) (λ h. true≢false (sym (targets uid h) ∙ n));
    apart = none edited (λ q h. targets q h);
  }
    where
      never : (q : Uid) → IsTrue (list_any (same_uid q) uids) → ¬ (set.contains (kept_at found uid) q ≡ true)
      never q m k = true≢false (sym (below ((keeps.ancestors uid q).0 k) m) ∙ n)

      none : (us : List Uid) → ((q : Uid) → IsTrue (list_any (same_uid q) us) → IsTrue (list_any (same_uid q) uids)) → list_any (set.contains (kept_at found uid)) us ≡ false
      none [] on = refl
      none (u ∷ us) on =
          ap (λ b. b || list_any (set.contains (kept_at found uid)) us) (isnt (set.contains (kept_at found uid) u) (never u (on u (ap (λ b. b || list_any (same_uid u) us) (same_uid_equiv.refl u)))))
          ∙ none us (λ q h. on q (or_right (same_uid q u) (list_any (same_uid q) us) h))

pub few_cover : (found : Lookup) (index : Sources Uid) (edited listed : List Uid) → KeepsAncestors found → KnowsChildren found index → ((q : Uid) → list_any (same_uid q) listed ≡ list_any (same_uid q) edited)
    → {S : Type 0} (items : S → List Uid) (few : Option S)
    → IfSome few (λ s. (q : Uid) → IsTrue (list_any (same_uid q) listed) → IsTrue (list_any (same_uid q) (items s)))
    → IfSome few (λ s. (t q : Uid) → IsTrue (list_any (same_uid t) (items s)) → IsTrue (has_source uid_cmp index t q) → IsTrue (list_any (same_uid q) (items s)))
    → IfSome few (λ s. Covers found edited (items s))
few_cover found index edited listed keeps knows are items None targets sources = tt
few_cover found index edited listed keeps knows are items (Some s) targets sources = covers_below found index (items s) keeps knows sources edited (λ q h. targets q (are q ∙ h))

pub touched_are : (found : Lookup) (index : Sources Uid) (edited listed : List Uid) → KeepsAncestors found → KnowsChildren found index → ((q : Uid) → list_any (same_uid q) listed ≡ list_any (same_uid q) edited)
    → {S E : Type 0} (items : S → List Uid) (r : Result (Option S) E)
    → IfOk r (λ few. IfSome few (λ s. (q : Uid) → IsTrue (list_any (same_uid q) listed) → IsTrue (list_any (same_uid q) (items s))))
    → IfOk r (λ few. IfSome few (λ s. (t q : Uid) → IsTrue (list_any (same_uid t) (items s)) → IsTrue (has_source uid_cmp index t q) → IsTrue (list_any (same_uid q) (items s))))
    → IfOk r (λ few. IfSome few (λ s. Covers found edited (items s)))
touched_are found index edited listed keeps knows are items (Ok few) targets sources = few_cover found index edited listed keeps knows are items few targets sources
touched_are found index edited listed keeps knows are items (Err e) targets sources = tt
