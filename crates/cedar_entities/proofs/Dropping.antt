-- Entities to which no parents lead any more are dropped: the others keep their ancestors.
use Rattle.std.proofs.Common.{◌≡◌, Bool, true, false, not, ◌&&◌, cond, Option, None, Some, option_map, refl, sym, ap, ◌∙◌, true≢false, IsTrue}
use Rattle.std.specs.Option.{option_map_or}
use Rattle.std.specs.FinSet as set
use Rattle.cedar_language.specs.Uid.{Uid}
use Rattle.cedar_language.specs.Order.{uid_cmp, same_uid}
use Rattle.cedar_language.specs.Facts.{edge, further}
use Rattle.cedar_literals.specs.Laws.{uid_cmp_total}
use Rattle.cedar_entities.specs.Data.{EntityData, UidSet, ancestors_of, without}
use Rattle.cedar_entities.specs.Held.{held_of, parents_of, IsParent, IsAncestor}
use Rattle.cedar_entities.specs.Kept.{Lookup, held_in, IsKept, IsByUid, removed_from}
use Rattle.cedar_entities.specs.Beside.{cut_from}
use Rattle.cedar_entities.specs.Modes.{IsComputed}
use Rattle.cedar_entities.proofs.Lookups.{reaches_along}

second_false : (a b : Bool) → (a && not b) ≡ true → b ≡ false
second_false true true h = absurd (true≢false (sym h))
second_false true false h = refl
second_false false b h = absurd (true≢false (sym h))

first_true : (a b : Bool) → (a && not b) ≡ true → a ≡ true
first_true true b h = refl
first_true false b h = absurd (true≢false (sym h))

-- a parent that is left is none of those cut
not_cut : (gone : UidSet) (o : Option EntityData) (b : Uid) → set.contains (parents_of (option_map held_of (option_map (without gone) o))) b ≡ true → set.contains gone b ≡ false
not_cut gone None b h = absurd (true≢false (sym h ∙ set.contains-empty uid_cmp b))
not_cut gone (Some e) b h = second_false (set.contains e.parents b) (set.contains gone b) (sym (set.contains-difference uid_cmp_total e.parents gone b) ∙ h)

was_parent : (gone : UidSet) (o : Option EntityData) (b : Uid) → set.contains (parents_of (option_map held_of (option_map (without gone) o))) b ≡ true → set.contains (parents_of (option_map held_of o)) b ≡ true
was_parent gone None b h = h
was_parent gone (Some e) b h = first_true (set.contains e.parents b) (set.contains gone b) (sym (set.contains-difference uid_cmp_total e.parents gone b) ∙ h)

-- cutting makes no cycle
pub acyclic_cut : (old : Lookup) (gone : UidSet) → ((a : Uid) → ¬ (IsAncestor (held_in old) a a)) → (a : Uid) → ¬ (IsAncestor (held_in (cut_from old gone)) a a)
acyclic_cut old gone acyclic a r = acyclic a (reaches_along (λ x y p. was_parent gone (old x) y p) r)

pub dropped_by_uid : (now new : Lookup) (gone : UidSet) → ((uid : Uid) → new uid ≡ cond (set.contains gone uid) None (now uid)) → IsByUid now → IsByUid new
dropped_by_uid now new gone left by uid e h = at (set.contains gone uid) (sym (left uid) ∙ h)
  where
    at : (x : Bool) → cond x None (now uid) ≡ Some e → IsTrue (same_uid e.uid uid)
    at true k = let never : ◌≡◌ {A = Option EntityData} None (Some e) = k in cc
    at false k = by uid e k

module _ (old now new : Lookup) (gone : UidSet) (computed : IsComputed (cut_from old gone) now) (left : (uid : Uid) → new uid ≡ cond (set.contains gone uid) None (now uid)) where
  parent_stays : (a b : Uid) → IsParent (held_in now) a b → set.contains gone b ≡ false
  parent_stays a b p = not_cut gone (old a) b (ap (λ o. set.contains (parents_of o) b) (sym (computed.held a)) ∙ p)

  stays : (a : Uid) → set.contains gone a ≡ false → new a ≡ now a
  stays a e = left a ∙ ap (λ b. cond b None (now a)) e

  goes : (a : Uid) → set.contains gone a ≡ true → new a ≡ None
  goes a e = left a ∙ ap (λ b. cond b None (now a)) e

  parent_on : (a b : Uid) → set.contains gone a ≡ false → IsParent (held_in now) a b → IsParent (held_in new) a b
  parent_on a b e p = ap (λ o. set.contains (parents_of (option_map held_of o)) b) (stays a e) ∙ p

  on : {a b : Uid} → IsAncestor (held_in now) a b → set.contains gone a ≡ false → IsAncestor (held_in new) a b
  on (edge {a = a} {b = b} h) e = edge (parent_on a b e h)
  on (further {a = a} {b = c} h r) e = further (parent_on a c e h) (on r (parent_stays a c h))

  parent_back : (a b : Uid) → IsParent (held_in new) a b → IsParent (held_in now) a b
  parent_back a b p = by_test (set.contains gone a) refl
    where
      by_test : (x : Bool) → set.contains gone a ≡ x → IsParent (held_in now) a b
      by_test true e = absurd (true≢false (sym p ∙ ap (λ o. set.contains (parents_of (option_map held_of o)) b) (goes a e) ∙ set.contains-empty uid_cmp b))
      by_test false e = ap (λ o. set.contains (parents_of (option_map held_of o)) b) (sym (stays a e)) ∙ p

  kept_at_new : (a b : Uid) (o : Option EntityData) → new a ≡ o → set.contains (option_map_or ancestors_of (new a) set.empty) b ≡ set.contains (option_map_or ancestors_of o set.empty) b
  kept_at_new a b o is = ap (λ x. set.contains (option_map_or ancestors_of x set.empty) b) is

  none_kept : (a b : Uid) → set.contains gone a ≡ true → ¬ (IsKept new a b)
  none_kept a b e k = true≢false (sym k ∙ kept_at_new a b None (goes a e) ∙ set.contains-empty uid_cmp b)

  held_left : (uid : Uid) → held_in new uid ≡ held_in (removed_from old gone) uid
  held_left uid = ap (option_map held_of) (left uid) ∙ by_test (set.contains gone uid)
    where
      by_test : (x : Bool) → option_map held_of (cond x None (now uid)) ≡ option_map held_of (cond x None (option_map (without gone) (old uid)))
      by_test true = refl
      by_test false = computed.held uid

  to_kept : (a b : Uid) (x : Bool) → set.contains gone a ≡ x → IsAncestor (held_in new) a b → IsKept new a b
  to_kept a b true e r = absurd (none_parent r)
    where
      none_parent : {c : Uid} → ¬ (IsAncestor (held_in new) a c)
      none_parent (edge {b = c} h) = true≢false (sym h ∙ ap (λ o. set.contains (parents_of (option_map held_of o)) c) (goes a e) ∙ set.contains-empty uid_cmp c)
      none_parent (further {b = c} h r) = true≢false (sym h ∙ ap (λ o. set.contains (parents_of (option_map held_of o)) c) (goes a e) ∙ set.contains-empty uid_cmp c)
  to_kept a b false e r = kept_at_new a b (now a) (stays a e) ∙ (computed.keeps.ancestors a b).1 (reaches_along parent_back r)

  from_kept : (a b : Uid) (x : Bool) → set.contains gone a ≡ x → IsKept new a b → IsAncestor (held_in new) a b
  from_kept a b true e k = absurd (none_kept a b e k)
  from_kept a b false e k = on ((computed.keeps.ancestors a b).0 (sym (kept_at_new a b (now a) (stays a e)) ∙ k)) e

  pub dropped_computed : IsComputed (removed_from old gone) new
  dropped_computed = record {
    held = held_left;
    keeps = record {
      ancestors = λ a b. (from_kept a b (set.contains gone a) refl, to_kept a b (set.contains gone a) refl);
      acyclic = λ a r. computed.keeps.acyclic a (reaches_along parent_back r);
    };
  }
