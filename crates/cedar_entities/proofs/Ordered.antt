-- Maps and sets that are kept in the order of uids answer by whether uids are the same.
use Rattle.std.proofs.Common.{◌≡◌, List, [], ◌∷◌, map, Option, Some, cond, is_some, true, refl, sym, ap, subst, ◌∙◌}
use Rattle.std.specs.BTreeMap as tree
use Rattle.std.specs.BTreeMap.{BTreeMap, is_at, IsOrdered, values}
use Rattle.std.specs.BTreeSet as set
use Rattle.std.specs.BTreeSet.{BTreeSet}
use Rattle.std.specs.List.{All, list_any}
use Rattle.std.specs.Map.{keys_of, values_of}
use Rattle.std.proofs.lemmas.List.Elements.{All-head, All-tail}
use Rattle.std.proofs.lemmas.Map.Made.{is_some-lookup}
use Rattle.std.proofs.lemmas.Map.Views.{All-found}
use Rattle.cedar_language.specs.Uid.{Uid}
use Rattle.cedar_language.specs.Order.{uid_cmp, same_uid}
use Rattle.cedar_literals.specs.Laws.{uid_cmp_total, uid_cmp_ties}
use Rattle.cedar_entities.specs.Data.{EntityData}
use Rattle.cedar_entities.specs.Kept.{in_map, IsByUid}
use Rattle.cedar_entities.specs.Lists.{AreRising}
use Rattle.cedar_entities.proofs.UidSets.{list_any-ties, uid_is}

-- one value is put, or taken away
pub changed_at : (m n : BTreeMap Uid EntityData) (k : Uid) (o : Option EntityData) → tree.Updates uid_cmp m n k o → (uid : Uid) → in_map n uid ≡ cond (same_uid k uid) o (in_map m uid)
changed_at m n k o u uid = u.0 uid ∙ ap (λ b. cond b o (in_map m uid)) (sym (uid_cmp_ties k uid))

-- one value is written where one stands
pub written_at : (m n : BTreeMap Uid EntityData) (k : Uid) (e w : EntityData) → tree.WritesThrough uid_cmp (uid_cmp k) m w n → Some e ≡ in_map m k → (uid : Uid) → in_map n uid ≡ cond (same_uid k uid) (Some w) (in_map m uid)
written_at m n k e w writes here = changed_at m n k (Some w) (writes.3 (ap is_some (sym here)))

-- the keys are the uids at which something stands
pub keys_stand : (m : BTreeMap Uid EntityData) (q : Uid) → list_any (same_uid q) (keys_of m.entries) ≡ is_some (in_map m q)
keys_stand m q = sym (list_any-ties q (keys_of m.entries)) ∙ sym (is_some-lookup (is_at (uid_cmp q)) m.entries)

-- one uid more is in a set
pub inserted : (s t : BTreeSet Uid) (k : Uid) → set.Updates uid_cmp s t k true → (q : Uid) → list_any (same_uid q) t.keys ≡ cond (same_uid k q) true (list_any (same_uid q) s.keys)
inserted s t k u q =
    sym (list_any-ties q t.keys) ∙ u.0 q ∙ ap (λ b. cond b true (set.contains uid_cmp s q)) (sym (uid_cmp_ties k q)) ∙ ap (cond (same_uid k q) true) (list_any-ties q s.keys)

-- ---- entities under their uids come in the order of these

module _ (m : BTreeMap Uid EntityData) (by : IsByUid (in_map m)) where
  uids_are : (es : List (Uid × EntityData)) → All (λ (e : Uid × EntityData). in_map m e.0 ≡ Some e.1) es → map (λ (e : EntityData). e.uid) (values_of es) ≡ keys_of es
  uids_are [] h = refl
  uids_are (e ∷ es) h =
      let key : e.1.uid ≡ e.0 = uid_is e.1.uid e.0 (by e.0 e.1 (All-head (λ (x : Uid × EntityData). in_map m x.0 ≡ Some x.1) e es h)) in
      let rest = uids_are es (All-tail (λ (x : Uid × EntityData). in_map m x.0 ≡ Some x.1) e es h) in
      λ i. key i ∷ rest i

  pub values_rise : IsOrdered uid_cmp m → AreRising (map (λ (e : EntityData). e.uid) (values m))
  values_rise ordered = subst AreRising (sym (uids_are m.entries (All-found uid_cmp_total m ordered))) ordered
