-- What an edit doesn't touch keeps its ancestors.
use Rattle.std.proofs.Common.{◌≡◌, Bool, true, false, ◌||◌, List, [], ◌∷◌, Option, None, Some, cond, option_map, refl, sym, ap, ◌∙◌, true≢false, IfSome}
use Rattle.std.specs.Option.{option_map_or}
use Rattle.std.specs.FinSet as set
use Rattle.std.specs.List.{list_any}
use Rattle.cedar_language.specs.Uid.{Uid}
use Rattle.cedar_language.specs.Facts.{Reaches, edge, further}
use Rattle.cedar_language.specs.Order.{same_uid}
use Rattle.cedar_literals.specs.Laws.{same_uid_equiv}
use Rattle.cedar_entities.specs.Data.{EntityData, ancestors_of, without}
use Rattle.cedar_entities.specs.Held.{held_of, parents_of, IsParent}
use Rattle.cedar_entities.specs.Edits.{last_by, first_by, or_first}
use Rattle.cedar_entities.specs.Kept.{Lookup, held_in, kept_at, same, put_over, added_to, removed_from, KeepsAncestors, IsUntouched, Covers, KeepsBeside}
use Rattle.cedar_entities.specs.Beside.{among, among_entities, CoversEntities, cut_from}
use Rattle.cedar_entities.proofs.UidLemmas.{contains-listed, uid_is, none_passes, apart_stays}
use Rattle.cedar_lemmas.proofs.Booleans.{or_first as left_false, or_second as right_false}

module _ (old new : Lookup) (edited : List Uid) (keeps : KeepsAncestors old) (agrees : (uid : Uid) → IsUntouched old edited uid → new uid ≡ old uid) where
  to_new : (x m : Uid) → IsUntouched old edited x → IsParent (held_in old) x m → IsParent (held_in new) x m
  to_new x m u p = ap (λ o. set.contains (parents_of (option_map held_of o)) m) (agrees x u) ∙ p

  to_old : (x m : Uid) → IsUntouched old edited x → IsParent (held_in new) x m → IsParent (held_in old) x m
  to_old x m u p = ap (λ o. set.contains (parents_of (option_map held_of o)) m) (sym (agrees x u)) ∙ p

  -- a parent of what is untouched is untouched: its ancestors are ancestors of that
  above : (x m : Uid) → IsUntouched old edited x → IsParent (held_in old) x m → IsUntouched old edited m
  above x m u p = record {
    stays = none_passes (set.contains (kept_at old x)) (same_uid m) (λ q t. ap (set.contains (kept_at old x)) (sym (uid_is m q t)) ∙ (keeps.ancestors x m).1 (edge p)) edited u.apart;
    apart = none_passes (set.contains (kept_at old x)) (set.contains (kept_at old m)) (λ q k. (keeps.ancestors x q).1 (further p ((keeps.ancestors m q).0 k))) edited u.apart;
  }

  in_new : {a b : Uid} → Reaches (IsParent (held_in old)) a b → IsUntouched old edited a → Reaches (IsParent (held_in new)) a b
  in_new (edge {a = a} {b = b} h) u = edge (to_new a b u h)
  in_new (further {a = a} {b = c} h r) u = further (to_new a c u h) (in_new r (above a c u h))

  in_old : {a b : Uid} → Reaches (IsParent (held_in new)) a b → IsUntouched old edited a → Reaches (IsParent (held_in old)) a b
  in_old (edge {a = a} {b = b} h) u = edge (to_old a b u h)
  in_old (further {a = a} {b = c} h r) u = further (to_old a c u h) (in_old r (above a c u (to_old a c u h)))

  pub keeps_beside : (uids : List Uid) → Covers old edited uids → KeepsBeside uids new
  keeps_beside uids covers = record {
    ancestors = λ a b l.
        let u = covers a l in
        let is = ap (λ o. set.contains (option_map_or ancestors_of o set.empty) b) (agrees a u) in
        (λ k. in_new ((keeps.ancestors a b).0 (sym is ∙ k)) u, λ r. is ∙ (keeps.ancestors a b).1 (in_old r u));
    acyclic = λ a l r. keeps.acyclic a (in_old r (covers a l));
  }

-- ---- edits leave what they don't touch

other : (e : EntityData) (es : List EntityData) (uid : Uid) → among_entities (e ∷ es) uid ≡ false → same_uid e.uid uid ≡ false
other e es uid h = same_uid_equiv.symm e.uid uid ∙ left_false (same_uid uid e.uid) (among_entities es uid) h

last_apart : (es : List EntityData) (uid : Uid) (o : Option EntityData) → among_entities es uid ≡ false → last_by same es uid o ≡ o
last_apart [] uid o h = refl
last_apart (e ∷ es) uid o h = ap (λ b. last_by same es uid (cond b (Some e) o)) (other e es uid h) ∙ last_apart es uid o (right_false (same_uid uid e.uid) (among_entities es uid) h)

first_apart : (es : List EntityData) (uid : Uid) → among_entities es uid ≡ false → first_by same es uid ≡ None
first_apart [] uid h = refl
first_apart (e ∷ es) uid h = ap (λ b. cond b (Some e) (first_by same es uid)) (other e es uid h) ∙ first_apart es uid (right_false (same_uid uid e.uid) (among_entities es uid) h)

or_nothing : (o : Option EntityData) → or_first o None ≡ o
or_nothing None = refl
or_nothing (Some e) = refl

-- the uids are those of the entities
abbrev pub AreUidsOf : List EntityData → List Uid → Type 0
AreUidsOf es uids = (q : Uid) → list_any (same_uid q) uids ≡ list_any (λ e. same_uid q e.uid) es

put_agrees : (old : Lookup) (es : List EntityData) (edited : List Uid) → AreUidsOf es edited → (uid : Uid) → IsUntouched old edited uid → put_over old es uid ≡ old uid
put_agrees old es edited are uid u = last_apart es uid (old uid) (sym (are uid) ∙ u.stays)

add_agrees : (old : Lookup) (es : List EntityData) (edited : List Uid) → AreUidsOf es edited → (uid : Uid) → IsUntouched old edited uid → added_to old es uid ≡ old uid
add_agrees old es edited are uid u = ap (or_first (old uid)) (first_apart es uid (sym (are uid) ∙ u.stays)) ∙ or_nothing (old uid)

cut_stays : (ks : List Uid) (o : Option EntityData) → list_any (set.contains (option_map_or ancestors_of o set.empty)) ks ≡ false → option_map (without (set.from_list ks)) o ≡ o
cut_stays ks None h = refl
cut_stays ks (Some e) h = ap Some (apart_stays e ks h)

-- what isn't touched has none of the uids to lose
pub untouched_cut : (old : Lookup) (edited : List Uid) (uid : Uid) → IsUntouched old edited uid → option_map (without (set.from_list edited)) (old uid) ≡ old uid
untouched_cut old edited uid u = cut_stays edited (old uid) u.apart

remove_agrees : (old : Lookup) (edited : List Uid) (uid : Uid) → IsUntouched old edited uid → removed_from old (set.from_list edited) uid ≡ old uid
remove_agrees old edited uid u = ap (λ b. cond b None (option_map (without (set.from_list edited)) (old uid))) (contains-listed edited uid ∙ u.stays) ∙ untouched_cut old edited uid u

-- ---- what is stale once an edit is made

pub some_weaker : {X : Type 0} (P Q : X → Type 0) → ((x : X) → P x → Q x) → (o : Option X) → IfSome o P → IfSome o Q
some_weaker P Q on None h = tt
some_weaker P Q on (Some x) h = on x h

pub put_beside : (old new : Lookup) (es : List EntityData) (uids : List Uid) → KeepsAncestors old → CoversEntities old es uids → ((uid : Uid) → new uid ≡ put_over old es uid) → KeepsBeside uids new
put_beside old new es uids keeps covers puts = keeps_beside old new covers.0 keeps (λ uid u. puts uid ∙ put_agrees old es covers.0 covers.1 uid u) uids covers.2

pub add_beside : (old new : Lookup) (es : List EntityData) (uids : List Uid) → KeepsAncestors old → CoversEntities old es uids → ((uid : Uid) → new uid ≡ added_to old es uid) → KeepsBeside uids new
add_beside old new es uids keeps covers adds = keeps_beside old new covers.0 keeps (λ uid u. adds uid ∙ add_agrees old es covers.0 covers.1 uid u) uids covers.2

pub cut_beside : (old new : Lookup) (gone uids : List Uid) → KeepsAncestors old → Covers old gone uids → ((uid : Uid) → new uid ≡ cut_from old (set.from_list gone) uid) → KeepsBeside uids new
cut_beside old new gone uids keeps covers cuts = keeps_beside old new gone keeps (λ uid u. cuts uid ∙ untouched_cut old gone uid u) uids covers

-- the entities of an edit are among those that it touches
pub covers_listed : (old : Lookup) (es : List EntityData) (uids : List Uid) → CoversEntities old es uids → (q : Uid) → among uids q ≡ false → among_entities es q ≡ false
covers_listed old es uids covers q n = sym (covers.1 q) ∙ (covers.2 q n).stays

module _ {S : Type 0} (uids_of : S → List Uid) (old new : Lookup) (stale : Option S) where
  pub put_stale : (es : List EntityData) → IfSome stale (λ s. KeepsAncestors old × CoversEntities old es (uids_of s)) → ((uid : Uid) → new uid ≡ put_over old es uid) → IfSome stale (λ s. KeepsBeside (uids_of s) new)
  put_stale es is puts = some_weaker _ _ (λ s h. put_beside old new es (uids_of s) h.0 h.1 puts) stale is

  pub add_stale : (es : List EntityData) → IfSome stale (λ s. KeepsAncestors old × CoversEntities old es (uids_of s)) → ((uid : Uid) → new uid ≡ added_to old es uid) → IfSome stale (λ s. KeepsBeside (uids_of s) new)
  add_stale es is adds = some_weaker _ _ (λ s h. add_beside old new es (uids_of s) h.0 h.1 adds) stale is

  pub remove_stale : (gone : List Uid) → IfSome stale (λ s. KeepsAncestors old × Covers old gone (uids_of s)) → ((uid : Uid) → new uid ≡ removed_from old (set.from_list gone) uid) → IfSome stale (λ s. KeepsBeside (uids_of s) new)
  remove_stale gone is removes = some_weaker _ _ (λ s h. keeps_beside old new gone h.0 (λ uid u. removes uid ∙ remove_agrees old gone uid u) (uids_of s) h.1) stale is
