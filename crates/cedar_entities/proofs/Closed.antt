-- The graph of a map of entities.
use Rattle.std.proofs.Common.{◌≡◌, ◌↔◌, true, false, List, [], Option, None, Some, option_map, refl, sym, ap, subst, ◌∙◌, IsTrue, true≢false}
use Rattle.std.specs.Option.{option_map_or, MatchOption, IsSome, IsSomeAnd}
use Rattle.std.specs.FinSet as set
use Rattle.std.specs.Set.{is_member}
use Rattle.cedar_language.specs.Uid.{Uid}
use Rattle.cedar_language.specs.Facts.{Reaches, edge, further}
use Rattle.cedar_language.specs.Order.{uid_cmp, same_uid}
use Rattle.cedar_closure.specs.Graph.{HasEdge, SameNodes, IsBuiltBeside}
use Rattle.cedar_closure.specs.Paths.{IsTransitive}
use Rattle.cedar_closure.specs.Refused.{IsTcRefusal, IsTcViolation}
use Rattle.cedar_closure.specs.declared.errors.TcError.{TcError}
use Rattle.cedar_closure.specs.declared.errors.TcError.TheVariants as closure
use Rattle.cedar_entities.specs.Data.{EntityData, IsSameBesideAncestors, ancestors_of}
use Rattle.cedar_literals.specs.Laws.{same_uid_equiv}
use Rattle.cedar_entities.proofs.UidLemmas.{contains-items}
use Rattle.cedar_entities.specs.Held.{held_of, parents_of, IsParent, IsAncestor}
use Rattle.cedar_entities.specs.Kept.{Lookup, held_in, IsKept, KeepsAncestors, KeepsBeside, IsByUid}
use Rattle.cedar_entities.specs.Beside.{among, IsSameBeside}
use Rattle.cedar_entities.specs.Refusals.{from_closure}
use Rattle.cedar_entities.specs.Modes.{IsComputed, IsEnforced, IsClosureRefusal}
use Rattle.cedar_entities.specs.declared.closing.TCComputation.TheVariants.{ComputeNow, EnforceAlreadyComputed}
use Rattle.cedar_entities.proofs.Lookups.{reaches_along, ancestors_same}

abbrev pub kept_edges : EntityData → List Uid
kept_edges e = set.items (ancestors_of e)

abbrev pub parent_edges : EntityData → List Uid
parent_edges e = set.items e.parents

kept_edge : (o : Option EntityData) (b : Uid) → is_member same_uid (option_map_or kept_edges o []) b ≡ set.contains (option_map_or ancestors_of o set.empty) b
kept_edge None b = sym (set.contains-empty uid_cmp b)
kept_edge (Some e) b = sym (contains-items (ancestors_of e) b)

parent_edge : (o : Option EntityData) (b : Uid) → is_member same_uid (option_map_or parent_edges o []) b ≡ set.contains (parents_of (option_map held_of o)) b
parent_edge None b = sym (set.contains-empty uid_cmp b)
parent_edge (Some e) b = sym (contains-items e.parents b)

same_held : (a b : Option EntityData) → MatchOption a (b ≡ None) (λ v. IsSomeAnd b (IsSameBesideAncestors v)) → option_map held_of b ≡ option_map held_of a
same_held None b h = ap (option_map held_of) h
same_held (Some e) None h = absurd h
same_held (Some e) (Some f) h = λ i. Some (record { attributes = h.attributes i; tags = h.tags i; parents = h.parents i })

pub there_at : (o p : Option EntityData) → MatchOption o (p ≡ None) (λ v. IsSomeAnd p (IsSameBesideAncestors v)) → IsSome o → IsSome p
there_at None p h k = absurd (true≢false (sym k))
there_at (Some e) None h k = absurd h
there_at (Some e) (Some f) h k = refl

pub to_kept : (m : Lookup) (a b : Uid) → HasEdge same_uid kept_edges m a b → IsKept m a b
to_kept m a b h = sym (kept_edge (m a) b) ∙ h

pub from_kept : (m : Lookup) (a b : Uid) → IsKept m a b → HasEdge same_uid kept_edges m a b
from_kept m a b h = kept_edge (m a) b ∙ h

to_parent : (m : Lookup) (a b : Uid) → HasEdge same_uid parent_edges m a b → IsParent (held_in m) a b
to_parent m a b h = sym (parent_edge (m a) b) ∙ h

from_parent : (m : Lookup) (a b : Uid) → IsParent (held_in m) a b → HasEdge same_uid parent_edges m a b
from_parent m a b h = parent_edge (m a) b ∙ h

pub held_same : (m n : Lookup) → SameNodes IsSameBesideAncestors m n → (uid : Uid) → held_in n uid ≡ held_in m uid
held_same m n h uid = same_held (m uid) (n uid) (h uid)

-- what a rebuilt closure is
pub computed : (m n : Lookup) → SameNodes IsSameBesideAncestors m n
    → ((a b : Uid) → HasEdge same_uid kept_edges n a b ↔ Reaches (HasEdge same_uid parent_edges m) a b)
    → ((a : Uid) → ¬ (Reaches (HasEdge same_uid parent_edges m) a a)) → IsComputed m n
computed m n same edges acyclic =
    let held = held_same m n same in
    record {
      held = held;
      keeps = record {
        ancestors = λ a b. (
          λ h. ancestors_same (held_in m) (held_in n) (λ uid. sym (held uid)) (reaches_along (to_parent m) ((edges a b).0 (from_kept n a b h))),
          λ r. to_kept n a b ((edges a b).1 (reaches_along (from_parent m) (ancestors_same (held_in n) (held_in m) held r))),
        );
        acyclic = λ a r. acyclic a (reaches_along (from_parent m) (ancestors_same (held_in n) (held_in m) held r));
      };
    }

-- what is kept beside some uids are edges that are built beside them
pub built_beside : (m : Lookup) (uids : List Uid) → KeepsBeside uids m → IsBuiltBeside same_uid uids (HasEdge same_uid parent_edges m) (HasEdge same_uid kept_edges m)
built_beside m uids beside a b l =
    let is = beside.ancestors a b l in
    (λ h. reaches_along (from_parent m) (is.0 (to_kept m a b h)), λ r. from_kept m a b (is.1 (reaches_along (to_parent m) r)))

-- no uid is on a cycle where those to rebuild aren't, and the others weren't
pub acyclic_beside : (m : Lookup) (uids : List Uid) → KeepsBeside uids m → ((a : Uid) → IsTrue (is_member same_uid uids a) → ¬ (Reaches (HasEdge same_uid parent_edges m) a a)) → (a : Uid) → ¬ (Reaches (HasEdge same_uid parent_edges m) a a)
acyclic_beside m uids beside acyclic a r = elim (is_member same_uid uids a) as (λ b. is_member same_uid uids a ≡ b → ⊥) [
  | true ↦ λ l. acyclic a l r
  | false ↦ λ l. beside.acyclic a l (reaches_along (to_parent m) r)
] refl

pub rebuilding_refused : (m : Lookup) (uids : List Uid) (e : TcError Uid) → IsTcRefusal true (λ k. IsTrue (is_member same_uid uids k) × Reaches (HasEdge same_uid parent_edges m) k k) e → IsClosureRefusal ComputeNow m (from_closure e)
rebuilding_refused m uids (closure.MissingTcEdge e) h = h
rebuilding_refused m uids (closure.HasCycle e) h = reaches_along (to_parent m) h.1.1
rebuilding_refused m uids (closure.Memory e) h = h

by_uid_at : (m n : Lookup) (uid : Uid) (e : EntityData) → IsByUid m → n uid ≡ Some e → (o : Option EntityData) → m uid ≡ o → MatchOption o (n uid ≡ None) (λ v. IsSomeAnd (n uid) (IsSameBesideAncestors v)) → IsTrue (same_uid e.uid uid)
by_uid_at m n uid e by is None p none = let never : None ≡ Some e = sym none ∙ is in cc
by_uid_at m n uid e by is (Some v) p k =
    let q : IsSameBesideAncestors v e = subst (λ o. IsSomeAnd o (IsSameBesideAncestors v)) is k in
    ap (λ u. same_uid u uid) q.uid ∙ by uid v p

pub by_uid_same : (m n : Lookup) → SameNodes IsSameBesideAncestors m n → IsByUid m → IsByUid n
by_uid_same m n same by uid e is = by_uid_at m n uid e by is (m uid) refl (same uid)

-- where a closure isn't rebuilt, what stands at other uids stays
pub left_beside : (m n : Lookup) (uids : List Uid) → SameNodes IsSameBesideAncestors m n
    → ((a b : Uid) → is_member same_uid uids a ≡ false → HasEdge same_uid kept_edges n a b ↔ HasEdge same_uid kept_edges m a b) → IsSameBeside (among uids) m n
left_beside m n uids same edges = record {
  held = λ uid l. held_same m n same uid;
  kept = λ a b l. (λ h. to_kept m a b ((edges a b l).0 (from_kept n a b h)), λ h. to_kept n a b ((edges a b l).1 (from_kept m a b h)));
  there = λ uid. there_at (m uid) (n uid) (same uid);
  by_uid = by_uid_same m n same;
}

pub enforced : (m : Lookup) → IsTransitive (HasEdge same_uid kept_edges m) → ((a : Uid) → ¬ (HasEdge same_uid kept_edges m a a)) → IsEnforced m m
enforced m closed acyclic = record {
  stays = λ uid. refl;
  transitive = λ a b c h k. to_kept m a c (closed a b c (from_kept m a b h) (from_kept m b c k));
  acyclic = λ a h. acyclic a (from_kept m a a h);
}

pub computing_refused : (m : Lookup) (e : TcError Uid) → IsTcRefusal true (λ k. Reaches (HasEdge same_uid parent_edges m) k k) e → IsClosureRefusal ComputeNow m (from_closure e)
computing_refused m (closure.MissingTcEdge e) h = h
computing_refused m (closure.HasCycle e) h = reaches_along (to_parent m) h.1
computing_refused m (closure.Memory e) h = h

pub enforcing_refused : (m : Lookup) (e : TcError Uid) → IsTcViolation (HasEdge same_uid kept_edges m) e → IsClosureRefusal EnforceAlreadyComputed m (from_closure e)
enforcing_refused m (closure.MissingTcEdge e) h = (to_kept m e.child e.parent h.0, to_kept m e.parent e.grandparent h.1, λ k. h.2 (from_kept m e.child e.grandparent k))
enforcing_refused m (closure.HasCycle e) h = to_kept m e.vertex_with_loop e.vertex_with_loop h
enforcing_refused m (closure.Memory e) h = h

pub clones_are_equal : (x y : Uid) → y ≡ x → IsTrue (same_uid x y)
clones_are_equal x y e = ap (same_uid x) e ∙ same_uid_equiv.refl x

-- ---- where nothing is held

no_parent : (found : Lookup) → ((uid : Uid) → found uid ≡ None) → (a b : Uid) → ¬ (IsParent (held_in found) a b)
no_parent found none a b h = absurd (true≢false (sym h ∙ ap (λ o. set.contains (parents_of (option_map held_of o)) b) (none a) ∙ set.contains-empty uid_cmp b))

no_ancestor : (found : Lookup) → ((uid : Uid) → found uid ≡ None) → {a b : Uid} → ¬ (IsAncestor (held_in found) a b)
no_ancestor found none (edge {a = a} {b = b} h) = no_parent found none a b h
no_ancestor found none (further {a = a} {b = c} h r) = no_parent found none a c h

pub nothing_keeps : (found : Lookup) → ((uid : Uid) → found uid ≡ None) → KeepsAncestors found
nothing_keeps found none = record {
  ancestors = λ a b. (λ h. absurd (true≢false (sym h ∙ ap (λ o. set.contains (option_map_or ancestors_of o set.empty) b) (none a) ∙ set.contains-empty uid_cmp b)), λ r. absurd (no_ancestor found none r));
  acyclic = λ a r. no_ancestor found none r;
}
