-- The facts of a world: paths through the entities that are held.
use Rattle.std.proofs.Common.{◌≡◌, ◌⊎◌, inl, inr, true, false, List, [], ◌∷◌, Option, Some, None, is_some, refl, sym, ◌∙◌, ap, subst, true≢false}
use Rattle.std.proofs.lemmas.Bool.{and_from, and_parts, or_cases, or_left, or_right}
use Rattle.std.specs.Cmp.{both_ways}
use Rattle.std.specs.List.{list_any}
use Rattle.std.specs.Ordering.{eq_by_cmp}
use Rattle.std.specs.FinMap as map
use Rattle.std.specs.FinSet as set
use Rattle.cedar_language.specs.Uid.{Name, Uid}
use Rattle.cedar_language.specs.Facts.{Facts, Reaches, edge, further}
use Rattle.cedar_world.specs.Orders.{UidSet, uid_cmp}
use Rattle.cedar_world.specs.Reach.{IsParent}
use Rattle.cedar_world.specs.World.{World, EntityData, Entities, parents_of, parents_at}
use Rattle.cedar_world.specs.Setting.{Setting}
use Rattle.cedar_world.proofs.Edits.{same_uid}
use Rattle.cedar_world.specs.WorldFacts.{AreFactsOf, leads_through, facts_of, WorldsHaveFacts}

module _ (parents : Uid → UidSet) where
  abbrev Leads : List Uid → Uid → Uid → Type 0
  Leads cs a b = leads_through parents cs a b ≡ true

  abbrev Path : Uid → Uid → Type 0
  Path a b = Reaches (IsParent parents) a b

  joined : {a b c : Uid} → Path a b → Path b c → Path a c
  joined (edge e) q = further e q
  joined (further e p) q = further e (joined p q)

  leads_path : (cs : List Uid) (a b : Uid) → Leads cs a b → Path a b
  leads_path [] a b h = edge h
  leads_path (c ∷ cs) a b h =
      elim (or_cases (leads_through parents cs a b) _ h) [
        | inl k ↦ leads_path cs a b k
        | inr k ↦ joined (leads_path cs a c (and_parts (leads_through parents cs a c) _ k).0) (leads_path cs c b (and_parts (leads_through parents cs a c) _ k).1)
      ]

  edge_leads : (cs : List Uid) (a b : Uid) → set.contains (parents a) b ≡ true → Leads cs a b
  edge_leads [] a b h = h
  edge_leads (c ∷ cs) a b h = or_left (leads_through parents cs a b) _ (edge_leads cs a b h)

  abbrev IsStop : Uid → List Uid → Type 0
  IsStop c [] = ⊥
  IsStop c (d ∷ ds) = (c ≡ d) ⊎ IsStop c ds

  -- what leads to the new stop leads there by the others
  to_stop : (cs : List Uid) (a c : Uid) → Leads (c ∷ cs) a c → Leads cs a c
  to_stop cs a c h =
      elim (or_cases (leads_through parents cs a c) _ h) [ inl k ↦ k | inr k ↦ (and_parts (leads_through parents cs a c) _ k).0 ]

  from_stop : (cs : List Uid) (c b : Uid) → Leads (c ∷ cs) c b → Leads cs c b
  from_stop cs c b h =
      elim (or_cases (leads_through parents cs c b) _ h) [ inl k ↦ k | inr k ↦ (and_parts (leads_through parents cs c c) _ k).1 ]

  by_stop : (cs : List Uid) (a c b : Uid) → Leads cs a c → Leads cs c b → Leads (c ∷ cs) a b
  by_stop cs a c b h k = or_right (leads_through parents cs a b) _ (and_from _ _ h k)

  -- what leads to a stop, and from there on, leads all the way
  leads_on : (cs : List Uid) (a c b : Uid) → IsStop c cs → Leads cs a c → Leads cs c b → Leads cs a b
  leads_on [] a c b s h k = absurd s
  leads_on (d ∷ cs) a c b (inl e) h k =
      let to : Leads (d ∷ cs) a d = subst (λ x. Leads (d ∷ cs) a x) e h in
      let from : Leads (d ∷ cs) d b = subst (λ x. Leads (d ∷ cs) x b) e k in
      by_stop cs a d b (to_stop cs a d to) (from_stop cs d b from)
  leads_on (d ∷ cs) a c b (inr s) h k =
      elim (or_cases (leads_through parents cs a c) _ h) [
        | inl x ↦ elim (or_cases (leads_through parents cs c b) _ k) [
          | inl y ↦ or_left (leads_through parents cs a b) _ (leads_on cs a c b s x y)
          | inr y ↦ by_stop cs a d b (leads_on cs a c d s x (and_parts (leads_through parents cs c d) _ y).0) (and_parts (leads_through parents cs c d) _ y).1
        ]
        | inr x ↦ elim (or_cases (leads_through parents cs c b) _ k) [
          | inl y ↦ by_stop cs a d b (and_parts (leads_through parents cs a d) _ x).0 (leads_on cs d c b s (and_parts (leads_through parents cs a d) _ x).1 y)
          | inr y ↦ by_stop cs a d b (and_parts (leads_through parents cs a d) _ x).0 (and_parts (leads_through parents cs c d) _ y).1
        ]
      ]

  path_starts : {a b : Uid} → Path a b → (c : Uid) × (set.contains (parents a) c ≡ true)
  path_starts (edge {a} {b} e) = (b, e)
  path_starts (further {a} {b} {c} e p) = (b, e)

  -- where each entity with a parent is a stop
  path_leads : (cs : List Uid) → ((a b : Uid) → set.contains (parents a) b ≡ true → IsStop a cs) → {a b : Uid} → Path a b → Leads cs a b
  path_leads cs stops (edge {a} {b} e) = edge_leads cs a b e
  path_leads cs stops (further {a} {b} {c} e p) =
      let start = path_starts p in
      leads_on cs a b c (stops b start.0 start.1) (edge_leads cs a b e) (path_leads cs stops p)

-- ---- the entities of a world

none_contained : (b : Uid) → set.contains {R = uid_cmp} set.empty b ≡ true → ⊥
none_contained b h = true≢false (sym h ∙ set.contains-empty uid_cmp b)

some_held : (o : Option EntityData) (b : Uid) → set.contains (parents_of o) b ≡ true → is_some o ≡ true
some_held None b h = absurd (none_contained b h)
some_held (Some h) b k = refl

held_stop : (parents : Uid → UidSet) (a : Uid) (cs : List Uid) → list_any (eq_by_cmp uid_cmp a) cs ≡ true → IsStop parents a cs
held_stop parents a [] h = true≢false (sym h)
held_stop parents a (c ∷ cs) h =
    elim (or_cases (eq_by_cmp uid_cmp a c) _ h) [ inl k ↦ inl (same_uid a c k) | inr k ↦ inr (held_stop parents a cs k) ]

module _ (entities : Entities) where
  stops_held : (a b : Uid) → set.contains (parents_at entities a) b ≡ true → IsStop (parents_at entities) a (map.keys entities)
  stops_held a b h =
      held_stop (parents_at entities) a (map.keys entities) (sym (map.contains_key-keys entities a) ∙ some_held (map.get entities a) b h)

exist : (by : Setting) (world : World) → AreFactsOf by world (facts_of by world)
exist by world = record {
  entity = λ uid. refl;
  ancestors = λ a b. (leads_path (parents_at world.entities) (map.keys world.entities) a b, path_leads (parents_at world.entities) (map.keys world.entities) (stops_held world.entities));
  function = λ name. refl;
}

pub facts_are_one : (by : Setting) (world : World) (a b : Facts) → AreFactsOf by world a → AreFactsOf by world b → a ≡ b
facts_are_one by world a b f g =
    let entity : (uid : Uid) → a.entity uid ≡ b.entity uid = λ uid. f.entity uid ∙ sym (g.entity uid) in
    let reaches : (x y : Uid) → a.reaches x y ≡ b.reaches x y =
    λ x y. both_ways (a.reaches x y) (b.reaches x y) (λ h. (g.ancestors x y).1 ((f.ancestors x y).0 h)) (λ h. (f.ancestors x y).1 ((g.ancestors x y).0 h)) in
    let function : (name : Name) → a.function name ≡ b.function name = λ name. f.function name ∙ sym (g.function name) in
    λ i. record { entity = λ uid. entity uid i; reaches = λ x y. reaches x y i; function = λ name. function name i }

no_parents : (entities : Entities) → entities ≡ map.empty → (a b : Uid) → set.contains (parents_at entities a) b ≡ true → ⊥
no_parents entities e a b h =
    let none : map.get entities a ≡ None = ap (λ (m : Entities). map.get m a) e ∙ map.get-empty uid_cmp a in
    true≢false (sym (some_held (map.get entities a) b h) ∙ ap is_some none)

pub nothing_reached : (by : Setting) (world : World) (facts : Facts) → AreFactsOf by world facts → world.entities ≡ map.empty → (a b : Uid) → facts.reaches a b ≡ false
nothing_reached by world facts f e a b =
    both_ways (facts.reaches a b) false
    (λ h. let start = path_starts (parents_at world.entities) ((f.ancestors a b).0 h) in absurd (no_parents world.entities e a start.0 start.1))
    (λ h. absurd (true≢false (sym h)))

pub worlds_have_facts : WorldsHaveFacts
worlds_have_facts = record { exist = exist; one = facts_are_one; nothing_reached = nothing_reached }
