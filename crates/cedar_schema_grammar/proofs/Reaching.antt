-- The edges that lead through a list lead exactly where one or more edges do.
use Rattle.std.proofs.Common.{◌≡◌, ◌⊎◌, inl, inr, Bool, true, false, ◌&&◌, List, [], ◌∷◌, ◌++◌, Option, Some, None, refl, sym, subst}
use Rattle.std.specs.Prelude.{◌↔◌, map, is_some}
use Rattle.std.specs.List.{find, list_any}
use Rattle.cedar_language.specs.Uid.{Name, Uid}
use Rattle.cedar_language.specs.Facts.{Reaches, edge, further}
use Rattle.cedar_language.specs.Order.{same_name, same_uid}
use Rattle.cedar_language.proofs.Booleans.{and_left, or_cases}
use Rattle.cedar_typing.proofs.Sameness.{name_is, uid_is}
use Rattle.cedar_schema_grammar.specs.Declared.{Library, EntityType, CommonType, Action, Declared, entity_name, type_name, action_uid, entity_at, type_at, action_at}
use Rattle.cedar_schema_grammar.specs.Written.{mentioned, refers}
use Rattle.cedar_schema_grammar.specs.Faults.{groups_of, is_in_group}
use Rattle.cedar_schema_grammar.specs.Resolving.{parents_of, groups_lead, may_have_parent, types_with_parents}
use Rattle.cedar_schema_grammar.specs.Laws.{GroupsAreTransitive, ParentsAreTransitive, CyclesAreFound}
use Rattle.cedar_schema_grammar.specs.Reaching.{leads_through, IsAmong, LeadsFrom, Edge}

or_both : Bool → Bool → Bool → Bool
or_both a b c = elim a as (λ _. Bool) [ true ↦ true | false ↦ elim b as (λ _. Bool) [ true ↦ c | false ↦ false ] ]

-- what is true of the three
either_way : (a b c : Bool) → or_both a b c ≡ true → (a ≡ true) ⊎ ((b ≡ true) × (c ≡ true))
unfolding or_both
either_way true b c e = inl refl
either_way false true c e = inr (refl, e)
either_way false false c e = absurd (cc e)

first_way : (a b c : Bool) → a ≡ true → or_both a b c ≡ true
unfolding or_both
first_way true b c e = refl
first_way false b c e = absurd (cc e)

second_way : (a b c : Bool) → b ≡ true → c ≡ true → or_both a b c ≡ true
unfolding or_both
second_way true b c e f = refl
second_way false true c e f = f
second_way false false c e f = absurd (cc e)

module _ {K : Type 0} (leads : K → K → Bool) where
  through : List K → K → K → Type 0
  through ks x y = leads_through leads ks x y ≡ true

  apart : (k : K) (ks : List K) (x y : K) → through (k ∷ ks) x y → through ks x y ⊎ (through ks x k × through ks k y)
  unfolding through or_both
  apart k ks x y e = either_way (leads_through leads ks x y) (leads_through leads ks x k) (leads_through leads ks k y) e

  kept : (k : K) (ks : List K) (x y : K) → through ks x y → through (k ∷ ks) x y
  unfolding through or_both
  kept k ks x y e = first_way (leads_through leads ks x y) (leads_through leads ks x k) (leads_through leads ks k y) e

  by_way_of : (k : K) (ks : List K) (x y : K) → through ks x k → through ks k y → through (k ∷ ks) x y
  unfolding through or_both
  by_way_of k ks x y e f = second_way (leads_through leads ks x y) (leads_through leads ks x k) (leads_through leads ks k y) e f

  -- the way to the first of the list needs it nowhere else, nor does the way from it
  to_first : (k : K) (ks : List K) (x : K) → through (k ∷ ks) x k → through ks x k
  to_first k ks x e = by (apart k ks x k e)
    where
      by : through ks x k ⊎ (through ks x k × through ks k k) → through ks x k
      by (inl f) = f
      by (inr f) = f.0

  from_first : (k : K) (ks : List K) (y : K) → through (k ∷ ks) k y → through ks k y
  from_first k ks y e = by (apart k ks k y e)
    where
      by : through ks k y ⊎ (through ks k k × through ks k y) → through ks k y
      by (inl f) = f
      by (inr f) = f.1

  -- two ways that meet at one of the list are one
  joined : (ks : List K) (k x y : K) → IsAmong k ks → through ks x k → through ks k y → through ks x y
  joined [] k x y m e f = absurd m
  joined (j ∷ ks) k x y (inl m) e f =
      by_way_of j ks x y (to_first j ks x (subst (λ z. through (j ∷ ks) x z) m e)) (from_first j ks y (subst (λ z. through (j ∷ ks) z y) m f))
  joined (j ∷ ks) k x y (inr m) e f = by (apart j ks x k e) (apart j ks k y f) (joined ks k)
    where
      by : through ks x k ⊎ (through ks x j × through ks j k) → through ks k y ⊎ (through ks k j × through ks j y) → ((a b : K) → IsAmong k ks → through ks a k → through ks k b → through ks a b) → through (j ∷ ks) x y
      by (inl a) (inl b) join = kept j ks x y (join x y m a b)
      by (inl a) (inr b) join = by_way_of j ks x y (join x j m a b.0) b.1
      by (inr a) (inl b) join = by_way_of j ks x y a.0 (join j y m a.1 b)
      by (inr a) (inr b) join = by_way_of j ks x y a.0 b.1

  pub reaches_on : (x y z : K) → Reaches (Edge leads) x y → Reaches (Edge leads) y z → Reaches (Edge leads) x z
  reaches_on x y z (edge e) r = further e r
  reaches_on x y z (further {b} e q) r = further e (reaches_on b y z q r)

  through_reaches : (ks : List K) (x y : K) → through ks x y → Reaches (Edge leads) x y
  unfolding through
  through_reaches [] x y e = edge e
  through_reaches (k ∷ ks) x y e = by (apart k ks x y e) (through_reaches ks)
    where
      by : through ks x y ⊎ (through ks x k × through ks k y) → ((a b : K) → through ks a b → Reaches (Edge leads) a b) → Reaches (Edge leads) x y
      by (inl f) ih = ih x y f
      by (inr f) ih = reaches_on x k y (ih x k f.0) (ih k y f.1)

  edge_through : (ks : List K) (x y : K) → leads x y ≡ true → through ks x y
  unfolding through
  edge_through [] x y e = e
  edge_through (k ∷ ks) x y e = kept k ks x y (edge_through ks x y e)

  pub begins_among : (ks : List K) → LeadsFrom leads ks → (x y : K) → Reaches (Edge leads) x y → IsAmong x ks
  begins_among ks f x y (edge e) = f x y e
  begins_among ks f x y (further {b} e r) = f x b e

  reaches_through : (ks : List K) → LeadsFrom leads ks → (x y : K) → Reaches (Edge leads) x y → through ks x y
  reaches_through ks f x y (edge e) = edge_through ks x y e
  reaches_through ks f x y (further {b} e r) = joined ks b x y (begins_among ks f b y r) (edge_through ks x b e) (reaches_through ks f b y r)

  pub leads_where_edges_do : (ks : List K) → LeadsFrom leads ks → (x y : K) → (leads_through leads ks x y ≡ true) ↔ Reaches (Edge leads) x y
  unfolding through
  leads_where_edges_do ks f x y = (through_reaches ks x y, reaches_through ks f x y)

-- ---- what is found by its name is among the names

pub among_front : {K : Type 0} (x : K) (ks js : List K) → IsAmong x ks → IsAmong x (ks ++ js)
among_front x [] js m = absurd m
among_front x (k ∷ ks) js (inl e) = inl e
among_front x (k ∷ ks) js (inr m) = inr (among_front x ks js m)

pub among_back : {K : Type 0} (x : K) (ks js : List K) → IsAmong x js → IsAmong x (ks ++ js)
among_back x [] js m = m
among_back x (k ∷ ks) js m = inr (among_back x ks js m)

-- where something is found by a test of its key, the key is among the keys
pub found_among : {A K : Type 0} (key : A → K) (same : K → K → Bool) → ((j k : K) → same j k ≡ true → j ≡ k) → (xs : List A) (k : K) → is_some (find (λ x. same (key x) k) xs) ≡ true → IsAmong k (map key xs)
found_among key same is [] k e = absurd (cc e)
found_among key same is (x ∷ xs) k e = by (same (key x) k) refl e (found_among key same is xs k)
  where
    by : (b : Bool) → same (key x) k ≡ b → is_some (find (λ y. same (key y) k) (x ∷ xs)) ≡ true → (is_some (find (λ y. same (key y) k) xs) ≡ true → IsAmong k (map key xs)) → IsAmong k (key x ∷ map key xs)
    by true f g ih = inl (sym (is (key x) k f))
    by false f g ih = inr (ih (rw (f, find) at g))

-- likewise where some thing of this key passes a test
pub any_among : {A K : Type 0} (key : A → K) (same : K → K → Bool) (test : A → Bool) → ((j k : K) → same j k ≡ true → j ≡ k) → (xs : List A) (k : K) → list_any (λ x. same (key x) k && test x) xs ≡ true → IsAmong k (map key xs)
any_among key same test is [] k e = absurd (cc e)
any_among key same test is (x ∷ xs) k e = by (or_cases (same (key x) k && test x) (list_any (λ y. same (key y) k && test y) xs) e) (any_among key same test is xs k)
  where
    by : ((same (key x) k && test x) ≡ true) ⊎ (list_any (λ y. same (key y) k && test y) xs ≡ true) → (list_any (λ y. same (key y) k && test y) xs ≡ true → IsAmong k (map key xs)) → IsAmong k (key x ∷ map key xs)
    by (inl f) ih = inl (sym (is (key x) k (and_left (same (key x) k) (test x) f)))
    by (inr f) ih = inr (ih f)

-- ---- what a schema declares

groups_are_found : (d : Declared) (w : Uid) (o : Option Action) → list_any (same_uid w) (groups_of d o) ≡ true → is_some o ≡ true
groups_are_found d w None e = absurd (cc e)
groups_are_found d w (Some a) e = refl

groups_lead_from : (d : Declared) → LeadsFrom (is_in_group d) (map action_uid d.actions)
groups_lead_from d u w e = found_among action_uid same_uid uid_is d.actions u (groups_are_found d w (action_at d u) e)

pub groups_are_transitive : GroupsAreTransitive
groups_are_transitive l d = leads_where_edges_do (is_in_group d) (map action_uid d.actions) (groups_lead_from d)

parents_are_found : (d : Declared) (m : Name) (o : Option EntityType) → list_any (same_name m) (parents_of d o) ≡ true → is_some o ≡ true
parents_are_found d m None e = absurd (cc e)
parents_are_found d m (Some a) e = refl

parents_lead_from : (d : Declared) → LeadsFrom (may_have_parent d) (types_with_parents d)
parents_lead_from d n m e = by (or_cases (list_any (same_name m) (parents_of d (entity_at d n))) (groups_lead d n m) e)
  where
    by : (list_any (same_name m) (parents_of d (entity_at d n)) ≡ true) ⊎ (groups_lead d n m ≡ true) → IsAmong n (types_with_parents d)
    by (inl f) = among_front n (map entity_name d.entities) (map (λ a. (action_uid a).type_name) d.actions) (found_among entity_name same_name name_is d.entities n (parents_are_found d m (entity_at d n) f))
    by (inr f) =
        among_back n (map entity_name d.entities) (map (λ a. (action_uid a).type_name) d.actions)
        (any_among (λ a. (action_uid a).type_name) same_name (λ a. list_any (λ w. same_name w.type_name m) (groups_of d (action_at d (action_uid a)))) name_is d.actions n f)

pub parents_are_transitive : ParentsAreTransitive
parents_are_transitive l d = leads_where_edges_do (may_have_parent d) (types_with_parents d) (parents_lead_from d)

references_are_found : (d : Declared) (l : Library) (m : Name) (o : Option CommonType) → list_any (same_name m) (mentioned d l o) ≡ true → is_some o ≡ true
references_are_found d l m None e = absurd (cc e)
references_are_found d l m (Some t) e = refl

pub references_lead_from : (d : Declared) (l : Library) → LeadsFrom (refers d l) (map type_name d.types)
references_lead_from d l n m e = found_among type_name same_name name_is d.types n (references_are_found d l m (type_at d n) e)

pub cycles_are_found : CyclesAreFound
cycles_are_found l d = leads_where_edges_do (refers d l) (map type_name d.types) (references_lead_from d l)
