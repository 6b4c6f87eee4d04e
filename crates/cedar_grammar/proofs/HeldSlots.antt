-- Where a policy has no slot, none stands in its scope and its clauses; and what binding leaves of slots.
use Rattle.std.proofs.Common.{◌≡◌, Bool, true, false, ◌&&◌, ◌||◌, not, Option, Some, None, is_some, List, [], ◌∷◌, ◌++◌, map, refl, sym, ◌∙◌, ap, true≢false}
use Rattle.std.specs.List.{list_any}
use Rattle.std.proofs.lemmas.List.Folds.{list_any-append}
use Rattle.cedar_language.specs.Uid.{Uid}
use Rattle.cedar_language.specs.Tree.{Boolean, Entity, SlotId, PrincipalSlot, ResourceSlot, Variable, Principal, Resource, Tree, Lit, Var, Slot, Unknown, If, And, Or, Apply, Trees, no_trees, a_tree}
use Rattle.cedar_language.specs.Slots.{Slots, tree_slots, trees_slots, bound_slot, bound_tree, bound_trees}
use Rattle.cedar_grammar.specs.Build.{trees, conjunction}
use Rattle.cedar_grammar.specs.Policy.{Policy, Target, the_entity, the_slot, Constraint, anything, equals, within, of_type, of_type_within, ActionConstraint, any_action, action_equals, action_within_any, target_slots, constraint_tree, constraint_slots, action_tree, scope_tree, with_body, condition, scope_slots, body_slots, held_slots, is_slot, holds_slot, where_held, slots, bound_target, bound_constraint, bound_body, bound}
use Rattle.cedar_grammar.specs.Syntax.{has_slot, are_some}

-- ---- lists of slots

pub first_empty : (xs ys : List SlotId) → xs ++ ys ≡ [] → xs ≡ []
first_empty [] ys e = refl
first_empty (x ∷ xs) ys e = absurd (cc e)

pub second_empty : (xs ys : List SlotId) → xs ++ ys ≡ [] → ys ≡ []
second_empty [] ys e = e
second_empty (x ∷ xs) ys e = absurd (cc e)

both_empty : (xs ys : List SlotId) → xs ≡ [] → ys ≡ [] → xs ++ ys ≡ []
both_empty xs ys e f = rw (e, f) refl

pub none_left : (ss : List SlotId) → are_some ss ≡ false → ss ≡ []
none_left [] e = refl
none_left (s ∷ ss) e = absurd (true≢false e)

none_among : (xs : List SlotId) → list_any (is_slot PrincipalSlot) xs ≡ false → list_any (is_slot ResourceSlot) xs ≡ false → xs ≡ []
none_among [] e f = refl
none_among (PrincipalSlot ∷ xs) e f = absurd (true≢false e)
none_among (ResourceSlot ∷ xs) e f = absurd (true≢false f)

not_held : (b : Bool) (s : SlotId) → where_held b s ≡ [] → b ≡ false
not_held true s e = absurd (cc e)
not_held false s e = refl

-- ---- a policy without slots

module _ (p : Policy) (none : slots p ≡ []) where
  none_held : held_slots p ≡ []
  none_held =
      none_among (held_slots p)
      (not_held (holds_slot p PrincipalSlot) PrincipalSlot (first_empty (where_held (holds_slot p PrincipalSlot) PrincipalSlot) (where_held (holds_slot p ResourceSlot) ResourceSlot) none))
      (not_held (holds_slot p ResourceSlot) ResourceSlot (second_empty (where_held (holds_slot p PrincipalSlot) PrincipalSlot) (where_held (holds_slot p ResourceSlot) ResourceSlot) none))

  scope_free : scope_slots p ≡ []
  scope_free = first_empty (scope_slots p) (body_slots p.body) none_held

  pub principal_free : constraint_slots PrincipalSlot p.principal ≡ []
  principal_free = first_empty (constraint_slots PrincipalSlot p.principal) (constraint_slots ResourceSlot p.resource) scope_free

  pub resource_free : constraint_slots ResourceSlot p.resource ≡ []
  resource_free = second_empty (constraint_slots PrincipalSlot p.principal) (constraint_slots ResourceSlot p.resource) scope_free

  pub body_free : body_slots p.body ≡ []
  body_free = second_empty (scope_slots p) (body_slots p.body) none_held

conjunction_free : (l r : Tree) → tree_slots l ≡ [] → tree_slots r ≡ [] → tree_slots (conjunction l r) ≡ []
conjunction_free (Lit (Boolean a)) (Lit (Boolean b)) h k = refl
conjunction_free l r h k = both_empty (tree_slots l) (tree_slots r) h k

constraint_free : (v : Variable) (slot : SlotId) (c : Constraint) → constraint_slots slot c ≡ [] → tree_slots (constraint_tree v slot c) ≡ []
constraint_free v slot anything e = refl
constraint_free v slot (equals (the_entity u)) e = refl
constraint_free v slot (equals the_slot) e = absurd (cc e)
constraint_free v slot (within (the_entity u)) e = refl
constraint_free v slot (within the_slot) e = absurd (cc e)
constraint_free v slot (of_type name) e = refl
constraint_free v slot (of_type_within name (the_entity u)) e = refl
constraint_free v slot (of_type_within name the_slot) e = absurd (cc e)

literals_free : (us : List Uid) → trees_slots (trees (map (λ u. Lit (Entity u)) us)) ≡ []
literals_free [] = refl
literals_free (u ∷ us) = literals_free us

action_free : (c : ActionConstraint) → tree_slots (action_tree c) ≡ []
action_free any_action = refl
action_free (action_equals u) = refl
action_free (action_within_any us) = rw (literals_free us) refl

clauses_free : (scope : Tree) (o : Option Tree) → tree_slots scope ≡ [] → body_slots o ≡ [] → tree_slots (with_body scope o) ≡ []
clauses_free scope None h k = h
clauses_free scope (Some c) h k = conjunction_free scope c h k

-- its condition holds none
pub condition_free : (p : Policy) → slots p ≡ [] → tree_slots (condition p) ≡ []
condition_free p none =
    let principal = constraint_tree Principal PrincipalSlot p.principal in
    let resource = constraint_tree Resource ResourceSlot p.resource in
    clauses_free (scope_tree p) p.body
    (conjunction_free (conjunction principal (action_tree p.action)) resource
    (conjunction_free principal (action_tree p.action) (constraint_free Principal PrincipalSlot p.principal (principal_free p none)) (action_free p.action))
    (constraint_free Resource ResourceSlot p.resource (resource_free p none))) (body_free p none)

-- ---- binding slots

both_still : (p q c : Bool) → ((p && c) || (q && c)) ≡ ((p || q) && c)
both_still true true true = refl
both_still true true false = refl
both_still true false true = refl
both_still true false false = refl
both_still false q c = refl

module _ (b : Slots) (x : SlotId) where
  abbrev is_held : List SlotId → Bool
  is_held ss = list_any (is_slot x) ss

  -- it is held, and not bound
  abbrev still : Bool → Bool
  still h = h && not (is_some (b x))

  parts : (xs ys us vs : List SlotId) → is_held us ≡ still (is_held xs) → is_held vs ≡ still (is_held ys) → is_held (us ++ vs) ≡ still (is_held (xs ++ ys))
  parts xs ys us vs e f =
      list_any-append (is_slot x) us vs ∙ (λ i. e i || f i) ∙ both_still (is_held xs) (is_held ys) (not (is_some (b x))) ∙ sym (ap still (list_any-append (is_slot x) xs ys))

slot_left : (b : Slots) (x s : SlotId) (o : Option Uid) → b s ≡ o → is_held b x (tree_slots (bound_slot s o)) ≡ still b x (is_held b x (s ∷ []))
slot_left b PrincipalSlot PrincipalSlot None e = sym (ap (λ o. not (is_some o)) e)
slot_left b PrincipalSlot PrincipalSlot (Some u) e = sym (ap (λ o. not (is_some o)) e)
slot_left b PrincipalSlot ResourceSlot None e = refl
slot_left b PrincipalSlot ResourceSlot (Some u) e = refl
slot_left b ResourceSlot PrincipalSlot None e = refl
slot_left b ResourceSlot PrincipalSlot (Some u) e = refl
slot_left b ResourceSlot ResourceSlot None e = sym (ap (λ o. not (is_some o)) e)
slot_left b ResourceSlot ResourceSlot (Some u) e = sym (ap (λ o. not (is_some o)) e)

module _ (b : Slots) (x : SlotId) where
  mutual
    tree_left : (t : Tree) → is_held b x (tree_slots (bound_tree b t)) ≡ still b x (is_held b x (tree_slots t))
    tree_left (Lit l) = refl
    tree_left (Var v) = refl
    tree_left (Slot s) = slot_left b x s (b s) refl
    tree_left (Unknown n ty) = refl
    tree_left (If t u v) =
        parts b x (tree_slots t) (tree_slots u ++ tree_slots v) (tree_slots (bound_tree b t)) (tree_slots (bound_tree b u) ++ tree_slots (bound_tree b v)) (tree_left t)
        (parts b x (tree_slots u) (tree_slots v) (tree_slots (bound_tree b u)) (tree_slots (bound_tree b v)) (tree_left u) (tree_left v))
    tree_left (And t u) = parts b x (tree_slots t) (tree_slots u) (tree_slots (bound_tree b t)) (tree_slots (bound_tree b u)) (tree_left t) (tree_left u)
    tree_left (Or t u) = parts b x (tree_slots t) (tree_slots u) (tree_slots (bound_tree b t)) (tree_slots (bound_tree b u)) (tree_left t) (tree_left u)
    tree_left (Apply op ts) = trees_left ts

    trees_left : (ts : Trees) → is_held b x (trees_slots (bound_trees b ts)) ≡ still b x (is_held b x (trees_slots ts))
    trees_left no_trees = refl
    trees_left (a_tree t ts) = parts b x (tree_slots t) (trees_slots ts) (tree_slots (bound_tree b t)) (trees_slots (bound_trees b ts)) (tree_left t) (trees_left ts)

  body_left : (o : Option Tree) → is_held b x (body_slots (bound_body b o)) ≡ still b x (is_held b x (body_slots o))
  body_left None = refl
  body_left (Some c) = tree_left c

  target_left : (s : SlotId) (o : Option Uid) → b s ≡ o → (e : Target) → is_held b x (target_slots s (bound_target o e)) ≡ still b x (is_held b x (target_slots s e))
  target_left s None is (the_entity u) = refl
  target_left s (Some v) is (the_entity u) = refl
  target_left s None is the_slot = slot_left b x s None is
  target_left s (Some v) is the_slot = slot_left b x s (Some v) is

  constraint_left : (s : SlotId) (c : Constraint) → is_held b x (constraint_slots s (bound_constraint (b s) c)) ≡ still b x (is_held b x (constraint_slots s c))
  constraint_left s anything = refl
  constraint_left s (equals e) = target_left s (b s) refl e
  constraint_left s (within e) = target_left s (b s) refl e
  constraint_left s (of_type name) = refl
  constraint_left s (of_type_within name e) = target_left s (b s) refl e

  -- what is held of a slot once slots are bound
  pub held_left : (p : Policy) → holds_slot (bound b p) x ≡ still b x (holds_slot p x)
  held_left p =
      parts b x (scope_slots p) (body_slots p.body) (scope_slots (bound b p)) (body_slots (bound_body b p.body))
      (parts b x (constraint_slots PrincipalSlot p.principal) (constraint_slots ResourceSlot p.resource) (constraint_slots PrincipalSlot (bound_constraint (b PrincipalSlot) p.principal)) (constraint_slots ResourceSlot (bound_constraint (b ResourceSlot) p.resource))
      (constraint_left PrincipalSlot p.principal) (constraint_left ResourceSlot p.resource)) (body_left p.body)

-- ---- just the slots that are held

principal_listed : (h k : Bool) → list_any (is_slot PrincipalSlot) (where_held h PrincipalSlot ++ where_held k ResourceSlot) ≡ h
principal_listed true true = refl
principal_listed true false = refl
principal_listed false true = refl
principal_listed false false = refl

resource_listed : (h k : Bool) → list_any (is_slot ResourceSlot) (where_held h PrincipalSlot ++ where_held k ResourceSlot) ≡ k
resource_listed true true = refl
resource_listed true false = refl
resource_listed false true = refl
resource_listed false false = refl

-- a policy has the slots that it holds
pub has_held : (p : Policy) (x : SlotId) → has_slot p x ≡ holds_slot p x
has_held p PrincipalSlot = principal_listed (holds_slot p PrincipalSlot) (holds_slot p ResourceSlot)
has_held p ResourceSlot = resource_listed (holds_slot p PrincipalSlot) (holds_slot p ResourceSlot)
