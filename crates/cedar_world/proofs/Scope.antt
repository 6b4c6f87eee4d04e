-- How far scopes are settled.
use Rattle.std.proofs.Common.{◌≡◌, Bool, true, false, not, ◌&&◌, ◌||◌, Option, Some, None, List, [], ◌∷◌, map, refl, ◌∙◌, ap}
use Rattle.std.proofs.lemmas.Bool.{and_from}
use Rattle.std.specs.FinMap as finite
use Rattle.cedar_language.specs.Uid.{Text, Name, Uid}
use Rattle.cedar_language.specs.Tree.{Boolean, Entity, Variable, Principal, Action, Resource, SlotId, PrincipalSlot, ResourceSlot, Tree, Lit}
use Rattle.cedar_language.specs.Value.{Plain, Gives}
use Rattle.cedar_language.specs.Order.{same_name, same_uid}
use Rattle.cedar_language.specs.Facts.{Facts}
use Rattle.cedar_language.specs.Operators.{is_within}
use Rattle.cedar_partial_evaluation.specs.Settling.{Settling, Open, Is, AllAre, and_settled, LeafSettlings, equal_by_types, settled_in, all_settled_in}
use Rattle.cedar_partial_evaluation.specs.Mentions.{mentions_only, all_mention_only}
use Rattle.cedar_partial_evaluation.specs.Question.{part_settled, part_type, settled_of}
use Rattle.cedar_grammar.specs.Build.{trees, conjunction}
use Rattle.cedar_grammar.specs.Policy.{Target, the_entity, the_slot, Constraint, anything, equals, within, of_type, of_type_within, ActionConstraint, any_action, action_equals, action_within_any, target_tree, constraint_tree, action_tree, scope_tree, with_body, constraint_slots, slots}
use Rattle.cedar_world.specs.Orders.{text_cmp}
use Rattle.cedar_grammar.specs.Syntax.{PolicySyntax, condition, is_template}
use Rattle.cedar_world.specs.Asking.{Part, Given, Missing, Question}
use Rattle.cedar_world.specs.Standing.{settled_so_far, StandsSoFar, still_open, decided}
use Rattle.cedar_grammar.specs.Scopes.{meets, and_then_met}
use Rattle.cedar_world.specs.Scope.{met, action_met, unless_other, by_type, known_of, action_by_type, action_known_of, scope_met, scope_known, standing_met, ScopesSettle}
use Rattle.cedar_language.proofs.Booleans.{or_false}
use Rattle.cedar_partial_evaluation.proofs.Scopes.{decides_equality, entity_equal, entities, rising_uids}
use Rattle.cedar_grammar.proofs.HeldSlots.{none_left, principal_free, resource_free}

-- ---- conjunctions

folded : (facts : Facts) (around : LeafSettlings) (l r : Tree) → settled_in facts around (conjunction l r) ≡ and_settled (settled_in facts around l) (settled_in facts around r)
folded facts around (Lit (Boolean true)) (Lit (Boolean b)) = refl
folded facts around (Lit (Boolean false)) (Lit (Boolean b)) = refl
folded facts around _ _ = refl

-- ---- `in` without ancestors

is_equality : (facts : Facts) → ((a b : Uid) → facts.reaches a b ≡ false) → is_within facts ≡ same_uid
is_equality facts none =
    let is : (a b : Uid) → is_within facts a b ≡ same_uid a b = λ a b. ap (λ r. same_uid a b || r) (none a b) ∙ or_false (same_uid a b) in
    λ i a b. is a b i

-- ---- a list of entities

all_literals : (facts : Facts) (around : LeafSettlings) (us : List Uid) → all_settled_in facts around (trees (map (λ u. Lit (Entity u)) us)) ≡ AllAre (entities us)
all_literals facts around [] = refl
all_literals facts around (u ∷ us) = rw (all_literals facts around us) refl

-- ---- constraints

abbrev known : Option Bool → Settling
known (Some b) = Is (Plain (Boolean b))
known None = Open

and_known : (o p : Option Bool) → and_settled (known o) (known p) ≡ known (and_then_met o p)
and_known (Some true) (Some b) = refl
and_known _ _ = refl

and_both_known : (a b : Bool) → and_settled (known (Some a)) (known (Some b)) ≡ known (Some (a && b))
and_both_known true b = refl
and_both_known false b = refl

-- ---- types that are stated of what is missing

equal_stated : (b : Bool) → equal_by_types (not b) ≡ known (unless_other b)
equal_stated true = refl
equal_stated false = refl

within_stated : (b : Bool) → and_settled (Is (Plain (Boolean b))) Open ≡ known (unless_other b)
within_stated true = refl
within_stated false = refl

module _ (facts : Facts) (around : LeafSettlings) (v : Variable) where
  constraint_given : (slot : SlotId) (c : Constraint) (u : Uid) → constraint_slots slot c ≡ [] → around.variable v ≡ Is (Plain (Entity u)) → settled_in facts around (constraint_tree v slot c) ≡ known (Some (meets (is_within facts) c u))
  constraint_given slot anything u h e = refl
  constraint_given slot (equals (the_entity x)) u h e = rw e (ap (λ b. Is (Plain (Boolean b))) (entity_equal u x))
  constraint_given slot (within (the_entity x)) u h e = rw e refl
  constraint_given slot (of_type name) u h e = rw e refl
  constraint_given slot (of_type_within name (the_entity x)) u h e = rw e (and_both_known (same_name u.type_name name) (is_within facts u x))
  constraint_given slot _ u h e = cc

  equal_missing : (x : Uid) (type : Option Name) → around.variable v ≡ Open → around.variable_type v ≡ type →
      settled_in facts around (constraint_tree v PrincipalSlot (equals (the_entity x))) ≡ known (by_type (equals (the_entity x)) type)
  equal_missing x (Some ty) e t = rw (e, t) (equal_stated (same_name ty x.type_name))
  equal_missing x None e t = rw (e, t) refl

  constraint_missing : (slot : SlotId) (c : Constraint) (type : Option Name) → constraint_slots slot c ≡ [] → around.variable v ≡ Open → around.variable_type v ≡ type →
      settled_in facts around (constraint_tree v slot c) ≡ known (by_type c type)
  constraint_missing slot anything type h e t = refl
  constraint_missing slot (equals (the_entity x)) type h e t = equal_missing x type e t
  constraint_missing slot (within (the_entity x)) type h e t = rw e refl
  constraint_missing slot (of_type name) (Some ty) h e t = rw (e, t) refl
  constraint_missing slot (of_type name) None h e t = rw (e, t) refl
  constraint_missing slot (of_type_within name (the_entity x)) (Some ty) h e t = rw (e, t) (within_stated (same_name ty name))
  constraint_missing slot (of_type_within name (the_entity x)) None h e t = rw (e, t) refl
  constraint_missing slot _ type h e t = cc

  constraint_settled : (slot : SlotId) (c : Constraint) (part : Part) → constraint_slots slot c ≡ [] → around.variable v ≡ part_settled part None → around.variable_type v ≡ part_type part None →
      settled_in facts around (constraint_tree v slot c) ≡ known (known_of (is_within facts) c part)
  constraint_settled slot anything (Given u) h e t = refl
  constraint_settled slot c (Missing type) h e t = constraint_missing slot c type h e t
  constraint_settled slot c (Given u) h e t = constraint_given slot c u h e

module _ (facts : Facts) (around : LeafSettlings) where
  action_given : (c : ActionConstraint) (u : Uid) → around.variable Action ≡ Is (Plain (Entity u)) → settled_in facts around (action_tree c) ≡ known (action_met (is_within facts) c (Given u))
  action_given any_action u e = refl
  action_given (action_equals x) u e = rw e (ap (λ b. Is (Plain (Boolean b))) (entity_equal u x))
  action_given (action_within_any us) u e =
      let rest = rising_uids facts us in
      rw (e, all_literals facts around us, rest.uids_are) (ap (λ b. Is (Plain (Boolean b))) (rest.found u))

  action_missing : (c : ActionConstraint) (type : Option Name) → around.variable Action ≡ Open → around.variable_type Action ≡ type → settled_in facts around (action_tree c) ≡ known (action_by_type c type)
  action_missing any_action type e t = refl
  action_missing (action_equals x) (Some ty) e t = rw (e, t) (equal_stated (same_name ty x.type_name))
  action_missing (action_equals x) None e t = rw (e, t) refl
  action_missing (action_within_any us) type e t = rw (e, all_literals facts around us) refl

  action_settled : (c : ActionConstraint) (part : Part) → around.variable Action ≡ part_settled part None → around.variable_type Action ≡ part_type part None →
      settled_in facts around (action_tree c) ≡ known (action_known_of (is_within facts) c part)
  action_settled c (Given u) e t = action_given c u e
  action_settled c (Missing type) e t = action_missing c type e t

-- ---- conditions

module _ (facts : Facts) (q : Question) (s : PolicySyntax) (static : is_template s ≡ false) where
  abbrev around : LeafSettlings
  around = settled_of facts q (λ s. None) finite.empty

  part_untold : (p : Part) (n : Text) → part_settled p (finite.get {R = text_cmp} finite.empty n) ≡ part_settled p None
  part_untold p n = ap (part_settled p) (finite.get-empty text_cmp n)

  type_untold : (p : Part) (n : Text) → part_type p (finite.get {R = text_cmp} finite.empty n) ≡ part_type p None
  type_untold p n = ap (part_type p) (finite.get-empty text_cmp n)

  both_known : (l r : Tree) (o p : Option Bool) → settled_in facts around l ≡ known o → settled_in facts around r ≡ known p → settled_in facts around (conjunction l r) ≡ known (and_then_met o p)
  both_known l r o p h k =
      folded facts around l r ∙ ap (λ x. and_settled x (settled_in facts around r)) h ∙ ap (and_settled (known o)) k ∙ and_known o p

  scope_settled : settled_in facts around (scope_tree s) ≡ known (scope_known (is_within facts) s q)
  scope_settled =
      let principal : settled_in facts around (constraint_tree Principal PrincipalSlot s.principal) ≡ known (known_of (is_within facts) s.principal q.principal) =
      constraint_settled facts around Principal PrincipalSlot s.principal q.principal (principal_free s (none_left (slots s) static)) (part_untold q.principal _) (type_untold q.principal _) in
      let action : settled_in facts around (action_tree s.action) ≡ known (action_known_of (is_within facts) s.action q.action) = action_settled facts around s.action q.action (part_untold q.action _) (type_untold q.action _) in
      let resource : settled_in facts around (constraint_tree Resource ResourceSlot s.resource) ≡ known (known_of (is_within facts) s.resource q.resource) =
      constraint_settled facts around Resource ResourceSlot s.resource q.resource (resource_free s (none_left (slots s) static)) (part_untold q.resource _) (type_untold q.resource _) in
      both_known (conjunction (constraint_tree Principal PrincipalSlot s.principal) (action_tree s.action)) (constraint_tree Resource ResourceSlot s.resource)
      (and_then_met (known_of (is_within facts) s.principal q.principal) (action_known_of (is_within facts) s.action q.action)) (known_of (is_within facts) s.resource q.resource)
      (both_known (constraint_tree Principal PrincipalSlot s.principal) (action_tree s.action) (known_of (is_within facts) s.principal q.principal) (action_known_of (is_within facts) s.action q.action) principal action) resource

  settles_as : (o : Option Bool) → settled_so_far facts q finite.empty (condition s) ≡ known o → StandsSoFar facts q finite.empty s (standing_met o)
  settles_as (Some true) h = decided (Gives (Plain (Boolean true))) h refl
  settles_as (Some false) h = decided (Gives (Plain (Boolean false))) h refl
  settles_as None h = still_open h

  stands : s.body ≡ None → StandsSoFar facts q finite.empty s (standing_met (scope_known (is_within facts) s q))
  stands none = settles_as (scope_known (is_within facts) s q) (ap (λ b. settled_in facts around (with_body (scope_tree s) b)) none ∙ scope_settled)

-- ---- what the given parts suffice to decide

module _ (facts : Facts) (around : LeafSettlings) where
  module _ (v : Variable) (slot : SlotId) where
    constraint_met : (c : Constraint) (part : Part) → constraint_slots slot c ≡ [] → ((u : Uid) → part ≡ Given u → around.variable v ≡ Is (Plain (Entity u)))
        → (b : Bool) → met (is_within facts) c part ≡ Some b → settled_in facts around (constraint_tree v slot c) ≡ known (Some b)
    constraint_met anything part h given b e = ap known e
    constraint_met c (Given u) h given b e = constraint_given facts around v slot c u h (given u refl) ∙ ap known e
    constraint_met _ (Missing type) h given b e = cc

  action_is_met : (c : ActionConstraint) (part : Part) → ((u : Uid) → part ≡ Given u → around.variable Action ≡ Is (Plain (Entity u)))
      → (b : Bool) → action_met (is_within facts) c part ≡ Some b → settled_in facts around (action_tree c) ≡ known (Some b)
  action_is_met any_action part given b e = ap known e
  action_is_met c (Given u) given b e = action_given facts around c u (given u refl) ∙ ap known e
  action_is_met _ (Missing type) given b e = cc

  both_met : (l r : Tree) (o p : Option Bool) → ((b : Bool) → o ≡ Some b → settled_in facts around l ≡ known (Some b)) → ((b : Bool) → p ≡ Some b → settled_in facts around r ≡ known (Some b))
      → (b : Bool) → and_then_met o p ≡ Some b → settled_in facts around (conjunction l r) ≡ known (Some b)
  both_met l r (Some true) p f g b e = folded facts around l r ∙ ap (λ x. and_settled x (settled_in facts around r)) (f true refl) ∙ ap (and_settled (known (Some true))) (g b e)
  both_met l r (Some false) p f g b e = folded facts around l r ∙ ap (λ x. and_settled x (settled_in facts around r)) (f false refl) ∙ ap known e
  both_met l r None p f g b e = cc

  -- the parts of the question that are given are these leaves
  pub record AreGiven (q : Question) : Type 0 where
    pub principal : (u : Uid) → q.principal ≡ Given u → around.variable Principal ≡ Is (Plain (Entity u))
    pub action : (u : Uid) → q.action ≡ Given u → around.variable Action ≡ Is (Plain (Entity u))
    pub resource : (u : Uid) → q.resource ≡ Given u → around.variable Resource ≡ Is (Plain (Entity u))

  module _ (q : Question) (given : AreGiven q) (s : PolicySyntax) (static : is_template s ≡ false) where
    scope_is_met : (b : Bool) → scope_met (is_within facts) s q ≡ Some b → settled_in facts around (scope_tree s) ≡ known (Some b)
    scope_is_met =
        let principal = constraint_met Principal PrincipalSlot s.principal q.principal (principal_free s (none_left (slots s) static)) given.principal in
        let action = action_is_met s.action q.action given.action in
        let resource = constraint_met Resource ResourceSlot s.resource q.resource (resource_free s (none_left (slots s) static)) given.resource in
        both_met (conjunction (constraint_tree Principal PrincipalSlot s.principal) (action_tree s.action)) (constraint_tree Resource ResourceSlot s.resource)
        (and_then_met (met (is_within facts) s.principal q.principal) (action_met (is_within facts) s.action q.action)) (met (is_within facts) s.resource q.resource)
        (both_met (constraint_tree Principal PrincipalSlot s.principal) (action_tree s.action) (met (is_within facts) s.principal q.principal) (action_met (is_within facts) s.action q.action) principal action) resource

    unmet_with : (body : Option Tree) → scope_met (is_within facts) s q ≡ Some false → settled_in facts around (with_body (scope_tree s) body) ≡ Is (Plain (Boolean false))
    unmet_with None e = scope_is_met false e
    unmet_with (Some t) e = folded facts around (scope_tree s) t ∙ ap (λ x. and_settled x (settled_in facts around t)) (scope_is_met false e)

    -- where the scope doesn't hold, neither does the condition, whatever the clauses say
    pub condition_is_unmet : scope_met (is_within facts) s q ≡ Some false → settled_in facts around (condition s) ≡ Is (Plain (Boolean false))
    condition_is_unmet = unmet_with s.body

-- ---- no unknown is named

conjunction_names : (l r : Tree) → mentions_only (λ v. true) true l ≡ true → mentions_only (λ v. true) true r ≡ true → mentions_only (λ v. true) true (conjunction l r) ≡ true
conjunction_names (Lit (Boolean a)) (Lit (Boolean b)) h k = refl
conjunction_names l r h k = and_from (mentions_only (λ v. true) true l) (mentions_only (λ v. true) true r) h k

target_names : (slot : SlotId) (x : Target) → mentions_only (λ v. true) true (target_tree slot x) ≡ true
target_names slot (the_entity u) = refl
target_names slot the_slot = refl

constraint_names : (v : Variable) (slot : SlotId) (c : Constraint) → mentions_only (λ v. true) true (constraint_tree v slot c) ≡ true
constraint_names v slot (equals x) = rw (target_names slot x) refl
constraint_names v slot (within x) = rw (target_names slot x) refl
constraint_names v slot (of_type_within name x) = rw (target_names slot x) refl
constraint_names v slot _ = refl

literals_name : (us : List Uid) → all_mention_only (λ v. true) true (trees (map (λ u. Lit (Entity u)) us)) ≡ true
literals_name [] = refl
literals_name (u ∷ us) = literals_name us

action_names : (c : ActionConstraint) → mentions_only (λ v. true) true (action_tree c) ≡ true
action_names (action_within_any us) = rw (literals_name us) refl
action_names _ = refl

names_nothing : (s : PolicySyntax) → s.body ≡ None → mentions_only (λ v. true) true (condition s) ≡ true
names_nothing s none =
    ap (λ b. mentions_only (λ v. true) true (with_body (scope_tree s) b)) none
    ∙ conjunction_names (conjunction (constraint_tree Principal PrincipalSlot s.principal) (action_tree s.action)) (constraint_tree Resource ResourceSlot s.resource)
    (conjunction_names (constraint_tree Principal PrincipalSlot s.principal) (action_tree s.action) (constraint_names Principal PrincipalSlot s.principal) (action_names s.action)) (constraint_names Resource ResourceSlot s.resource)

pub scopes_settle : ScopesSettle
scopes_settle = record {
  stands = stands;
  folded = folded;
  names_nothing = names_nothing;
  is_equality = is_equality;
  decides_equality = decides_equality;
}
