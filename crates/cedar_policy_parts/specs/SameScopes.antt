-- Whether two scopes ask the same, by their parts.
use Rattle.std.proofs.Common.{◌≡◌, refl, sym, ap, subst, ℕ, zero, Bool, true, false, ◌&&◌, true≢false, List, [], ◌∷◌, ◌++◌, Option, Some, None}
use Rattle.std.specs.Prelude.{pos}
use Rattle.std.specs.declared.cmp.Ordering.{Ordering}
use Rattle.std.specs.Ordering.{on, eq_by_cmp}
use Rattle.std.specs.FinMap.{IsAntisymmetric}
use Rattle.std.specs.Hash as fed
use Rattle.std.specs.Hash.{HashWrites, Alike, same_Alike, on_Alike}
use Rattle.std.specs.Option.{option_eq}
use Rattle.std.specs.Bool.{Decides}
use Rattle.std.specs.Cmp.{IsEquivalence, IsTotalOrder, decided, first_so, second_so}
use Rattle.std.specs.Cmp.Lexicographic.{pointwise, pointwise_decides, bytes_decides}
use Rattle.cedar_language.specs.Uid.{Text, Name, Uid}
use Rattle.std.proofs.lemmas.Cmp.{on_total}
use Rattle.std.proofs.lemmas.Bool.{and_from}
use Rattle.cedar_language.specs.Order.{Head, head, head_cmp, same_name, same_uid}
use Rattle.cedar_literals.specs.Uids.{uid_hash}
use Rattle.cedar_literals.specs.Heads.{head_cmp_total, order_decides, by_head_same}
use Rattle.cedar_grammar.specs.Bindings.{Bindings}
use Rattle.cedar_policy_parts.specs.References.{target_of}
use Rattle.cedar_policy_parts.specs.declared.references.EntityReference.{EntityReference}
use Rattle.cedar_grammar.specs.Policy.{Target, the_entity, the_slot, Constraint, anything, equals, within, of_type, of_type_within, ActionConstraint, any_action, action_equals, action_within_any}

-- an entity stands before the slot
abbrev pub target_head : Target → Head
target_head (the_entity u) = head 0 (pos 0) (u.type_name ∷ []) (u.id ∷ [])
target_head the_slot = head 1 (pos 0) [] []

abbrev pub target_cmp : Target → Target → Ordering
target_cmp = on target_head head_cmp

abbrev pub same_target : Target → Target → Bool
same_target = eq_by_cmp target_cmp

-- the number of its kind, and the entity
abbrev pub target_hash : Target → HashWrites
target_hash (the_entity u) = fed.u8 0 ++ uid_hash u
target_hash the_slot = fed.u8 1

abbrev pub same_constraint : Constraint → Constraint → Bool
same_constraint anything anything = true
same_constraint (equals e) (equals f) = same_target e f
same_constraint (within e) (within f) = same_target e f
same_constraint (of_type p) (of_type q) = same_name p q
same_constraint (of_type_within p e) (of_type_within q f) = same_name p q && same_target e f
same_constraint _ _ = false

abbrev pub same_action : ActionConstraint → ActionConstraint → Bool
same_action any_action any_action = true
same_action (action_equals u) (action_equals v) = same_uid u v
same_action (action_within_any us) (action_within_any vs) = pointwise same_uid us vs
same_action _ _ = false

-- ---- each holds of the same ones alone

names_decide : (p q : Name) → Decides (same_name p q) (p ≡ q)
names_decide = pointwise_decides bytes_decides

uid_from : (u v : Uid) → u.type_name ≡ v.type_name → u.id ≡ v.id → u ≡ v
uid_from u v p q = λ i. record { type_name = p i; id = q i }

pub uids_decide : (u v : Uid) → Decides (same_uid u v) (u ≡ v)
uids_decide u v = (
  λ h. uid_from u v ((names_decide _ _).0 (first_so _ _ h)) ((bytes_decides u.id v.id).0 (second_so _ _ h)),
  λ e. and_from _ _ ((names_decide _ _).1 (ap (λ (w : Uid). w.type_name) e)) ((bytes_decides u.id v.id).1 (ap (λ (w : Uid). w.id) e)),
)

abbrev first_name : List Name → Name
first_name [] = []
first_name (n ∷ ns) = n

abbrev first_text : List Text → Text
first_text [] = []
first_text (t ∷ ts) = t

abbrev target_at : ℕ → List Name → List Text → Target
target_at zero ns ts = the_entity (record { type_name = first_name ns; id = first_text ts })
target_at _ ns ts = the_slot

abbrev target_from : Head → Target
target_from h = target_at h.kind h.names h.texts

target_back : (e : Target) → target_from (target_head e) ≡ e
target_back (the_entity u) = refl
target_back the_slot = refl

pub target_cmp_total : IsTotalOrder target_cmp
target_cmp_total = on_total target_head head_cmp_total

pub target_cmp_same : IsAntisymmetric target_cmp
target_cmp_same = by_head_same target_head target_from target_back

pub targets_decide : (e f : Target) → Decides (same_target e f) (e ≡ f)
targets_decide = order_decides target_cmp_total target_cmp_same

target_is : (e f : Target) → same_target e f ≡ true → e ≡ f
target_is e f = (targets_decide e f).0

target_itself : (e : Target) → same_target e e ≡ true
target_itself e = (targets_decide e e).1 refl

-- the same, at the references of the code
abbrev pub order_of_references : EntityReference → EntityReference → Ordering
order_of_references = on target_of target_cmp

pub references_total : IsTotalOrder order_of_references
references_total = on_total target_of target_cmp_total

pub references_alike : Alike (eq_by_cmp order_of_references) (λ e. target_hash (target_of e))
references_alike = on_Alike target_of (same_Alike target_hash targets_decide)

constraint_is : (c d : Constraint) → same_constraint c d ≡ true → c ≡ d
constraint_is anything anything h = refl
constraint_is (equals e) (equals f) h = ap equals (target_is e f h)
constraint_is (within e) (within f) h = ap within (target_is e f h)
constraint_is (of_type p) (of_type q) h = ap of_type ((names_decide p q).0 h)
constraint_is (of_type_within p e) (of_type_within q f) h =
    let name : p ≡ q = (names_decide p q).0 (first_so _ _ h) in
    let target : e ≡ f = target_is e f (second_so _ _ h) in
    λ i. of_type_within (name i) (target i)
constraint_is _ _ h = absurd (true≢false (sym h))

constraint_itself : (c : Constraint) → same_constraint c c ≡ true
constraint_itself anything = refl
constraint_itself (equals e) = target_itself e
constraint_itself (within e) = target_itself e
constraint_itself (of_type p) = (names_decide p p).1 refl
constraint_itself (of_type_within p e) = and_from _ _ ((names_decide p p).1 refl) (target_itself e)

pub constraints_decide : (c d : Constraint) → Decides (same_constraint c d) (c ≡ d)
constraints_decide c d = (constraint_is c d, λ h. subst (λ (g : Constraint). same_constraint c g ≡ true) h (constraint_itself c))

pub same_constraint_equiv : IsEquivalence same_constraint
same_constraint_equiv = decided same_constraint constraints_decide

uid_lists_decide : (us vs : List Uid) → Decides (pointwise same_uid us vs) (us ≡ vs)
uid_lists_decide = pointwise_decides uids_decide

action_is : (a b : ActionConstraint) → same_action a b ≡ true → a ≡ b
action_is any_action any_action h = refl
action_is (action_equals u) (action_equals v) h = ap action_equals ((uids_decide u v).0 h)
action_is (action_within_any us) (action_within_any vs) h = ap action_within_any ((uid_lists_decide us vs).0 h)
action_is _ _ h = absurd (true≢false (sym h))

action_itself : (a : ActionConstraint) → same_action a a ≡ true
action_itself any_action = refl
action_itself (action_equals u) = (uids_decide u u).1 refl
action_itself (action_within_any us) = (uid_lists_decide us us).1 refl

pub actions_decide : (a b : ActionConstraint) → Decides (same_action a b) (a ≡ b)
actions_decide a b = (action_is a b, λ h. subst (λ (g : ActionConstraint). same_action a g ≡ true) h (action_itself a))

pub same_action_equiv : IsEquivalence same_action
same_action_equiv = decided same_action actions_decide

-- ---- bindings

abbrev pub same_bindings : Bindings → Bindings → Bool
same_bindings b c = option_eq same_uid b.principal c.principal && option_eq same_uid b.resource c.resource

entity_is : (x y : Option Uid) → option_eq same_uid x y ≡ true → x ≡ y
entity_is None None h = refl
entity_is None (Some v) h = absurd (true≢false (sym h))
entity_is (Some u) None h = absurd (true≢false (sym h))
entity_is (Some u) (Some v) h = ap Some ((uids_decide u v).0 h)

entity_itself : (x : Option Uid) → option_eq same_uid x x ≡ true
entity_itself None = refl
entity_itself (Some u) = (uids_decide u u).1 refl

bindings_are : (b c : Bindings) → same_bindings b c ≡ true → b ≡ c
bindings_are b c h =
    let principal : b.principal ≡ c.principal = entity_is _ _ (first_so _ _ h) in
    let resource : b.resource ≡ c.resource = entity_is _ _ (second_so _ _ h) in
    λ i. record { principal = principal i; resource = resource i }

pub bindings_decide : (b c : Bindings) → Decides (same_bindings b c) (b ≡ c)
bindings_decide b c = (
  bindings_are b c,
  λ e. subst (λ (d : Bindings). same_bindings b d ≡ true) e (and_from _ _ (entity_itself b.principal) (entity_itself b.resource)),
)

pub same_bindings_equiv : IsEquivalence same_bindings
same_bindings_equiv = decided same_bindings bindings_decide
