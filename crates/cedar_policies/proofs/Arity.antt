-- The entities given are for exactly the slots of a policy where none is lacking and none is too many.
use Rattle.std.proofs.Common.{◌≡◌, refl, sym, ◌∙◌, Bool, true, false, ◌&&◌, List, ◌++◌, Option, Some, None}
use Rattle.std.specs.Prelude.{filter, not, is_some, Result, Ok, Err, OnOk, IfErr}
use Rattle.std.specs.List.{list_any}
use Rattle.cedar_language.specs.Uid.{Uid}
use Rattle.cedar_language.specs.Tree.{SlotId, PrincipalSlot, ResourceSlot}
use Rattle.cedar_grammar.specs.Policy.{Policy, holds_slot, where_held}
use Rattle.cedar_grammar.specs.Bindings.{Bindings, binding_of, same_flag, binds_exactly}
use Rattle.cedar_grammar.specs.Syntax.{is_slot}
use Rattle.cedar_policy_parts.specs.Bindings.{bound_slots}
use Rattle.cedar_policies.specs.Linking.{lacking, extra, IsArityRefusal, are_none, ChecksArity}
use Rattle.cedar_policies.specs.declared.errors.LinkingError.{LinkingError}
use Rattle.cedar_policies.specs.declared.errors.LinkingError.TheVariants.{ArityError, NoSuchTemplate, PolicyIdConflict, Memory}

-- what is held of the principal's slot and of the resource's
abbrev listed : Bool → Bool → List SlotId
listed h k = where_held h PrincipalSlot ++ where_held k ResourceSlot

-- whether none of these slots lacks an entity, and no other slot has one
abbrev fits : Bindings → List SlotId → Bool
fits b ss = are_none (filter (λ s. not (is_some (binding_of b s))) ss) (filter (λ s. not (list_any (is_slot s) ss)) (bound_slots b))

abbrev exactly : Bindings → List SlotId → Bool
exactly b ss = same_flag (is_some b.principal) (list_any (is_slot PrincipalSlot) ss) && same_flag (is_some b.resource) (list_any (is_slot ResourceSlot) ss)

abbrev of : Option Uid → Option Uid → Bindings
of p r = record { principal = p; resource = r }

agrees : (p r : Option Uid) (h k : Bool) → fits (of p r) (listed h k) ≡ exactly (of p r) (listed h k)
agrees None None true true = refl
agrees None None true false = refl
agrees None None false true = refl
agrees None None false false = refl
agrees None (Some r) true true = refl
agrees None (Some r) true false = refl
agrees None (Some r) false true = refl
agrees None (Some r) false false = refl
agrees (Some p) None true true = refl
agrees (Some p) None true false = refl
agrees (Some p) None false true = refl
agrees (Some p) None false false = refl
agrees (Some p) (Some r) true true = refl
agrees (Some p) (Some r) true false = refl
agrees (Some p) (Some r) false true = refl
agrees (Some p) (Some r) false false = refl

fitting : (b : Bindings) (p : Policy) → are_none (lacking b p) (extra b p) ≡ binds_exactly b p
fitting b p = agrees b.principal b.resource (holds_slot p PrincipalSlot) (holds_slot p ResourceSlot)

same_answer : (b : Bindings) (p : Policy) (xs ys : List SlotId) → xs ≡ lacking b p → ys ≡ extra b p → binds_exactly b p ≡ are_none xs ys
same_answer b p xs ys e f = sym (fitting b p) ∙ (λ i. are_none (sym e i) (sym f i))

pub checked_fits : {A : Type 0} (b : Bindings) (p : Policy) (xs ys : List SlotId) → xs ≡ lacking b p → ys ≡ extra b p → (r : Result A LinkingError) → ChecksArity xs ys r → OnOk r (binds_exactly b p ≡ true)
checked_fits b p xs ys e f (Ok a) h = same_answer b p xs ys e f ∙ h
checked_fits b p xs ys e f (Err x) h = tt

pub checked_refusal : {A : Type 0} (b : Bindings) (p : Policy) (xs ys : List SlotId) → xs ≡ lacking b p → ys ≡ extra b p → (r : Result A LinkingError) → ChecksArity xs ys r → IfErr r (IsArityRefusal b p)
checked_refusal b p xs ys e f (Ok a) h = tt
checked_refusal b p xs ys e f (Err (ArityError us ms)) h = (same_answer b p xs ys e f ∙ h.0, h.1 ∙ e, h.2 ∙ f)
checked_refusal b p xs ys e f (Err (NoSuchTemplate id)) h = absurd h
checked_refusal b p xs ys e f (Err (PolicyIdConflict id)) h = absurd h
checked_refusal b p xs ys e f (Err (Memory m)) h = tt
