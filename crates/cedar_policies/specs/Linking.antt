-- Why a template isn't linked. (Cedar language reference, "Policy templates".)
use Rattle.std.specs.Prelude.{◌≡◌, ⊤, Bool, true, false, ◌&&◌, ◌==◌, not, List, length, filter, is_some, Result, Ok, Err}
use Rattle.cedar_language.specs.Tree.{SlotId}
use Rattle.cedar_grammar.specs.Policy.{Policy, slots}
use Rattle.cedar_grammar.specs.Bindings.{Bindings, binding_of, binds_exactly}
use Rattle.cedar_grammar.specs.Syntax.{has_slot}
use Rattle.cedar_policy_parts.specs.Bindings.{bound_slots}
use Rattle.cedar_policies.specs.declared.errors.LinkingError.{LinkingError}
use Rattle.cedar_policies.specs.declared.errors.LinkingError.TheVariants.{ArityError, NoSuchTemplate, PolicyIdConflict, Memory}

-- the slots of a policy that lack an entity
abbrev pub lacking : Bindings → Policy → List SlotId
lacking b p = filter (λ s. not (is_some (binding_of b s))) (slots p)

-- the slots that are bound, and that a policy doesn't have
abbrev pub extra : Bindings → Policy → List SlotId
extra b p = filter (λ s. not (has_slot p s)) (bound_slots b)

-- the slots given aren't exactly the template's: these lack an entity, and those are too many; or there is no memory
abbrev pub IsArityRefusal : Bindings → Policy → LinkingError → Type 0
IsArityRefusal b p (ArityError lack more) = (binds_exactly b p ≡ false) × (lack.items ≡ lacking b p) × (more.items ≡ extra b p)
IsArityRefusal b p (NoSuchTemplate id) = ⊥
IsArityRefusal b p (PolicyIdConflict id) = ⊥
IsArityRefusal b p (Memory e) = ⊤

-- no slot lacks an entity, and none is too many
abbrev pub are_none : List SlotId → List SlotId → Bool
are_none lack more = (length lack == 0) && (length more == 0)

-- refused with these slots, where there are any
abbrev pub ChecksArity : {A : Type 0} → List SlotId → List SlotId → Result A LinkingError → Type 0
ChecksArity lack more (Ok a) = are_none lack more ≡ true
ChecksArity lack more (Err (ArityError xs ys)) = (are_none lack more ≡ false) × (xs.items ≡ lack) × (ys.items ≡ more)
ChecksArity lack more (Err (NoSuchTemplate id)) = ⊥
ChecksArity lack more (Err (PolicyIdConflict id)) = ⊥
ChecksArity lack more (Err (Memory e)) = ⊥

-- the same is told
abbrev pub TellsSame : LinkingError → LinkingError → Type 0
TellsSame (ArityError lack more) (ArityError xs ys) = (xs.items ≡ lack.items) × (ys.items ≡ more.items)
TellsSame (NoSuchTemplate id) (NoSuchTemplate other) = other ≡ id
TellsSame (PolicyIdConflict id) (PolicyIdConflict other) = other ≡ id
TellsSame (Memory e) (Memory f) = ⊤
TellsSame e f = ⊥
