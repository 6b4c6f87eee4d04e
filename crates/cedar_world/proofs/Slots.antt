-- A link leaves no slot.
use Rattle.std.proofs.Common.{◌≡◌, Bool, true, false, ◌&&◌, not, Option, Some, None, is_some, ◌++◌, sym, ◌∙◌, ap, refl, true≢false}
use Rattle.std.proofs.lemmas.Bool.{and_parts}
use Rattle.cedar_language.specs.Uid.{Uid}
use Rattle.cedar_language.specs.Tree.{SlotId, PrincipalSlot, ResourceSlot}
use Rattle.cedar_grammar.specs.Policy.{holds_slot, where_held}
use Rattle.cedar_grammar.specs.Syntax.{has_slot, are_some}
use Rattle.cedar_grammar.specs.Bindings.{binding_of, linked, same_flag}
use Rattle.cedar_grammar.proofs.HeldSlots.{held_left, has_held}
use Rattle.cedar_world.specs.LinkLaws.{LinksAreStatic}

none_still : (o : Option Uid) (h : Bool) → same_flag (is_some o) h ≡ true → (h && not (is_some o)) ≡ false
none_still None true e = absurd (true≢false (sym e))
none_still (Some u) true e = refl
none_still _ _ e = refl

pub static : LinksAreStatic
static b s h =
    let left : (x : SlotId) → same_flag (is_some (binding_of b x)) (has_slot s x) ≡ true → holds_slot (linked b s) x ≡ false =
    λ x fits. held_left (binding_of b) x s ∙ none_still (binding_of b x) (holds_slot s x) (ap (same_flag (is_some (binding_of b x))) (sym (has_held s x)) ∙ fits) in
    let p = left PrincipalSlot (and_parts (same_flag (is_some b.principal) (has_slot s PrincipalSlot)) (same_flag (is_some b.resource) (has_slot s ResourceSlot)) h).0 in
    let r = left ResourceSlot (and_parts (same_flag (is_some b.principal) (has_slot s PrincipalSlot)) (same_flag (is_some b.resource) (has_slot s ResourceSlot)) h).1 in
    λ i. are_some (where_held (p i) PrincipalSlot ++ where_held (r i) ResourceSlot)
