-- Which slots a policy holds, and which a template lists.
use Rattle.std.proofs.Common.{◌≡◌, Bool, true, false, ◌||◌, List, [], ◌∷◌, refl, sym, ap, ◌∙◌, true≢false}
use Rattle.std.specs.List.{list_any}
use Rattle.cedar_language.specs.Tree.{SlotId, PrincipalSlot, ResourceSlot}
use Rattle.cedar_grammar.specs.Policy.{Policy, scope_slots, is_slot, where_held, slots}
use Rattle.cedar_grammar.proofs.HeldSlots.{principal_free, resource_free}
use Rattle.cedar_policies.specs.Templates.{syntax_of, listed_slots}
use Rattle.cedar_policies.specs.declared.templates.Template.{Template}

-- ---- a slot among others

slot_is : (s x : SlotId) → is_slot s x ≡ true → x ≡ s
slot_is PrincipalSlot PrincipalSlot h = refl
slot_is PrincipalSlot ResourceSlot h = absurd (true≢false (sym h))
slot_is ResourceSlot PrincipalSlot h = absurd (true≢false (sym h))
slot_is ResourceSlot ResourceSlot h = refl

module _ (s : SlotId) (all : List SlotId) where
  -- none of them was this one
  pub met_nowhere : list_any (is_slot s) [] ≡ list_any (is_slot s) all → [] ≡ where_held (list_any (is_slot s) all) s
  met_nowhere e = ap (λ b. where_held b s) e

  -- the next one is
  pub met_here : (x : SlotId) (left : List SlotId) → is_slot s x ≡ true → list_any (is_slot s) (x ∷ left) ≡ list_any (is_slot s) all
      → x ∷ [] ≡ where_held (list_any (is_slot s) all) s
  met_here x left h e = ap (λ y. y ∷ []) (slot_is s x h) ∙ ap (λ b. where_held b s) (sym (ap (λ b. b || list_any (is_slot s) left) h) ∙ e)

-- ---- policies and templates without slots

-- a policy without slots has none in its scope
pub scope_is_bare : (p : Policy) → slots p ≡ [] → scope_slots p ≡ []
scope_is_bare p none = rw (principal_free p none, resource_free p none) refl

-- a template that lists none has none in its scope
pub unlisted_is_bare : (t : Template) → listed_slots t ≡ [] → scope_slots (syntax_of t) ≡ []
unlisted_is_bare t none = by t.unlisted refl
  where
    by : (b : Bool) → t.unlisted ≡ b → scope_slots (syntax_of t) ≡ []
    by true e = t.bare_scope e
    by false e = scope_is_bare (syntax_of t) (rw e at none)
