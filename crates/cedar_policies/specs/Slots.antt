-- The slots of a template. (Cedar language reference, "Policy templates".)
use Rattle.std.specs.Prelude.{◌≡◌, Bool, List, map, Option, option_map}
use Rattle.std.specs.List.{list_any}
use Rattle.std.specs.Option.{option_to_list}
use Rattle.cedar_language.specs.Tree.{SlotId, Tree}
use Rattle.cedar_grammar.specs.Policy.{body_slots, is_slot, where_held}
use Rattle.cedar_literals.specs.declared.slots.Slot.{Slot}

abbrev pub slot_ids : List Slot → List SlotId
slot_ids ss = map (λ s. s.id) ss

-- the slot is found where it is held, and none where it isn't
abbrev pub FindsSlot : Bool → SlotId → Option Slot → Type 0
FindsSlot held s found = option_to_list (option_map (λ slot. slot.id) found) ≡ where_held held s

-- the slots of clauses that hold these are the same, whatever their order and however often each stands
abbrev pub AreSlotsOf : Option Tree → List Slot → Type 0
AreSlotsOf body met = (s : SlotId) → list_any (is_slot s) (slot_ids met) ≡ list_any (is_slot s) (body_slots body)
