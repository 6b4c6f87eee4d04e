-- Slots, and how they are written.
use Rattle.std.specs.Prelude.{◌≡◌, refl, codes}
use Rattle.cedar_language.specs.Uid.{Text}
use Rattle.cedar_language.specs.Tree.{SlotId, PrincipalSlot, ResourceSlot}
use Rattle.cedar_literals.specs.declared.slots.ValidSlotId.{ValidSlotId}
use Rattle.cedar_literals.specs.declared.slots.ValidSlotId.TheVariants.{Principal, Resource}

abbrev pub slot_of : ValidSlotId → SlotId
slot_of Principal = PrincipalSlot
slot_of Resource = ResourceSlot

abbrev pub valid_slot : SlotId → ValidSlotId
valid_slot PrincipalSlot = Principal
valid_slot ResourceSlot = Resource

pub valid_slot_of : (s : ValidSlotId) → valid_slot (slot_of s) ≡ s
valid_slot_of Principal = refl
valid_slot_of Resource = refl

abbrev pub slot_text : SlotId → Text
slot_text PrincipalSlot = codes "?principal"
slot_text ResourceSlot = codes "?resource"
