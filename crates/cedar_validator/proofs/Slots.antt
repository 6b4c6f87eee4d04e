-- There are two slots.
use Rattle.std.proofs.Common.{◌≡◌, refl}
use Rattle.cedar_language.specs.Tree.{SlotId, PrincipalSlot, ResourceSlot}
use Rattle.cedar_validator.specs.Environments.{slots_view}
use Rattle.cedar_validator.specs.declared.environments.BoundTypes.{BoundTypes}

pub other_slot : (b : BoundTypes) (s : SlotId) → ¬ (s ≡ PrincipalSlot) → slots_view b s ≡ b.resource
other_slot b PrincipalSlot h = absurd (h refl)
other_slot b ResourceSlot h = refl
