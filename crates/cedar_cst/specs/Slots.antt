-- The slots of a scope, and how slots are written.
use Rattle.std.specs.Prelude.{Option, Some, None}
use Rattle.cedar_language.specs.Tree as tree
use Rattle.cedar_grammar.specs.Loose.{Slot, principal_slot, resource_slot}

-- the slot that may stand for a variable
abbrev pub own_slot : tree.Variable → Option Slot
own_slot tree.Principal = Some principal_slot
own_slot tree.Action = None
own_slot tree.Resource = Some resource_slot
own_slot tree.Context = None

-- how a template's slot is written
abbrev pub written_slot : tree.SlotId → Slot
written_slot tree.PrincipalSlot = principal_slot
written_slot tree.ResourceSlot = resource_slot
