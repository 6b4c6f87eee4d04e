-- The slot was not met yet, so the rest of the list decides.
use Rattle.std.proofs.Common.{◌≡◌, drop}
use Rattle.std.specs.List.{list_any}
use Rattle.cedar_grammar.specs.Policy.{is_slot}
use Rattle.cedar_policies.specs.Slots.{slot_ids}
use Rattle.cedar_policies.proofs.held_slots.first_slot.Given as goal

abbrev pub invariant-loop-slot : goal.invariant-loop-slot
invariant-loop-slot l = list_any (is_slot l.id) (slot_ids (drop l.slot-index l.met)) ≡ list_any (is_slot l.id) (slot_ids l.met)
