-- The slot was not met yet, so the rest of the list decides.
use Rattle.std.proofs.Common.{◌≡◌, drop}
use Rattle.std.specs.List.{list_any}
use Rattle.cedar_grammar.specs.Syntax.{is_slot}
use Rattle.cedar_policies.specs.Slots.{slot_ids}
use Rattle.cedar_policies.proofs.linking.is_listed.Given as goal

abbrev pub invariant-loop-listed : goal.invariant-loop-listed
invariant-loop-listed l = list_any (is_slot l.slot) (slot_ids l.slots) ≡ list_any (is_slot l.slot) (slot_ids (drop l.listed-index l.slots))
