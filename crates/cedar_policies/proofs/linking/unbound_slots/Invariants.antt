-- What was gathered is what the slots so far lack.
use Rattle.std.proofs.Common.{◌≡◌, take}
use Rattle.std.specs.Prelude.{filter, is_some, not}
use Rattle.cedar_grammar.specs.Bindings.{binding_of}
use Rattle.cedar_policies.specs.Slots.{slot_ids}
use Rattle.cedar_policies.proofs.linking.unbound_slots.Given as goal

abbrev pub invariant-loop-slot : goal.invariant-loop-slot
invariant-loop-slot l = l.unbound.items ≡ filter (λ s. not (is_some (binding_of l.values s))) (slot_ids (take l.slot-index l.slots))
