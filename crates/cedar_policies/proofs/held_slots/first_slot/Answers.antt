-- The first that is this slot is found, and where none is, the list lacks it.
use Rattle.std.proofs.Common.{◌≡◌, ◌∙◌, ◌+◌, [], ◌∷◌, drop, sym, ap, arith}
use Rattle.std.proofs.lemmas.Grind.{common_steps}
use Rattle.std.proofs.lemmas.List.{at_drop_more}
use Rattle.std.specs.List.{list_any}
use Rattle.cedar_grammar.specs.Policy.{is_slot}
use Rattle.cedar_literals.specs.declared.slots.Slot.{Slot}
use Rattle.cedar_policies.specs.Slots.{slot_ids}
use Rattle.cedar_policies.proofs.Holding.{met_nowhere, met_here}
use Rattle.cedar_policies.proofs.held_slots.first_slot.Goals as goal

pub returns-then-is_same : goal.returns-then-is_same
returns-then-is_same c =
    let s = c.args.id in
    let met = c.args.met.now in
    let i = c.loop-slot.slot-index in
    let next : list_any (is_slot s) (slot_ids (drop i met)) ≡ list_any (is_slot s) (c.slot-item.result.id ∷ slot_ids (drop (i + 1) met)) =
    at_drop_more (λ ss. list_any (is_slot s) (slot_ids ss)) met i c.slot-item.result c.loop-slot-test.true
    ∙ ap (λ (x : Slot). list_any (is_slot s) (x.id ∷ slot_ids (drop (i + 1) met))) (sym c.slot-item.is) in
    ap (λ x. x ∷ []) c.in_ok-clone.ensures.cases.0
    ∙ met_here s (slot_ids met) c.slot-item.result.id _ (sym c.is_same.ensures ∙ c.if-is_same.true) (sym next ∙ c.loop-slot.invariant)

pub returns : goal.returns
returns c =
    let none : drop c.loop-slot.slot-index c.args.met.now ≡ [] = grind (arith, common_steps) in
    met_nowhere c.args.id (slot_ids c.args.met.now) (sym (ap (λ ss. list_any (is_slot c.args.id) (slot_ids ss)) none) ∙ c.loop-slot.invariant)
