-- A walk meets the slots that the tree holds (HeldSlots of the shapes).
use Rattle.std.proofs.Common.{◌∙◌, ap, sym}
use Rattle.std.proofs.lemmas.Result.{IfOk-weaker}
use Rattle.std.specs.List.{list_any}
use Rattle.std.specs.Option.{option_map, option_copied}
use Rattle.cedar_grammar.specs.Policy.{is_slot, body_slots}
use Rattle.cedar_shapes.proofs.HeldSlots.{slots_met}
use Rattle.cedar_trees.specs.Bare.{bare}
use Rattle.cedar_policies.proofs.held_slots.clause_slots.Goals as goal

pub returns-in-Some : goal.returns-in-Some
returns-in-Some c =
    IfOk-weaker c.expr_slots.result _ _
    (λ met e s. ap (list_any (is_slot s)) e ∙ slots_met (is_slot s) (bare c.in-Some.expr.now)
    ∙ sym (ap (λ o. list_any (is_slot s) (body_slots (option_map bare (option_copied o)))) c.in-Some.is))
    c.expr_slots.ensures
