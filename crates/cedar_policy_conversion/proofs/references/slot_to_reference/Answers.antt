-- A slot matches the variable exactly where it is that variable's own, and any other is no target.
use Rattle.std.proofs.Common.{◌≡◌, true, Some, None, sym, ap, ◌∙◌}
use Rattle.std.specs.Prelude.{cond}
use Rattle.cedar_grammar.specs.Policy.{the_slot}
use Rattle.cedar_grammar.specs.Loose as loose
use Rattle.cedar_grammar.specs.Converting.{is_own}
use Rattle.cedar_cst.specs.Slots.{own_slot}
use Rattle.cedar_cst.specs.LeafView.{view_slot}
use Rattle.cedar_cst.proofs.Views.{seen}
use Rattle.cedar_policy_parts.specs.Asked.{variable_asked}
use Rattle.cedar_policy_conversion.specs.Own.{own_word}
use Rattle.cedar_policy_conversion.proofs.Finding.{nothing}
use Rattle.cedar_policy_conversion.proofs.Owning.{own_slot_is, own_slot_not}
use Rattle.cedar_policy_conversion.proofs.references.slot_to_reference.Goals as goal

pub returns-in_ok-cloned-clause-target : goal.returns-in_ok-cloned-clause-target
returns-in_ok-cloned-clause-target g c =
    let v = c.args.v in
    let s = c.in-Some.slot in
    let own : own_slot (variable_asked v) ≡ Some (view_slot s) = ap own_slot (sym c.from.ensures) ∙ c.matches.ensures.0 c.if-matches.true in
    ap (λ x. cond (is_own (own_word v) x) (Some the_slot) None) (seen loose.missing_slot view_slot c.args.node.now s c.in-Some.is)
    ∙ ap (λ b. cond b (Some the_slot) None) (own_slot_is v (view_slot s) own)

pub returns-else-matches-clause-target : goal.returns-else-matches-clause-target
returns-else-matches-clause-target g c =
    let v = c.args.v in
    let s = c.in-Some.slot in
    let other : own_slot (variable_asked v) ≡ Some (view_slot s) → ⊥ = λ h. (let is : c.matches.result ≡ true = c.matches.ensures.1 (ap own_slot c.from.ensures ∙ h) in absurd (cc (is, c.if-matches.false))) in
    nothing c.other_slot.result _ c.other_slot.ensures.fault
    (ap (λ x. cond (is_own (own_word v) x) (Some the_slot) None) (seen loose.missing_slot view_slot c.args.node.now s c.in-Some.is)
    ∙ ap (λ b. cond b (Some the_slot) None) (own_slot_not v (view_slot s) other))
