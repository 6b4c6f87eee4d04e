-- The entity held has the ancestors that the facts reach.
use Rattle.std.proofs.Common.{◌≡◌, ap, sym, ◌∙◌, rules}
use Rattle.cedar_language.specs.Tree.{Boolean}
use Rattle.cedar_language.specs.Value.{Plain, Gives, Fails}
use Rattle.cedar_language.specs.Operators.{truth}
use Rattle.cedar_value_operators.specs.Operands.{at_operand}
use Rattle.cedar_operators.proofs.ByHierarchy.{in_held, in_others}
use Rattle.cedar_operators.proofs.Passing.{passed}
use Rattle.cedar_operators.proofs.hierarchy.is_in.Goals as goal

pub returns : goal.returns
returns c = λ facts f.
    let made : c.from.result ≡ Plain (Boolean c.in_ok-is_within.is_within) = search rules in
    in_held c.args.entities.now facts f c.args.arg1.now c.args.arg2.now c.in_ok-uid1.uid1.now.value c.in_ok-entity1.entity1 c.in_ok-uid1.ensures (c.in_ok-entity1.ensures facts f)
    ∙ ap (at_operand truth) c.in_ok-is_within.ensures ∙ ap Gives (sym made)

pub returns-in_err-uid1 : goal.returns-in_err-uid1
returns-in_err-uid1 c = λ facts f.
    passed (λ v. _) c.in_err-uid1.field-0.0 c.from_residual.result (λ k h. in_others facts c.args.arg1.now c.args.arg2.now h.0 ∙ ap Fails (sym h.1)) c.from_residual.ensures c.in_err-uid1.ensures

pub returns-in_err-entity1 : goal.returns-in_err-entity1
returns-in_err-entity1 c = λ facts f.
    passed (λ v. _) c.in_err-entity1.field-0.0 c.from_residual-in_err-entity1.result (λ k h. absurd h) c.from_residual-in_err-entity1.ensures (c.in_err-entity1.ensures facts f)

pub returns-in_err-is_within : goal.returns-in_err-is_within
returns-in_err-is_within c = λ facts f.
    passed (λ v. _) c.in_err-is_within.field-0.0 c.from_residual-in_err-is_within.result (λ k h.
    in_held c.args.entities.now facts f c.args.arg1.now c.args.arg2.now c.in_ok-uid1.uid1.now.value c.in_ok-entity1.entity1 c.in_ok-uid1.ensures (c.in_ok-entity1.ensures facts f)
    ∙ ap (at_operand truth) h.0 ∙ ap Fails (sym h.1)) c.from_residual-in_err-is_within.ensures c.in_err-is_within.ensures
