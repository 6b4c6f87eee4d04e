-- The members of a set are tested; no other value may stand there.
use Rattle.std.proofs.Common.{◌≡◌, Some, None, ap, sym, subst, refl, ◌∙◌, List}
use Rattle.std.specs.Option.{option_copied}
use Rattle.cedar_language.specs.Order.{all_of}
use Rattle.cedar_language.specs.Value.{Value, TypeError}
use Rattle.cedar_value_operators.specs.Operands.{IsOperand}
use Rattle.cedar_operators.specs.Hierarchy.{is_within_entity, within_of}
use Rattle.cedar_operators.proofs.ByHierarchy.{within_set, within_others}
use Rattle.cedar_operators.proofs.Passing.{fails_as}
use Rattle.cedar_operators.proofs.hierarchy.is_in_set.Goals as goal

pub returns-in-Some : goal.returns-in-Some
returns-in-Some c = λ n.
    let test = is_within_entity c.args.uid1.now.value (option_copied c.args.entity1) in
    let given = c.in-Some.ensures ∙ ap (λ (vs : List Value). Some (all_of vs)) (sym c.authoritative.ensures.members) in
    subst (λ o. IsOperand (λ b. b) o c.is_within_some.result) (sym (within_set test c.args.arg2.now (all_of c.authoritative.result.now) given)) c.is_within_some.ensures

pub returns-in_ok-not_in_hierarchy-in-None : goal.returns-in_ok-not_in_hierarchy-in-None
returns-in_ok-not_in_hierarchy-in-None c = λ n.
    let test = is_within_entity c.args.uid1.now.value (option_copied c.args.entity1) in
    fails_as (λ k. (within_of test c.args.arg2.now ≡ None) × (k ≡ TypeError)) c.in_ok-not_in_hierarchy-in-None.field-0 TypeError c.in_ok-not_in_hierarchy-in-None.ensures (within_others test c.args.arg2.now n c.in-None.ensures, refl)
