-- Lists of fields of two lengths have nothing in common; sets have what their elements have.
use Rattle.std.proofs.Common.{◌≡◌, ◌∙◌, sym, ap, rules, Some}
use Rattle.cedar_typing.specs.Types.{Sets, lub as least}
use Rattle.cedar_typechecker.specs.Types.{type_view, element_in}
use Rattle.cedar_typechecker.specs.declared.types.ExprType.{ExprType}
use Rattle.cedar_typechecker.proofs.Above.{lub_set, unequal, set_view}
use Rattle.cedar_typechecker.proofs.+lub.Goals as goal

pub lub::lub_fields-returns-then-fields-others : goal.lub::lub_fields-returns-then-fields-others
lub::lub_fields-returns-then-fields-others t c = unequal c.args.fields.now c.args.others.now c.if-fields-others.true

pub types::ExprType::lub-returns-in_ok-new-in-Some-2 : goal.types::ExprType::lub-returns-in_ok-new-in-Some-2
types::ExprType::lub-returns-in_ok-new-in-Some-2 t c =
    let e : element_in (type_view c.args.other.now) ≡ Some (type_view c.in-Some-as_element.other.now.value) = search rules in
    let l : Some (type_view c.in-Some-2.least) ≡ least (type_view c.in-Set.element.value) (type_view c.in-Some-as_element.other.now.value) = search rules in
    ap Some (set_view c.in_ok-new-in-Some-2.field-0 ∙ ap (λ (v : ExprType). Sets (type_view v)) c.in_ok-new-in-Some-2.ensures.ok)
    ∙ lub_set (type_view c.in-Set.element.value) (type_view c.args.other.now) (type_view c.in-Some-as_element.other.now.value) (type_view c.in-Some-2.least) e l
    ∙ ap (λ x. least x (type_view c.args.other.now)) (sym (ap (λ (v : ExprType). type_view v) c.in-Set.is ∙ set_view c.in-Set.element))
