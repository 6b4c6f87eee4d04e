-- What is told of a part is told of the type; the fields of a record are those found.
use Rattle.std.proofs.Common.{rules, ◌≡◌, ap, sym, ◌∙◌}
use Rattle.cedar_typing.specs.Types.{Entities, Extensions, Records}
use Rattle.cedar_schema.specs.Types.{type_view, fields_of}
use Rattle.cedar_typechecker.specs.Types.{fields_view}
use Rattle.cedar_validator.proofs.Converted.{entity_view, extension_view, record_view, expr_record_view, name_told, told_by}
use Rattle.cedar_validator.proofs.conversion.+expr_type.Goals as goal

pub expr_type-returns-in_err-written_type-in-Entity : goal.expr_type-returns-in_err-written_type-in-Entity
expr_type-returns-in_err-written_type-in-Entity t c =
    let n = c.in-Entity.name in
    let e = c.in_err-written_type-in-Entity.field-0.0 in
    told_by (type_view c.args.schema_type.now) (Entities n) e (sym (ap type_view c.in-Entity.is ∙ entity_view n))
    (name_told n e c.in_err-written_type-in-Entity.ensures) c.from_residual.result c.from_residual.ensures

pub expr_type-returns-in_err-fields-in-Record : goal.expr_type-returns-in_err-fields-in-Record
expr_type-returns-in_err-fields-in-Record t c =
    let m = c.in-Record.attributes in
    let e = c.in_err-fields-in-Record.field-0.0 in
    let is : c.deref-in-Record.result.now ≡ m.value = search rules in
    told_by (type_view c.args.schema_type.now) (Records (fields_of c.deref-in-Record.result.now)) e
    (ap (λ x. Records (fields_of x)) is ∙ sym (ap type_view c.in-Record.is ∙ record_view m))
    c.in_err-fields-in-Record.ensures c.from_residual-in_err-fields-in-Record.result c.from_residual-in_err-fields-in-Record.ensures

pub expr_type-returns-in_err-written_name-in-Extension : goal.expr_type-returns-in_err-written_name-in-Extension
expr_type-returns-in_err-written_name-in-Extension t c =
    let n = c.in-Extension.name in
    let e = c.in_err-written_name-in-Extension.field-0.0 in
    told_by (type_view c.args.schema_type.now) (Extensions n c.in-Extension.is_ordered) e
    (sym (ap type_view c.in-Extension.is ∙ extension_view n c.in-Extension.is_ordered))
    (name_told n e c.in_err-written_name-in-Extension.ensures) c.from_residual-in_err-written_name-in-Extension.result
    c.from_residual-in_err-written_name-in-Extension.ensures

pub expr_type-returns-in_ok-new-in-Record : goal.expr_type-returns-in_ok-new-in-Record
expr_type-returns-in_ok-new-in-Record t c =
    let m = c.in-Record.attributes in
    let r = c.in_ok-new-in-Record.field-0 in
    let is : c.deref-in-Record.result.now ≡ m.value = search rules in
    expr_record_view r ∙ ap (λ v. Records (fields_view v.items)) c.in_ok-new-in-Record.ensures.ok ∙ ap Records c.in_ok-fields-in-Record.ensures
    ∙ ap (λ x. Records (fields_of x)) is ∙ sym (ap type_view c.in-Record.is ∙ record_view m)
