use Rattle.std.proofs.Common.{◌∙◌, sym, ap, map, Some, Vec, Global}
use Rattle.std.proofs.lemmas.List.{length-map}
use Rattle.cedar_typing.specs.Types.{Records}
use Rattle.cedar_typing.specs.Containers.{record_by}
use Rattle.cedar_typing.specs.Results.{plainly}
use Rattle.cedar_schema.specs.Types.{listed}
use Rattle.cedar_typechecker.specs.Types.{type_view, fields_view}
use Rattle.cedar_typechecker.specs.declared.types.Field.{Field}
use Rattle.cedar_typechecker.proofs.Above.{record_view}
use Rattle.cedar_typechecker.proofs.Recorded.{written_fields}
use Rattle.cedar_typechecker.proofs.records.record_type.Goals as goal

pub returns : goal.returns
returns c =
    ap record_by
    (written_fields c.args.entries.now.entries (map type_view c.args.types.items) c.in_ok-fields.ensures.rise (length-map c.args.types.items type_view ∙ c.requires)
    ∙ ap (λ fs. Some (listed fs)) (sym c.in_ok-fields.ensures.fields))
    ∙ ap (λ (v : Vec Field Global). plainly (Records (fields_view v.items))) (sym c.in_ok-new.ensures.ok)
    ∙ ap plainly (sym (record_view c.in_ok-new.field-0))
