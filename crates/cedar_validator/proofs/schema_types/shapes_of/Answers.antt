-- What is put at the keys passed is what is found at them; what is told of one is told of the schema.
use Rattle.std.proofs.Common.{◌≡◌, ◌∙◌, ◌++◌, ◌≤◌, [], ◌∷◌, cond, ap, sym, map, take, length, None, Some, arith}
use Rattle.std.specs.List.{list_any}
use Rattle.std.specs.Map.Iter.{deref}
use Rattle.std.proofs.lemmas.List.{take_all}
use Rattle.cedar_language.specs.Uid.{Name, Uid}
use Rattle.cedar_language.specs.Order.{same_name, name_cmp}
use Rattle.cedar_names.specs.Laws.{same_name_equiv, name_cmp_ties}
use Rattle.cedar_typing.proofs.Sameness.{name_is}
use Rattle.cedar_schema_resolution.specs.Shapes.{shape_view}
use Rattle.cedar_validator_schema.specs.Views.{shape_in}
use Rattle.cedar_validator.specs.SchemaTypes.{shape_at, TellsNamed}
use Rattle.cedar_validator.proofs.Filled.{so_far, put_next, skip_next, all_put, next_key}
use Rattle.cedar_validator.proofs.Told.{handed, told_shape}
use Rattle.cedar_validator.proofs.schema_types.shapes_of.Goals as goal
use Rattle.cedar_validator.proofs.schema_types.shapes_of.Goals.{in-Some+in_ok-put_shape, in_default}

pub returns-in_err-put_shape-clause-err : goal.returns-in_err-put_shape-clause-err
returns-in_err-put_shape-clause-err c =
    let v = c.args.schema.now in
    let e = c.in_err-put_shape.field-0.0 in
    handed _ (TellsNamed v) c.from_residual-in_err-put_shape.result e c.from_residual-in_err-put_shape.ensures
    (told_shape v c.name-item.result.now (shape_view c.in-Some.shape.now) e (sym (c.in-Some.ensures (λ n. None))) c.in_err-put_shape.ensures.err)

pub loop-name-preserved : goal.loop-name-preserved
loop-name-preserved c =
    let v = c.args.schema.now in
    let k = c.name-item.result.now in
    let items = c.deref-name-items.result.now in
    let ks = map deref (take c.loop-name.name-index items) in
    let more = next_key deref items c.loop-name.name-index c.name-item.result c.loop-name-test.true c.name-item.is in
    let old = shape_at c.loop-name.shapes in
    elim c.match-entity_type.branch [
      | in-Some+in_ok-put_shape w ↦ λ q.
          let x = shape_view w.in-Some.shape.now in
          let put = λ (p : Name). w.in_ok-put_shape.ensures.ok p ∙ ap (λ b. cond b (Some x) (old p)) (sym (name_cmp_ties k p)) in
          ap (λ m. shape_at m q) w.shapes-is
          ∙ put_next same_name name_is same_name_equiv.symm (shape_in v) ks k x old (shape_at w.put_shape.new.shapes) (sym (w.in-Some.ensures (λ n. None))) put c.loop-name.invariant q
          ∙ ap (λ l. so_far same_name (shape_in v) l q) (sym more)
      | in_default w ↦ λ q.
          ap (λ m. shape_at m q) w.shapes-is
          ∙ skip_next same_name name_is same_name_equiv.symm (shape_in v) ks k old (sym (w.in_default.ensures (λ n. None))) c.loop-name.invariant q
          ∙ ap (λ l. so_far same_name (shape_in v) l q) (sym more)
    ]

pub returns-clause-ok : goal.returns-clause-ok
returns-clause-ok c =
    let v = c.args.schema.now in
    let items = c.deref-name-items.result.now in
    let over : length items ≤ c.loop-name.name-index = omega arith in
    let done : take c.loop-name.name-index items ≡ items = take_all c.loop-name.name-index items over in
    let was = λ (q : Name). c.loop-name.invariant q ∙ ap (λ l. so_far same_name (shape_in v) (map deref l) q) done in
    let all = λ (q : Name). ap (λ l. list_any (same_name q) (map deref l)) c.deref-name-items.ensures.value ∙ c.in_ok-names.ensures (λ n. None) q in
    all_put same_name name_is same_name_equiv.symm (shape_in v) (map deref items) (shape_at c.loop-name.shapes) all was
