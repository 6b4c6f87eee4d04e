-- It stands at both names.
use Rattle.std.proofs.Common.{Some, cond, ap, ◌∙◌}
use Rattle.std.specs.BTreeMap.{is_at}
use Rattle.cedar_language.specs.Order.{name_cmp}
use Rattle.cedar_schema.specs.Types.{type_view}
use Rattle.cedar_schema.specs.Tables.{built_in_at}
use Rattle.cedar_schema_resolution.proofs.BuildingIn.{put_twice}
use Rattle.cedar_schema_resolution.proofs.built_in.put.Goals as goal

pub returns-clause-built_in : goal.returns-clause-built_in
returns-clause-built_in c =
    put_twice c.args.own.now (type_view c.args.schema_type) c.in_ok-alone.alone c.in_ok-in_cedar.in_cedar c.args.table.now c.add_built_in.new.self
    c.add_built_in-2.new.self
    c.in_ok-alone.ensures c.in_ok-in_cedar.ensures
    (λ n. c.in_ok-add_built_in.ensures.built_in n
    ∙ ap (λ t. cond (is_at (name_cmp c.in_ok-alone.alone) n) (Some t) (built_in_at c.args.table.now n)) c.in_ok-copy.ensures)
    c.in_ok-add_built_in-2.ensures.built_in
