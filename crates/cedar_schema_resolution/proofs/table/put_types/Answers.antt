-- One more is put.
use Rattle.std.proofs.Common.{◌≡◌, ◌<◌, ◌≤◌, length, get_or, None, arith, subst, ◌∙◌}
use Rattle.std.specs.Prelude.{map}
use Rattle.std.proofs.lemmas.List.{take_all}
use Rattle.cedar_schema_grammar.specs.Declared.{type_name}
use Rattle.cedar_schema_resolution.specs.Declarations.{type_view}
use Rattle.cedar_schema_resolution.specs.Puts.{ArePut}
use Rattle.cedar_schema_resolution.proofs.Putting.{put_more}
use Rattle.cedar_schema_resolution.proofs.table.put_types.Goals as goal

pub loop-common-preserved : goal.loop-common-preserved
loop-common-preserved c =
    let low : c.loop-common.common-index < length c.args.types.now = omega arith in
    let here : c.common-item.result ≡ get_or c.args.types.now c.loop-common.common-index c.common-item.result = cc in
    record {
      put = put_more (λ x. type_name (type_view x)) (λ n. None) c.args.types.now c.loop-common.common-index c.common-item.result c.args.table.now
          c.loop-common.table c.put_type.new.table
          low here c.loop-common.invariant.put c.in_ok-put_type.ensures.put;
      built_in = λ n. c.in_ok-put_type.ensures.built_in n ∙ c.loop-common.invariant.built_in n;
    }

pub returns-clause-put : goal.returns-clause-put
returns-clause-put c =
    let past : length c.args.types.now ≤ c.loop-common.common-index = omega arith in
    subst (λ xs. ArePut (map (λ x. type_name (type_view x)) xs) (λ n. None) c.args.table.now c.loop-common.table)
    (take_all c.loop-common.common-index c.args.types.now past) c.loop-common.invariant.put
