-- One row more stands behind the others.
use Rattle.std.proofs.Common.{◌≡◌, ◌<◌, ◌≤◌, length, get_or, arith, subst}
use Rattle.std.specs.Prelude.{map}
use Rattle.std.proofs.lemmas.List.{take_all}
use Rattle.cedar_schema_resolution.specs.Declarations.{type_view}
use Rattle.cedar_schema_resolution.specs.Mentions.{AreMentioned}
use Rattle.cedar_schema_resolution.proofs.Mentioning.{one_row}
use Rattle.cedar_schema_resolution.proofs.numbers.CommonNumbers.mentioned.Goals as goal

pub loop-common-preserved : goal.loop-common-preserved
loop-common-preserved c =
    let low : c.loop-common.common-index < length c.args.types.now = omega arith in
    let here : c.common-item.result ≡ get_or c.args.types.now c.loop-common.common-index c.common-item.result = cc in
    record {
      rows = one_row c.args.self.now c.args.types.now c.loop-common.common-index c.common-item.result c.loop-common.all.items c.push.new.self.items
          c.in_ok-mentioned_by.field-0
          low here c.loop-common.invariant.rows c.in_ok-mentioned_by.ensures c.in_ok-push.ensures.items;
    }

pub returns : goal.returns
returns c =
    let past : length c.args.types.now ≤ c.loop-common.common-index = omega arith in
    subst (λ ts. AreMentioned c.args.self.now (map type_view ts) c.loop-common.all.items) (take_all c.loop-common.common-index c.args.types.now past)
    c.loop-common.invariant.rows
