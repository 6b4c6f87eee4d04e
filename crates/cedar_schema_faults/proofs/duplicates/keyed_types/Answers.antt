-- One more has its key.
use Rattle.std.proofs.Common.{◌≡◌, ◌<◌, ◌≤◌, length, get_or, arith, sym, ap, subst}
use Rattle.std.specs.Prelude.{map}
use Rattle.std.proofs.lemmas.List.{take_all}
use Rattle.cedar_schema_grammar.specs.Faults as grammar
use Rattle.cedar_schema_grammar.specs.Declared.{type_name}
use Rattle.cedar_schema_resolution.specs.Declarations.{type_view}
use Rattle.cedar_schema_faults.specs.Repeats.{HaveKeys}
use Rattle.cedar_schema_faults.proofs.Keying.{one_more_keyed}
use Rattle.cedar_schema_faults.proofs.duplicates.keyed_types.Goals as goal

pub loop-common-preserved : goal.loop-common-preserved
loop-common-preserved c =
    let low : c.loop-common.common-index < length c.args.types.now = omega arith in
    let here : c.common-item.result ≡ get_or c.args.types.now c.loop-common.common-index c.common-item.result = cc in
    record {
      keys = one_more_keyed grammar.DuplicateCommonType type_view type_name c.args.types.now c.loop-common.common-index c.common-item.result
          c.loop-common.keyed.items
          c.key_common.new.keyed.items low here c.loop-common.invariant.keys c.in_ok-key_common.ensures;
    }

pub returns : goal.returns
returns c =
    let past : length c.args.types.now ≤ c.loop-common.common-index = omega arith in
    subst (λ xs. HaveKeys grammar.DuplicateCommonType (map type_name (map type_view xs)) c.loop-common.keyed.items) (take_all c.loop-common.common-index
    c.args.types.now past)
    c.loop-common.invariant.keys
