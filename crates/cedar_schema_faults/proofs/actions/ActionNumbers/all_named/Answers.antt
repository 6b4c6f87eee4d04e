-- One group more is found, or isn't declared.
use Rattle.std.proofs.Common.{◌≡◌, ◌<◌, ◌≤◌, length, get_or, arith, subst}
use Rattle.std.specs.Prelude.{map}
use Rattle.std.proofs.lemmas.List.{take_all}
use Rattle.cedar_schema_syntax.specs.View.{ref_view}
use Rattle.cedar_schema_faults.specs.Actions.{group_numbers}
use Rattle.cedar_schema_faults.proofs.Numbering.{one_more_group}
use Rattle.cedar_schema_faults.proofs.actions.ActionNumbers.all_named.Goals as goal

pub loop-reference-preserved : goal.loop-reference-preserved
loop-reference-preserved c =
    let low : c.loop-reference.reference-index < length c.args.references.now = omega arith in
    let here : c.reference-item.result ≡ get_or c.args.references.now c.loop-reference.reference-index c.reference-item.result = cc in
    record {
      far = one_more_group ref_view c.args.self.now c.args.namespace.now c.args.references.now c.loop-reference.reference-index c.reference-item.result
          c.loop-reference.groups.items
          c.add_group.new.groups.items low here c.loop-reference.invariant.far c.in_ok-add_group.ensures;
    }

pub returns : goal.returns
returns c =
    let past : length c.args.references.now ≤ c.loop-reference.reference-index = omega arith in
    subst (λ rs. c.loop-reference.groups.items ≡ group_numbers c.args.self.now c.args.namespace.now (map ref_view rs))
    (take_all c.loop-reference.reference-index c.args.references.now past) c.loop-reference.invariant.far
