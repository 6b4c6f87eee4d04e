-- One more is found, or isn't declared.
use Rattle.std.proofs.Common.{◌≡◌, ◌<◌, ◌≤◌, length, take, get_or, sym, ap, ◌∙◌, subst, arith}
use Rattle.std.specs.Prelude.{map}
use Rattle.std.proofs.lemmas.List.{take_all}
use Rattle.cedar_schema_syntax.specs.View.{ref_view}
use Rattle.cedar_validator_schema.specs.ActionNames.{all_referred}
use Rattle.cedar_validator_schema.proofs.Cases.{higher}
use Rattle.cedar_validator_schema.proofs.Naming.{one_referred}
use Rattle.cedar_validator_schema.proofs.action_names.ActionNames.all_named.Goals as goal

pub loop-one-preserved : goal.loop-one-preserved
loop-one-preserved c =
    let low : c.loop-one.one-index < length c.args.written.now = omega arith in
    let here : c.one-item.result ≡ get_or c.args.written.now c.loop-one.one-index c.one-item.result = cc in
    record {
      found = one_referred c.args.self.now c.args.namespace.now (map ref_view (take c.loop-one.one-index c.args.written.now)) (ref_view c.one-item.result)
          c.loop-one.found.items c.add_named.new.found.items c.loop-one.invariant.found c.in_ok-add_named.ensures
          ∙ ap (all_referred c.args.self.now c.args.namespace.now) (sym (higher ref_view c.args.written.now c.loop-one.one-index c.one-item.result low here));
    }

pub returns : goal.returns
returns c =
    let past : length c.args.written.now ≤ c.loop-one.one-index = omega arith in
    subst (λ rs. c.loop-one.found.items ≡ all_referred c.args.self.now c.args.namespace.now (map ref_view rs))
    (take_all c.loop-one.one-index c.args.written.now past)
    c.loop-one.invariant.found
