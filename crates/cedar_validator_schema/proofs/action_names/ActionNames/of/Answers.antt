-- One more has its uid.
use Rattle.std.proofs.Common.{◌≡◌, ◌<◌, ◌≤◌, length, take, get_or, sym, subst, arith}
use Rattle.std.specs.Prelude.{map}
use Rattle.std.proofs.lemmas.List.{take_all}
use Rattle.cedar_schema_resolution.specs.Declarations.{action_view}
use Rattle.cedar_validator_schema.specs.ActionNames.{HaveUids}
use Rattle.cedar_validator_schema.proofs.Cases.{higher}
use Rattle.cedar_validator_schema.proofs.Naming.{one_uid}
use Rattle.cedar_validator_schema.proofs.action_names.ActionNames.of.Goals as goal

pub loop-action-preserved : goal.loop-action-preserved
loop-action-preserved c =
    let low : c.loop-action.action-index < length c.args.actions.now = omega arith in
    let here : c.action-item.result ≡ get_or c.args.actions.now c.loop-action.action-index c.action-item.result = cc in
    record {
      names = subst (λ as_. HaveUids as_ c.put.new.self) (sym (higher action_view c.args.actions.now c.loop-action.action-index c.action-item.result low here))
          (one_uid (map action_view (take c.loop-action.action-index c.args.actions.now)) (action_view c.action-item.result) c.in_ok-uid.uid
          c.loop-action.names c.put.new.self c.in_ok-uid.ensures c.loop-action.invariant.names c.in_ok-put.ensures);
    }

pub returns : goal.returns
returns c =
    let past : length c.args.actions.now ≤ c.loop-action.action-index = omega arith in
    subst (λ as_. HaveUids (map action_view as_) c.loop-action.names) (take_all c.loop-action.action-index c.args.actions.now past)
    c.loop-action.invariant.names
