-- One more type is in the set.
use Rattle.std.proofs.Common.{◌≡◌, ◌<◌, length, take, get_or, rules, sym, ap, ◌∙◌, arith}
use Rattle.std.specs.Prelude.{map}
use Rattle.std.specs.BTreeSet.{contains}
use Rattle.cedar_language.specs.Order.{name_cmp}
use Rattle.cedar_schema_resolution.specs.Declarations.{action_view}
use Rattle.cedar_validator_schema.specs.Actions.{is_type_among}
use Rattle.cedar_validator_schema.proofs.Cases.{higher}
use Rattle.cedar_validator_schema.proofs.Naming.{next_type}
use Rattle.cedar_validator_schema.proofs.action_types.action_types_of.Goals as goal

pub loop-action-preserved : goal.loop-action-preserved
loop-action-preserved c =
    let low : c.loop-action.action-index < length c.args.actions.now = omega arith in
    let here : c.action-item.result ≡ get_or c.args.actions.now c.loop-action.action-index c.action-item.result = cc in
    let before = map action_view (take c.loop-action.action-index c.args.actions.now) in
    let same : c.in_ok-name.name ≡ c.in_ok-uid.uid.type_name = search rules in
    record {
      types = λ n. c.in_ok-insert.ensures.updates.0 n
          ∙ next_type n c.in_ok-name.name before (action_view c.action-item.result) (contains name_cmp c.loop-action.types n)
          (same ∙ ap (λ u. u.type_name) c.in_ok-uid.ensures) (c.loop-action.invariant.types n)
          ∙ ap (λ as_. is_type_among as_ n) (sym (higher action_view c.args.actions.now c.loop-action.action-index c.action-item.result low here));
    }
