-- Edges lead from the type of one action more.
use Rattle.std.proofs.Common.{◌≡◌, ◌<◌, ◌&&◌, ◌||◌, length, take, get_or, sym, ap, ◌∙◌, arith}
use Rattle.std.specs.Prelude.{map}
use Rattle.std.specs.List.{list_any}
use Rattle.cedar_language.specs.Order.{same_name, name_cmp, uid_cmp}
use Rattle.cedar_schema_resolution.specs.Declarations.{action_view}
use Rattle.cedar_validator_schema.specs.Hierarchies.{targets_at, leads}
use Rattle.cedar_validator_schema.specs.Actions.{types_lead}
use Rattle.cedar_validator_schema.proofs.Cases.{higher}
use Rattle.cedar_validator_schema.proofs.Leading.{next_action}
use Rattle.cedar_validator_schema.proofs.action_types.add_group_types.Goals as goal

pub loop-action-preserved : goal.loop-action-preserved
loop-action-preserved c =
    let low : c.loop-action.action-index < length c.args.actions.now = omega arith in
    let here : c.action-item.result ≡ get_or c.args.actions.now c.loop-action.action-index c.action-item.result = cc in
    let before = map action_view (take c.loop-action.action-index c.args.actions.now) in
    let groups = targets_at uid_cmp c.args.groups.now in
    let old = c.loop-action.parents in
    let uid = c.in_ok-uid.uid in
    record {
      leads = λ n m. next_action groups n m (leads same_name name_cmp c.args.parents.now n m) (leads same_name name_cmp old n m)
          (leads same_name name_cmp c.add_types_of.new.parents n m) before (action_view c.action-item.result) (c.loop-action.invariant.leads n m)
          (c.in_ok-add_types_of.ensures n m
          ∙ ap (λ k. leads same_name name_cmp old n m || (same_name k n && list_any
          (λ w. same_name w.type_name m) c.targets_of.result.now)) c.type_name.ensures
          ∙ ap (λ ws. leads same_name name_cmp old n m || (same_name uid.type_name n && list_any (λ w. same_name w.type_name m) ws)) c.targets_of.ensures
          ∙ ap (λ u. leads same_name name_cmp old n m || (same_name u.type_name n && list_any (λ w. same_name w.type_name m) (groups u))) c.in_ok-uid.ensures)
          ∙ ap (λ as_. leads same_name name_cmp c.args.parents.now n m || types_lead groups as_ n m)
          (sym (higher action_view c.args.actions.now c.loop-action.action-index c.action-item.result low here));
    }
