-- The action stands at its uid.
use Rattle.std.proofs.Common.{◌≡◌, rules, cond, ap, ◌∙◌}
use Rattle.std.specs.BTreeMap.{is_at}
use Rattle.cedar_language.specs.Order.{uid_cmp}
use Rattle.cedar_schema_resolution.specs.Declarations.{action_view}
use Rattle.cedar_validator_schema.specs.Hierarchies.{targets_at}
use Rattle.cedar_validator_schema.proofs.Putting.{put_action}
use Rattle.cedar_validator_schema.proofs.actions.Actions.put.Goals as goal

pub returns : goal.returns
returns c = λ d l as_ is before.
    let same : c.in_ok-copy.copy ≡ c.in_ok-uid.uid = search rules in
    let rows = c.in_ok-groups.groups.items in
    let old = c.args.self.now in
    put_action d l as_ (action_view c.args.action.now) c.in_ok-application.application c.in_ok-uid.uid rows old
    (record { by_uid = c.insert.new.self; groups = c.set.new.self }) c.in_ok-uid.ensures c.in_ok-insert.ensures.updates.0
    (λ u. c.in_ok-set.ensures u ∙ ap (λ k. cond (is_at (uid_cmp k) u) rows (targets_at uid_cmp old.groups u)) same)
    (c.in_ok-application.ensures d l is.entities is.table) (c.in_ok-groups.ensures d is.actions) before
