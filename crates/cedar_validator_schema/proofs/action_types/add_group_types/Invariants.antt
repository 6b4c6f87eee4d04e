-- Edges lead from the types of the first actions.
use Rattle.std.proofs.Common.{◌≡◌, ◌||◌, take}
use Rattle.std.specs.Prelude.{map}
use Rattle.cedar_language.specs.Uid.{Name}
use Rattle.cedar_language.specs.Order.{same_name, name_cmp, uid_cmp}
use Rattle.cedar_schema_resolution.specs.Declarations.{action_view}
use Rattle.cedar_validator_schema.specs.Hierarchies.{targets_at, leads}
use Rattle.cedar_validator_schema.specs.Actions.{types_lead}
use Rattle.cedar_validator_schema.proofs.action_types.add_group_types.Given as goal

abbrev pub invariant-loop-action : goal.invariant-loop-action
invariant-loop-action l = record {
  leads : (n m : Name) → leads same_name name_cmp l.parents n m
      ≡ (leads same_name name_cmp l.fn.parents n m || types_lead (targets_at uid_cmp l.groups) (map action_view (take l.action-index l.actions)) n m);
}
