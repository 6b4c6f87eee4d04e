-- The groups of the actions so far.
use Rattle.std.proofs.Common.{◌≡◌, ℕ, take}
use Rattle.std.specs.Prelude.{map}
use Rattle.std.specs.Global.{Vec}
use Rattle.cedar_schema_resolution.specs.Declarations.{action_view}
use Rattle.cedar_schema_faults.specs.Actions.{groups_in}
use Rattle.cedar_schema_faults.proofs.actions.ActionNumbers.all_groups.Given as goal

abbrev pub invariant-loop-action : goal.invariant-loop-action
invariant-loop-action l = record {
  rows : map (λ (row : Vec ℕ). row.items) l.all.items ≡ map (groups_in l.self) (map action_view (take l.action-index l.actions));
}
