-- The first actions have their uids.
use Rattle.std.proofs.Common.{take}
use Rattle.std.specs.Prelude.{map}
use Rattle.cedar_schema_resolution.specs.Declarations.{action_view}
use Rattle.cedar_validator_schema.specs.ActionNames.{HaveUids}
use Rattle.cedar_validator_schema.proofs.action_names.ActionNames.of.Given as goal

abbrev pub invariant-loop-action : goal.invariant-loop-action
invariant-loop-action l = record { names : HaveUids (map action_view (take l.action-index l.actions)) l.names }
