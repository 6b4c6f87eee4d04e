-- Those from a number on are put.
use Rattle.std.proofs.Common.{drop}
use Rattle.std.specs.Prelude.{map}
use Rattle.cedar_schema_resolution.specs.Declarations.{action_view}
use Rattle.cedar_schema_faults.specs.Actions.{HaveNumbersFrom}
use Rattle.cedar_schema_faults.proofs.actions.ActionNumbers.of.Given as goal

abbrev pub invariant-loop-number : goal.invariant-loop-number
invariant-loop-number l = record { put : HaveNumbersFrom l.number (map action_view (drop l.number l.actions)) l.numbers }
