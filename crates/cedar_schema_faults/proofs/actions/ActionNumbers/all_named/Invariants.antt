-- The groups so far.
use Rattle.std.proofs.Common.{◌≡◌, take}
use Rattle.std.specs.Prelude.{map}
use Rattle.cedar_schema_syntax.specs.View.{ref_view}
use Rattle.cedar_schema_faults.specs.Actions.{group_numbers}
use Rattle.cedar_schema_faults.proofs.actions.ActionNumbers.all_named.Given as goal

abbrev pub invariant-loop-reference : goal.invariant-loop-reference
invariant-loop-reference l = record {
  far : l.groups.items ≡ group_numbers l.self l.namespace (map ref_view (take l.reference-index l.references));
}
