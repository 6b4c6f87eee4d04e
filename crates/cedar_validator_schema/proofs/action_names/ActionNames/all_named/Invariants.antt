-- Those that the first references stand for.
use Rattle.std.proofs.Common.{◌≡◌, take}
use Rattle.std.specs.Prelude.{map}
use Rattle.cedar_schema_syntax.specs.View.{ref_view}
use Rattle.cedar_validator_schema.specs.ActionNames.{all_referred}
use Rattle.cedar_validator_schema.proofs.action_names.ActionNames.all_named.Given as goal

abbrev pub invariant-loop-one : goal.invariant-loop-one
invariant-loop-one l = record { found : l.found.items ≡ all_referred l.self l.namespace (map ref_view (take l.one-index l.written)) }
