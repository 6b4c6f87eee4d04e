-- The types so far are those of the names passed.
use Rattle.std.proofs.Common.{◌≡◌, take}
use Rattle.cedar_validator.proofs.actions.written_types.Given as goal

abbrev pub invariant-loop-name : goal.invariant-loop-name
invariant-loop-name l = l.types.items ≡ take l.name-index l.names
