-- The walk ends.
use Rattle.std.specs.Prelude.{⊤}
use Rattle.cedar_data.proofs.type_names.TypeNames.find.Given as goal

abbrev pub invariant-loop-name : goal.invariant-loop-name
invariant-loop-name l = ⊤
