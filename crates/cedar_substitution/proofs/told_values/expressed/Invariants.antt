use Rattle.std.specs.List.{IsDistinct}
use Rattle.std.specs.Map.{keys_of}
use Rattle.cedar_substitution.proofs.Lookups.{same_key}
use Rattle.cedar_substitution.proofs.Telling.{AreGathered}
use Rattle.cedar_substitution.proofs.told_values.expressed.Given as goal

abbrev pub invariant-loop-name : goal.invariant-loop-name
invariant-loop-name l =
    goal.iterator-loop-name.can_next l.name-iterator ×
    goal.iterator-loop-name.is_finite l.name-iterator ×
    AreGathered l.name-iterator l.told.entries l.exprs.entries ×
    IsDistinct same_key (keys_of l.name-iterator)
