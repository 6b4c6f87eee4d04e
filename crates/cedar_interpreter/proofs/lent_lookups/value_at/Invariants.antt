-- No key that was passed is the one that is looked for, so those to come decide.
use Rattle.std.proofs.Common.{◌≡◌}
use Rattle.cedar_language.specs.Operators.{found}
use Rattle.cedar_values.specs.Kinds.{keys_of, values_of}
use Rattle.cedar_interpreter.proofs.lent_lookups.value_at.Given as goal

abbrev pub invariant-loop-name : goal.invariant-loop-name
invariant-loop-name l =
    goal.iterator-loop-name.can_next l.name-iterator ×
    goal.iterator-loop-name.is_finite l.name-iterator ×
    (found (keys_of l.fields.entries) (values_of l.fields.entries) l.key ≡ found (keys_of l.name-iterator) (values_of l.name-iterator) l.key)
