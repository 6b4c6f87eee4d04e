-- No key that was passed is the one that is looked for, so those to come decide.
use Rattle.std.proofs.Common.{◌≡◌}
use Rattle.cedar_trees.specs.Bare.{bare_entries}
use Rattle.cedar_world.specs.Bodies as world
use Rattle.cedar_held.specs.Lent.{fields_in}
use Rattle.cedar_held.proofs.fields.field.Given as goal

abbrev pub invariant-loop-name : goal.invariant-loop-name
invariant-loop-name l =
    goal.iterator-loop-name.can_next l.name-iterator ×
    goal.iterator-loop-name.is_finite l.name-iterator ×
    (world.found l.key (fields_in l.entries) ≡ world.found l.key (bare_entries l.name-iterator))
