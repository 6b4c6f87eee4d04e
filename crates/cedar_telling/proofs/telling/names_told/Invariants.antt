-- No name that was passed was told before, so the names to come decide.
use Rattle.std.proofs.Common.{◌≡◌, is_some}
use Rattle.std.specs.FinMap as finite
use Rattle.cedar_trees.specs.Bare.{bare_entries}
use Rattle.cedar_world.specs.Refusals.{some_key}
use Rattle.cedar_telling.specs.Tells.{told_in}
use Rattle.cedar_telling.proofs.telling.names_told.Given as goal

abbrev pub invariant-loop-name : goal.invariant-loop-name
invariant-loop-name l =
    goal.iterator-loop-name.can_next l.name-iterator ×
    goal.iterator-loop-name.is_finite l.name-iterator ×
    (some_key (λ n. is_some (finite.get (told_in l.told.entries) n)) (bare_entries l.entries.entries) ≡ some_key (λ n. is_some (finite.get (told_in l.told.entries) n)) (bare_entries l.name-iterator))
