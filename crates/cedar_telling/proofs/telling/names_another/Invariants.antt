-- Each name that was passed is one of the names, so the names to come decide.
use Rattle.std.proofs.Common.{◌≡◌, not}
use Rattle.cedar_trees.specs.Bare.{bare_entries}
use Rattle.cedar_world.specs.Refusals.{some_key}
use Rattle.cedar_telling.specs.AskedNames.{is_listed}
use Rattle.cedar_telling.proofs.telling.names_another.Given as goal

abbrev pub invariant-loop-name : goal.invariant-loop-name
invariant-loop-name l =
    goal.iterator-loop-name.can_next l.name-iterator ×
    goal.iterator-loop-name.is_finite l.name-iterator ×
    (some_key (λ n. not (is_listed l.names n)) (bare_entries l.entries.entries) ≡ some_key (λ n. not (is_listed l.names n)) (bare_entries l.name-iterator))
