-- The copies so far and the entries that are left are together all entries, and each that is left is restricted.
use Rattle.std.proofs.Common.{◌≡◌, ◌++◌, true, map}
use Rattle.cedar_language.specs.Restricted.{are_restricted}
use Rattle.cedar_grammar.specs.Build.{trees}
use Rattle.cedar_trees.specs.Bare.{bare_entries}
use Rattle.cedar_restricted.specs.Views.{restricted_entries}
use Rattle.cedar_requests.proofs.iteration.owned.Given as goal

abbrev pub invariant-loop-key : goal.invariant-loop-key
invariant-loop-key l =
    goal.iterator-loop-key.can_next l.key-iterator ×
    goal.iterator-loop-key.is_finite l.key-iterator ×
    (restricted_entries l.copies.items ++ bare_entries l.key-iterator ≡ bare_entries l.entries.entries) ×
    (are_restricted (trees (map (λ e. e.1) (bare_entries l.key-iterator))) ≡ true)
