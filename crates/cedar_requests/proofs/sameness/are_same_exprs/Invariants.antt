-- The records of all entries are the same where the entries that are left are.
use Rattle.std.proofs.Common.{◌≡◌}
use Rattle.std.specs.Cmp.Lexicographic.{pointwise}
use Rattle.cedar_trees.specs.Bare.{bare_entries, record_tree}
use Rattle.cedar_restricted.specs.Sameness.{same_tree}
use Rattle.cedar_requests.specs.Sameness.{same_entry}
use Rattle.cedar_requests.proofs.sameness.are_same_exprs.Given as goal

abbrev pub invariant-loop-key : goal.invariant-loop-key
invariant-loop-key l =
    goal.iterator-loop-key.can_next l.key-iterator ×
    goal.iterator-loop-key.is_finite l.key-iterator ×
    (same_tree (record_tree (bare_entries l.a.entries)) (record_tree (bare_entries l.b.entries)) ≡ pointwise same_entry (bare_entries l.key-iterator) (bare_entries l.others))
