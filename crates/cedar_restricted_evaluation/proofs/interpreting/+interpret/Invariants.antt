use Rattle.std.proofs.Common.{◌≤◌, ◌+◌, ◌*◌, map, drop}
use Rattle.cedar_language.specs.Height.{heights}
use Rattle.cedar_grammar.specs.Build.{trees}
use Rattle.cedar_trees.specs.Bare.{bare, bare_entries}
use Rattle.cedar_restricted.specs.PartialValues.{partial_of}
use Rattle.cedar_restricted_evaluation.proofs.Gathering.{Remains}
use Rattle.cedar_extensions.specs.Table.{as_table}
use Rattle.cedar_restricted_evaluation.proofs.interpreting.+interpret.Given as goal

abbrev pub invariant-interpret_items-loop-item : goal.invariant-interpret_items-loop-item
invariant-interpret_items-loop-item g l =
    Remains (as_table g.F.ExtensionFunctionObject.answers l.extensions) (map bare (drop l.item-index l.items)) (map partial_of l.answers.items) (map bare l.items) ×
    (heights (trees (map bare (drop l.item-index l.items))) ≤ l.depth → heights (trees (map bare l.items)) ≤ l.depth)

abbrev pub invariant-interpret_entries-loop-key : goal.invariant-interpret_entries-loop-key
invariant-interpret_entries-loop-key g l =
    (goal.iterator-interpret_entries-loop-key g).can_next l._key-iterator ×
    (goal.iterator-interpret_entries-loop-key g).is_finite l._key-iterator ×
    Remains (as_table g.F.ExtensionFunctionObject.answers l.extensions) (map (λ e. e.1) (bare_entries l._key-iterator)) (map partial_of l.answers.items) (map (λ e. e.1) (bare_entries l.entries.entries)) ×
    (heights (trees (map (λ e. e.1) (bare_entries l._key-iterator))) ≤ l.depth → heights (trees (map (λ e. e.1) (bare_entries l.entries.entries))) ≤ l.depth)

abbrev pub decreases-interpret : goal.decreases-interpret
decreases-interpret g l = 4 * l.depth

abbrev pub decreases-interpret_set : goal.decreases-interpret_set
decreases-interpret_set g l = 4 * l.depth + 2

abbrev pub decreases-interpret_record : goal.decreases-interpret_record
decreases-interpret_record g l = 4 * l.depth + 2

abbrev pub decreases-interpret_call : goal.decreases-interpret_call
decreases-interpret_call g l = 4 * l.depth + 2

abbrev pub decreases-interpret_items : goal.decreases-interpret_items
decreases-interpret_items g l = 4 * l.depth + 1

abbrev pub decreases-interpret_entries : goal.decreases-interpret_entries
decreases-interpret_entries g l = 4 * l.depth + 1
