use Rattle.std.proofs.Common.{◌≡◌, ◌++◌, map, drop}
use Rattle.cedar_grammar.specs.Build.{trees}
use Rattle.cedar_trees.specs.Bare.{bare, bare_entries}
use Rattle.cedar_restricted.specs.Reading.{values_in}
use Rattle.cedar_restricted.proofs.Rising.{texts}
use Rattle.cedar_restricted.proofs.Gathering.{put_before}
use Rattle.cedar_restricted.proofs.from_expr.+read_value.Given as goal

abbrev pub invariant-read_items-loop-item : goal.invariant-read_items-loop-item
invariant-read_items-loop-item l = values_in (trees (map bare l.items)) ≡ put_before l.values.items (values_in (trees (map bare (drop l.item-index l.items))))

abbrev pub invariant-read_entries-loop-key : goal.invariant-read_entries-loop-key
invariant-read_entries-loop-key l =
    goal.iterator-read_entries-loop-key.can_next l.key-iterator ×
    goal.iterator-read_entries-loop-key.is_finite l.key-iterator ×
    (texts l.fields.entries ++ texts l.key-iterator ≡ texts l.entries.entries) ×
    (values_in (trees (map (λ e. e.1) (bare_entries l.entries.entries))) ≡ put_before (map (λ e. e.1) l.fields.entries) (values_in (trees (map (λ e. e.1) (bare_entries l.key-iterator)))))
