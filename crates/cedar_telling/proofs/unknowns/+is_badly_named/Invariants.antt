use Rattle.std.proofs.Common.{◌≡◌, map, drop}
use Rattle.cedar_grammar.specs.Build.{trees}
use Rattle.cedar_trees.specs.Bare.{bare, bare_entries}
use Rattle.cedar_telling.specs.Unknowns.{some_badly_named}
use Rattle.cedar_telling.proofs.unknowns.+is_badly_named.Given as goal

abbrev pub invariant-some_is_badly_named-loop-item : goal.invariant-some_is_badly_named-loop-item
invariant-some_is_badly_named-loop-item l = some_badly_named (trees (map bare l.items)) ≡ some_badly_named (trees (map bare (drop l.item-index l.items)))

abbrev pub invariant-some_entry_is_badly_named-loop-key : goal.invariant-some_entry_is_badly_named-loop-key
invariant-some_entry_is_badly_named-loop-key l =
    goal.iterator-some_entry_is_badly_named-loop-key.can_next l._key-iterator ×
    goal.iterator-some_entry_is_badly_named-loop-key.is_finite l._key-iterator ×
    (some_badly_named (trees (map (λ e. e.1) (bare_entries l.entries.entries))) ≡ some_badly_named (trees (map (λ e. e.1) (bare_entries l._key-iterator))))
