use Rattle.std.proofs.Common.{◌≡◌, ◌||◌, Bool, map, drop}
use Rattle.std.specs.List.{list_any}
use Rattle.cedar_grammar.specs.Build.{trees}
use Rattle.cedar_language.specs.Uid.{Text}
use Rattle.cedar_trees.specs.Bare.{bare, bare_entries}
use Rattle.cedar_telling.specs.UnknownNames.{stands_in_some}
use Rattle.cedar_telling.proofs.asked_names.+push_names.Given as goal

abbrev pub invariant-push_all-loop-item : goal.invariant-push_all-loop-item
invariant-push_all-loop-item l = (test : Text → Bool) →
    (list_any test (map (λ n. n.now) l.fn.names.items) || stands_in_some test (trees (map bare l.items)))
    ≡ (list_any test (map (λ n. n.now) l.names.items) || stands_in_some test (trees (map bare (drop l.item-index l.items))))

abbrev pub invariant-push_entries-loop-key : goal.invariant-push_entries-loop-key
invariant-push_entries-loop-key l =
    goal.iterator-push_entries-loop-key.can_next l._key-iterator ×
    goal.iterator-push_entries-loop-key.is_finite l._key-iterator ×
    ((test : Text → Bool) →
    (list_any test (map (λ n. n.now) l.fn.names.items) || stands_in_some test (trees (map (λ e. e.1) (bare_entries l.entries.entries))))
    ≡ (list_any test (map (λ n. n.now) l.names.items) || stands_in_some test (trees (map (λ e. e.1) (bare_entries l._key-iterator)))))
