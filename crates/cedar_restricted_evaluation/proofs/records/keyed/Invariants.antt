use Rattle.std.proofs.Common.{◌≡◌, ◌++◌, length, map}
use Rattle.cedar_restricted.proofs.Rising.{texts}
use Rattle.cedar_restricted_evaluation.proofs.records.keyed.Given as goal

abbrev pub invariant-loop-key : goal.invariant-loop-key
invariant-loop-key g l =
    (goal.iterator-loop-key g).can_next l.key-iterator ×
    (goal.iterator-loop-key g).is_finite l.key-iterator ×
    (texts l.made.entries ++ texts l.key-iterator ≡ texts l.entries.entries) ×
    (map (λ e. e.1) l.made.entries ++ l.left.rest.items ≡ l.fn.items.items) ×
    (length l.left.rest.items ≡ length l.key-iterator)
