use Rattle.std.proofs.Common.{◌≡◌, map, drop}
use Rattle.cedar_grammar.specs.Build.{trees}
use Rattle.cedar_trees.specs.Bare.{bare, bare_entries}
use Rattle.cedar_restricted.specs.Offences.{offence_among}
use Rattle.cedar_restricted.proofs.offences.+first_offence.Given as goal

abbrev pub invariant-first_offence_among-loop-item : goal.invariant-first_offence_among-loop-item
invariant-first_offence_among-loop-item l = offence_among (trees (map bare l.items)) ≡ offence_among (trees (map bare (drop l.item-index l.items)))

abbrev pub invariant-first_offence_in-loop-key : goal.invariant-first_offence_in-loop-key
invariant-first_offence_in-loop-key l =
    goal.iterator-first_offence_in-loop-key.can_next l._key-iterator ×
    goal.iterator-first_offence_in-loop-key.is_finite l._key-iterator ×
    (offence_among (trees (map (λ e. e.1) (bare_entries l.entries.entries))) ≡ offence_among (trees (map (λ e. e.1) (bare_entries l._key-iterator))))
