use Rattle.cedar_entities.specs.Kept.{in_map}
use Rattle.cedar_entities.proofs.Adding.{IsUnderway}
use Rattle.cedar_entities.proofs.Beside.{IsPassing}
use Rattle.cedar_entities.proofs.edits.add_all.Given as goal

abbrev pub invariant-loop-entity : goal.invariant-loop-entity
invariant-loop-entity l =
    IsUnderway (in_map l.fn.map) (in_map l.map) l.fn.entities.items l.entity-iterator.rest.items
    × IsPassing (λ e. e.uid) (in_map l.fn.map) (in_map l.map) l.fn.entities.items l.entity-iterator.rest.items
