-- Putting the entities still to come over the map so far is putting all over the map before.
use Rattle.std.proofs.Common.{◌≡◌}
use Rattle.cedar_language.specs.Uid.{Uid}
use Rattle.cedar_entities.specs.Kept.{in_map, put_over}
use Rattle.cedar_entities.proofs.Beside.{IsPassing}
use Rattle.cedar_entities.proofs.edits.put_all.Given as goal

abbrev pub invariant-loop-entity : goal.invariant-loop-entity
invariant-loop-entity l =
    ((uid : Uid) → put_over (in_map l.map) l.entity-iterator.rest.items uid ≡ put_over (in_map l.fn.map) l.fn.entities.items uid)
    × IsPassing (λ e. e.uid) (in_map l.fn.map) (in_map l.map) l.fn.entities.items l.entity-iterator.rest.items
