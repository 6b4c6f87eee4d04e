use Rattle.std.proofs.Common.{◌≡◌, ◌||◌, drop}
use Rattle.std.specs.List.{list_any}
use Rattle.cedar_language.specs.Uid.{Uid}
use Rattle.cedar_language.specs.Order.{same_uid}
use Rattle.cedar_entities.proofs.edits.uids_of.Given as goal

abbrev pub invariant-loop-entity : goal.invariant-loop-entity
invariant-loop-entity l = (q : Uid) → (list_any (same_uid q) l.uids.keys || list_any (λ e. same_uid q e.uid) (drop l.entity-index l.entities)) ≡ list_any (λ e. same_uid q e.uid) l.entities
