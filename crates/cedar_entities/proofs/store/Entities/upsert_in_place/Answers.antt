-- The list of the entities is the one that was looked at.
use Rattle.std.proofs.Common.{subst}
use Rattle.cedar_entities.specs.Gaining.{GainsEdges}
use Rattle.cedar_entities.specs.Kept.{in_map}
use Rattle.cedar_entities.proofs.store.Entities.upsert_in_place.Goals as goal

pub put_gaining-requires-clause-gains : goal.put_gaining-requires-clause-gains
put_gaining-requires-clause-gains c = subst (λ es. GainsEdges (in_map c.args.self.now.entities) es) c.deref.ensures.value
    (c.only_gains.ensures c.if-only_gains.true).1
