use Rattle.std.proofs.Common.{drop}
use Rattle.cedar_entities.proofs.Known.{AreAdding}
use Rattle.cedar_entities.proofs.children.add_children.Given as goal

abbrev pub invariant-loop-entity : goal.invariant-loop-entity
invariant-loop-entity l = AreAdding l.entities (drop l.entity-index l.entities) l.fn.index l.index
