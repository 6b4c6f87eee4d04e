use Rattle.cedar_entities.proofs.Known.{IsAdding}
use Rattle.cedar_entities.proofs.children.add_child.Given as goal

abbrev pub invariant-loop-parent : goal.invariant-loop-parent
invariant-loop-parent l = IsAdding l.uid l.entity.parents l.parent-iterator l.fn.index l.index
