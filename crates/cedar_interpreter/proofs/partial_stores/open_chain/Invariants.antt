use Rattle.std.proofs.Common.{length}
use Rattle.std.specs.Prelude.{⊤}
use Rattle.cedar_interpreter.proofs.partial_stores.open_chain.Given as goal

abbrev pub invariant-loop-next : goal.invariant-loop-next
invariant-loop-next l = ⊤

abbrev pub decreases-loop-next : goal.decreases-loop-next
decreases-loop-next l = length l.rest
