use Rattle.std.proofs.Common.{◌≡◌, ◌++◌}
use Rattle.cedar_entities.proofs.gaining.push_kept.Given as goal

abbrev pub invariant-loop-uid : goal.invariant-loop-uid
invariant-loop-uid l = l.uids.items ++ l.uid-iterator ≡ l.fn.uids.items ++ l.initial.uid-iterator
