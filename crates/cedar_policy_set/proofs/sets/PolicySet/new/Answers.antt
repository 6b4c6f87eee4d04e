-- Nothing is bound, no number counts, and no position is covered.
use Rattle.cedar_policy_set.specs.Bounds.{entries_of}
use Rattle.cedar_policy_set.proofs.Counting.{counts_none}
use Rattle.cedar_policy_set.proofs.Covering.{covers_nothing}
use Rattle.cedar_policy_set.proofs.Edits.{sound_empty}
use Rattle.cedar_policy_set.proofs.sets.PolicySet.new.Goals as goal

pub invariant_of-result : goal.invariant_of-result
invariant_of-result c = record { sound = sound_empty _ c.new.ensures; counts = counts_none (entries_of c.new.result) c.new-2.result c.new-2.ensures; covers = covers_nothing (entries_of c.new.result) c.new-3.result c.new-3.ensures }
