use Rattle.std.proofs.Common.{map, take}
use Rattle.cedar_cst.specs.View.{shown_policy}
use Rattle.cedar_policy_conversion.specs.Gathered.{AreGathered}
use Rattle.cedar_policy_conversion.proofs.sets.set_of.Given as goal

-- the policies so far
abbrev pub invariant-loop-node : goal.invariant-loop-node
invariant-loop-node l = AreGathered l.styles (map shown_policy (take l.node-index l.nodes)) l.policies
