use Rattle.cedar_policy_set.specs.ScopeFinding.{AreAmong}
use Rattle.cedar_evaluator.proofs.Listed.{AreGathered}
use Rattle.cedar_evaluator.proofs.candidates.add_of_ancestors.Given as goal

-- what is listed under the ancestors so far is among the positions, and what was among them still is
abbrev pub invariant-loop-ancestor : goal.invariant-loop-ancestor
invariant-loop-ancestor l = record {
  kept : AreAmong l.fn.found.items l.found.items;
  gathered : AreGathered l.listed l.initial.ancestor-iterator l.ancestor-iterator l.found.items;
}
