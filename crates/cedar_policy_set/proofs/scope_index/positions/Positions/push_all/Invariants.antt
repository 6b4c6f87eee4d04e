use Rattle.cedar_policy_set.specs.ScopeFinding.{AreAmong}
use Rattle.cedar_policy_set.proofs.Gathering.{AreWalked}
use Rattle.cedar_policy_set.proofs.scope_index.positions.Positions.push_all.Given as goal

-- the lists so far were added, and what was found before still is
abbrev pub invariant-loop-places : goal.invariant-loop-places
invariant-loop-places l = record {
  kept : AreAmong l.fn.found.items l.found.items;
  walked : AreWalked l.initial.places-iterator l.places-iterator l.found.items;
}
