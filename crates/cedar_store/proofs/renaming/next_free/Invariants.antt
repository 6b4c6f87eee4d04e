-- Each number that was passed over is taken.
use Rattle.std.proofs.Common.{◌≤◌, ◌^◌, ◌-◌}
use Rattle.cedar_store.proofs.Numbers.{AreTaken}
use Rattle.cedar_store.proofs.renaming.next_free.Given as goal

abbrev pub invariant-loop-number : goal.invariant-loop-number
invariant-loop-number l = record {
  reached : l.from ≤ l.next;
  passed : AreTaken l.mine l.theirs l.from l.next;
}

abbrev pub decreases-loop-number : goal.decreases-loop-number
decreases-loop-number l = 2 ^ 64 - l.next
