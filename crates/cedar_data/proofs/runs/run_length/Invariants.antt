-- The bytes passed so far are of the run.
use Rattle.std.proofs.Common.{◌≡◌, ◌+◌, drop}
use Rattle.cedar_data.specs.Classes.{test_of}
use Rattle.cedar_data.specs.Runs.{run_length}
use Rattle.cedar_data.proofs.runs.run_length.Given as goal

abbrev pub invariant-loop-i : goal.invariant-loop-i
invariant-loop-i l = run_length (test_of l.class) l.bytes ≡ l.i + run_length (test_of l.class) (drop l.i l.bytes)
