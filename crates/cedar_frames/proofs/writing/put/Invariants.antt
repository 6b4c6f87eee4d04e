use Rattle.std.proofs.Common.{length, ◌-◌, ◌≡◌, ◌≤◌, take, false}
use Rattle.std.specs.Io.KnownBytes.{Appends}
use Rattle.cedar_frames.specs.Watching.{watched_inner, watched_failed}
use Rattle.cedar_frames.proofs.writing.put.Given as goal

abbrev pub invariant-loop-at : goal.invariant-loop-at
invariant-loop-at g l = record {
  in_range : l.at ≤ length l.bytes;
  sound : watched_failed l.writer ≡ false;
  written : Appends (g.W.Write.contents (watched_inner l.initial.writer)) (g.W.Write.contents (watched_inner l.writer)) (take l.at l.bytes);
}

abbrev pub decreases-loop-at : goal.decreases-loop-at
decreases-loop-at g l = length l.bytes - l.at
