use Rattle.std.proofs.Common.{length, ◌≡◌, take, true}
use Rattle.std.specs.Io.KnownBytes.{Consumes}
use Rattle.cedar_frames.specs.Heads.{lacks}
use Rattle.cedar_frames.specs.Watching.{watched_inner, watched_failed}
use Rattle.cedar_frames.proofs.frame.read_line.Given as goal

abbrev pub invariant-loop-at : goal.invariant-loop-at
invariant-loop-at g l = record {
  room : length l.line ≡ 33;
  sound : watched_failed l.reader ≡ watched_failed l.initial.reader;
  read : Consumes (g.R.Read.remaining (watched_inner l.initial.reader)) (g.R.Read.remaining (watched_inner l.reader)) (take l.at l.line);
  open_line : lacks 10 (take l.at l.line) ≡ true;
}
