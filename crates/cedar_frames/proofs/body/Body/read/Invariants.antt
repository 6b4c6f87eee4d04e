use Rattle.std.proofs.Common.{length, ◌+◌, ◌≡◌, ◌≢◌, ℕ, List, [], true, false}
use Rattle.std.specs.Io.KnownBytes.{Consumes}
use Rattle.cedar_frames.specs.Watching.{watched_inner, watched_failed}
use Rattle.cedar_frames.proofs.body.Body.read.Given as goal

abbrev pub invariant-loop-left : goal.invariant-loop-left
invariant-loop-left g l = record {
  sound : watched_failed l.reader ≡ watched_failed l.initial.reader;
  read : (taken : List ℕ) × (length taken + l.left ≡ l.len) × Consumes (g.R.Read.remaining (watched_inner l.initial.reader)) (g.R.Read.remaining (watched_inner l.reader)) taken × (l.held ≡ true → l.bytes.items ≡ taken) × (l.held ≡ false → taken ≢ []);
}

abbrev pub decreases-loop-left : goal.decreases-loop-left
decreases-loop-left g l = l.left
