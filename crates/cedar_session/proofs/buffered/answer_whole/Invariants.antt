use Rattle.std.proofs.Common.{◌≡◌, ◌++◌, ◌≤◌, ℕ, List, length, false}
use Rattle.cedar_frames.specs.Watching.{watched_failed}
use Rattle.cedar_session.specs.Sessions.{world_of, setting_of}
use Rattle.cedar_session.specs.Running.{Adds}
use Rattle.cedar_session.specs.Ahead.{RunsOn}
use Rattle.cedar_session.proofs.buffered.answer_whole.Given as goal

abbrev pub invariant-loop-count : goal.invariant-loop-count
invariant-loop-count g l = record {
  sound : watched_failed l.writer ≡ false;
  setting : setting_of l.session ≡ setting_of l.initial.session;
  within : length l.rest ≤ length l.ahead;
  none : l.count ≡ l.before → (l.writer ≡ l.initial.writer) × (world_of l.session ≡ world_of l.initial.session);
  so_far : (bytes text : List ℕ)
      × (l.ahead ≡ bytes ++ l.rest)
      × Adds g.W.Write.contents l.initial.writer l.writer text
      × RunsOn (setting_of l.initial.session) l.before (world_of l.initial.session) bytes text l.count (world_of l.session);
}
