use Rattle.std.proofs.Common.{◌≡◌, ◌<◌, ◌≤◌, ◌-◌, ℕ, List, false}
use Rattle.cedar_frames.specs.Watching.{watched_failed, watched_unsent}
use Rattle.cedar_frames.specs.Reading.{Reads}
use Rattle.cedar_world.specs.RunText.{Ran, most_frames}
use Rattle.cedar_session.specs.Sessions.{world_of, setting_of}
use Rattle.cedar_session.specs.Running.{Adds}
use Rattle.cedar_session.proofs.buffered.run_buffered.Given as goal

abbrev pub invariant-loop-count : goal.invariant-loop-count
invariant-loop-count g l = record {
  countable : l.count ≤ most_frames;
  reader_sound : watched_failed l.reader ≡ false;
  writer_sound : watched_failed l.writer ≡ false;
  sent : 0 < l.count → watched_unsent l.writer ≡ false;
  kept : watched_unsent l.initial.writer ≡ false → watched_unsent l.writer ≡ false;
  setting : setting_of l.session ≡ setting_of l.initial.session;
  so_far : (bytes said : List ℕ)
      × Reads g.R.Read.remaining l.initial.reader l.reader bytes
      × Adds g.W.Write.contents l.initial.writer l.writer said
      × Ran (setting_of l.initial.session) (world_of l.initial.session) l.count bytes said (world_of l.session);
}

abbrev pub decreases-loop-count : goal.decreases-loop-count
decreases-loop-count g l = most_frames - l.count
