use Rattle.std.proofs.Common.{◌≡◌, ◌<◌, ℕ, List, false}
use Rattle.cedar_frames.specs.Watching.{watched_failed, watched_unsent}
use Rattle.cedar_frames.specs.Reading.{Reads}
use Rattle.cedar_world.specs.RunText.{Ran}
use Rattle.cedar_session.specs.Sessions.{world_of, setting_of}
use Rattle.cedar_session.specs.Running.{Adds}
use Rattle.cedar_session.proofs.running.run.Given as goal

abbrev pub invariant-loop-turn : goal.invariant-loop-turn
invariant-loop-turn g l = record {
  reader_sound : watched_failed l.reader ≡ false;
  writer_sound : watched_failed l.writer ≡ false;
  sent : 0 < l.turn → watched_unsent l.writer ≡ false;
  kept : watched_unsent l.initial.writer ≡ false → watched_unsent l.writer ≡ false;
  setting : setting_of l.session ≡ setting_of l.initial.session;
  so_far : (bytes said : List ℕ)
      × Reads g.R.Read.remaining l.initial.reader l.reader bytes
      × Adds g.W.Write.contents l.initial.writer l.writer said
      × Ran (setting_of l.initial.session) (world_of l.initial.session) l.turn bytes said (world_of l.session);
}
