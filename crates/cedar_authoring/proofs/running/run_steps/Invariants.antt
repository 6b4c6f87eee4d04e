use Rattle.std.proofs.Common.{◌≡◌, string_bytes, take}
use Rattle.cedar_session.specs.Sessions.{setting_of, world_of}
use Rattle.cedar_authoring.specs.Scripts.{AreAnswered}
use Rattle.cedar_messages.specs.Telling.{Adds, AreBelow}
use Rattle.cedar_authoring.proofs.running.run_steps.Given as goal

abbrev pub invariant-loop-step : goal.invariant-loop-step
invariant-loop-step g l = record {
  answered : AreAnswered (setting_of l.fn.session) (world_of l.fn.session) (take l.step-index l.steps) (world_of l.session) l.fine;
  setting : setting_of l.session ≡ setting_of l.fn.session;
  told : Adds AreBelow (string_bytes l.fn.wrong) (string_bytes l.wrong);
}
