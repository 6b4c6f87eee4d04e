use Rattle.std.proofs.Common.{◌≡◌, take}
use Rattle.cedar_session.specs.Sessions.{setting_of, world_of}
use Rattle.cedar_authoring.specs.ScriptQuestions.{GoesThrough}
use Rattle.cedar_authoring.proofs.at_line.go_through.Given as goal

abbrev pub invariant-loop-step : goal.invariant-loop-step
invariant-loop-step g l = record {
  goes : GoesThrough (setting_of l.fn.session) (world_of l.fn.session) (take l.step-index l.steps) (world_of l.session);
  setting : setting_of l.session ≡ setting_of l.fn.session;
}
