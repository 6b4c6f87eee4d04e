use Rattle.std.proofs.Common.{take, All}
use Rattle.cedar_authoring.specs.Scripts.{FitsCommand}
use Rattle.cedar_authoring.proofs.expecting.long_among.Given as goal

abbrev pub invariant-loop-step : goal.invariant-loop-step
invariant-loop-step l = All FitsCommand (take l.step-index l.steps)
