-- Each text so far fits (Fitting).
use Rattle.std.proofs.Common.{arith}
use Rattle.cedar_authoring.specs.Scripts.{FitsCommand}
use Rattle.cedar_authoring.proofs.Fitting.{all_more, all_taken}
use Rattle.cedar_authoring.proofs.expecting.long_among.Goals as goal

pub loop-step-preserved : goal.loop-step-preserved
loop-step-preserved c =
    all_more FitsCommand c.args.steps.now c.loop-step.step-index c.step-item.result (omega arith) c.step-item.is (omega arith) c.loop-step.invariant

pub returns-clause-none : goal.returns-clause-none
returns-clause-none c = all_taken FitsCommand c.args.steps.now c.loop-step.step-index (omega arith) c.loop-step.invariant
