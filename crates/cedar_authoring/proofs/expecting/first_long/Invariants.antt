use Rattle.std.proofs.Common.{take, All}
use Rattle.cedar_authoring.specs.Scripts.{FitsCommand}
use Rattle.cedar_authoring.proofs.expecting.first_long.Given as goal

abbrev pub invariant-loop-test : goal.invariant-loop-test
invariant-loop-test l = All (λ t. All FitsCommand t.steps.items) (take l.test-index l.script.tests.items)
