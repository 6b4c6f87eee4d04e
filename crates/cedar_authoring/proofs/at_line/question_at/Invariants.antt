use Rattle.std.proofs.Common.{take, All}
use Rattle.cedar_authoring.specs.ScriptQuestions.{AsksAt}
use Rattle.cedar_authoring.proofs.at_line.question_at.Given as goal

abbrev pub invariant-loop-test : goal.invariant-loop-test
invariant-loop-test l = All (λ t. All (λ s. AsksAt l.line s → ⊥) t.steps.items) (take l.test-index l.script.tests.items)
