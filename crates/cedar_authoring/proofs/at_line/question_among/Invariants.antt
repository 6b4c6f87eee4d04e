use Rattle.std.proofs.Common.{◌≡◌, take, All}
use Rattle.cedar_authoring.specs.ScriptQuestions.{AsksAt}
use Rattle.cedar_authoring.proofs.at_line.question_among.Given as goal

abbrev pub invariant-loop-step : goal.invariant-loop-step
invariant-loop-step l = record {
  at : l.i ≡ l.step-index;
  before : All (λ s. AsksAt l.line s → ⊥) (take l.step-index l.steps);
}
