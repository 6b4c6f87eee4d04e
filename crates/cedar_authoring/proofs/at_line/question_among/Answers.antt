-- None so far asks there (Fitting, Going).
use Rattle.std.proofs.Common.{◌≡◌, ◌++◌, ◌∷◌, ◌+◌, ℕ, List, drop, take, refl, ap, sym, subst, ◌∙◌, arith}
use Rattle.cedar_authoring.specs.ScriptQuestions.{AsksAt}
use Rattle.cedar_scripts.specs.declared.script.Step.{Step}
use Rattle.cedar_authoring.proofs.Fitting.{all_more, all_none, all_taken}
use Rattle.cedar_authoring.proofs.Going.{split_at}
use Rattle.cedar_authoring.proofs.at_line.question_among.Goals as goal

pub loop-step-init : goal.loop-step-init
loop-step-init c = record { at = refl; before = all_none (λ (s : Step). AsksAt c.args.line s → ⊥) }

pub loop-step-preserved : goal.loop-step-preserved
loop-step-preserved c = record {
  at = ap (λ k. k + 1) c.loop-step.invariant.at;
  before = all_more (λ (s : Step). AsksAt c.args.line s → ⊥) c.args.steps.now c.loop-step.step-index c.step-item.result (omega arith) c.step-item.is
      (c.asks_at.ensures.no c.if-asks_at.false) c.loop-step.invariant.before;
}

pub returns-then-asks_at-clause-at : goal.returns-then-asks_at-clause-at
returns-then-asks_at-clause-at c = c.asks_at.ensures.yes c.if-asks_at.true

pub returns-then-asks_at-clause-behind : goal.returns-then-asks_at-clause-behind
returns-then-asks_at-clause-behind c =
    let steps : List Step = c.args.steps.now in
    let k : ℕ = c.loop-step.step-index in
    let s : Step = c.step-item.result in
    let front : c.split_at.result.0.now ≡ take k steps = c.split_at.ensures.front ∙ ap (λ n. take n steps) c.loop-step.invariant.at in
    (drop (k + 1) steps, split_at steps k s (omega arith) c.step-item.is ∙ ap (λ l. l ++ s ∷ drop (k + 1) steps) (sym front))

pub returns-clause-none : goal.returns-clause-none
returns-clause-none c =
    all_taken (λ (s : Step). AsksAt c.args.line s → ⊥) c.args.steps.now c.loop-step.step-index (omega arith) c.loop-step.invariant.before
