-- None so far asks there; the one that does is of the set-up, or of a test (Fitting, Going).
use Rattle.std.proofs.Common.{◌≡◌, ◌∙◌, ◌++◌, ◌∷◌, [], ℕ, ◌<◌, All, List, length, get_or, inl, inr, ap, refl, sym, subst, arith}
use Rattle.cedar_authoring.specs.ScriptQuestions.{AsksAt}
use Rattle.cedar_scripts.specs.declared.script.Step.{Step}
use Rattle.cedar_scripts.specs.declared.script.Test.{Test}
use Rattle.cedar_authoring.proofs.Fitting.{all_more, all_taken}
use Rattle.cedar_authoring.proofs.Going.{nothing_at}
use Rattle.cedar_authoring.proofs.at_line.question_at.Goals as goal

pub returns-in-Some-clause-behind : goal.returns-in-Some-clause-behind
returns-in-Some-clause-behind c =
    let before : List Step = c.in-Some.before.now in
    let behind = c.in-Some.ensures.behind in
    let none : c.split_at.result.0.now ≡ [] = c.split_at.ensures.front in
    inl (behind.0, sym c.as_slice.ensures.value ∙ (behind.1 ∙ ap (λ f. (f ++ before) ++ c.in-Some.step.now ∷ behind.0) (sym none)))

pub returns-in-Some-question_among-clause-behind : goal.returns-in-Some-question_among-clause-behind
returns-in-Some-question_among-clause-behind c =
    let tests : List Test = c.args.script.now.tests.items in
    let i : ℕ = c.loop-test.test-index in
    let t : Test = c.test-item.result in
    let all : c.deref-test-items.result.now ≡ tests = c.deref-test-items.ensures.value in
    let within : i < length tests = omega (arith, ap length all) in
    let is : t ≡ get_or tests i t = cc in
    let own : List Step = c.in-Some-question_among.before.now in
    let behind = c.in-Some-question_among.ensures.behind in
    inr (t, own, behind.0, (i, within, sym is), sym c.as_slice-in-loop-test.ensures.value ∙ behind.1, ap (λ f. f ++ own) c.as_slice-set_up.ensures.value)

pub loop-test-preserved : goal.loop-test-preserved
loop-test-preserved c =
    let tests : List Test = c.args.script.now.tests.items in
    let i : ℕ = c.loop-test.test-index in
    let t : Test = c.test-item.result in
    let all : c.deref-test-items.result.now ≡ tests = c.deref-test-items.ensures.value in
    let within : i < length tests = omega (arith, ap length all) in
    let is : t ≡ get_or tests i t = cc in
    let Free : List Step → Type 0 = All (λ s. AsksAt c.args.line s → ⊥) in
    let here : Free t.steps.items = subst Free c.as_slice-in-loop-test.ensures.value c.in_default-question_among.ensures.none in
    all_more (λ (t : Test). Free t.steps.items) tests i t within is here c.loop-test.invariant

pub returns-clause-none : goal.returns-clause-none
returns-clause-none c =
    let tests : List Test = c.args.script.now.tests.items in
    let all : c.deref-test-items.result.now ≡ tests = c.deref-test-items.ensures.value in
    let Free : List Step → Type 0 = All (λ s. AsksAt c.args.line s → ⊥) in
    nothing_at c.args.script.now c.args.line (subst Free c.as_slice.ensures.value c.in_default.ensures.none)
    (all_taken (λ (t : Test). Free t.steps.items) tests c.loop-test.test-index (omega (arith, ap length all)) c.loop-test.invariant)
