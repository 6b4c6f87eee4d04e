-- Each text so far fits; the one that doesn't is of a test (Fitting).
use Rattle.std.proofs.Common.{◌≡◌, ℕ, ◌<◌, All, List, length, get_or, inr, ap, sym, subst, arith}
use Rattle.std.specs.List.{Contains}
use Rattle.cedar_authoring.specs.Scripts.{FitsCommand}
use Rattle.cedar_scripts.specs.declared.script.Step.{Step}
use Rattle.cedar_scripts.specs.declared.script.Test.{Test}
use Rattle.cedar_authoring.proofs.Fitting.{all_more, all_taken}
use Rattle.cedar_authoring.proofs.expecting.first_long.Goals as goal

pub returns-in-Some-long_among-clause-among : goal.returns-in-Some-long_among-clause-among
returns-in-Some-long_among-clause-among c =
    let tests : List Test = c.args.script.now.tests.items in
    let i : ℕ = c.loop-test.test-index in
    let t : Test = c.test-item.result in
    let all : c.deref-test-items.result.now ≡ tests = c.deref-test-items.ensures.value in
    let within : i < length tests = omega (arith, ap length all) in
    let is : t ≡ get_or tests i t = cc in
    let P : List Step → Type 0 = λ ss. Contains ss c.in-Some-long_among.step.now in
    inr (t, (i, within, sym is), subst P c.as_slice-in-loop-test.ensures.value c.in-Some-long_among.ensures.among)

pub loop-test-preserved : goal.loop-test-preserved
loop-test-preserved c =
    let tests : List Test = c.args.script.now.tests.items in
    let i : ℕ = c.loop-test.test-index in
    let t : Test = c.test-item.result in
    let all : c.deref-test-items.result.now ≡ tests = c.deref-test-items.ensures.value in
    let within : i < length tests = omega (arith, ap length all) in
    let is : t ≡ get_or tests i t = cc in
    let here : All FitsCommand t.steps.items = subst (All FitsCommand) c.as_slice-in-loop-test.ensures.value c.in_default-long_among.ensures.none in
    all_more (λ (t : Test). All FitsCommand t.steps.items) tests i t within is here c.loop-test.invariant

pub returns-clause-none : goal.returns-clause-none
returns-clause-none c =
    let tests : List Test = c.args.script.now.tests.items in
    let all : c.deref-test-items.result.now ≡ tests = c.deref-test-items.ensures.value in
    (subst (All FitsCommand) c.as_slice.ensures.value c.in_default.ensures.none, all_taken (λ (t : Test). All FitsCommand t.steps.items) tests c.loop-test.test-index (omega (arith, ap length all)) c.loop-test.invariant)
