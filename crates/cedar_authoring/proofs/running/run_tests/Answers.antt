-- One test more is told of (Ran).
use Rattle.std.proofs.Common.{◌≡◌, ◌↔◌, ℕ, ◌+◌, ◌<◌, ◌≤◌, ◌++◌, ◌∷◌, [], Bool, not, List, length, take, get_or, string_bytes, codes, append_assoc, sym, ap, subst, ◌∙◌, arith}
use Rattle.std.proofs.lemmas.List.{take_all}
use Rattle.std.specs.Fmt.{decimal}
use Rattle.std.specs.Int.{from_bool}
use Rattle.cedar_language.specs.Uid.{Text}
use Rattle.cedar_world.specs.Setting.{Setting}
use Rattle.cedar_session.specs.Settings.{setting_with}
use Rattle.cedar_scripts.specs.declared.script.Step.{Step}
use Rattle.cedar_scripts.specs.declared.script.Test.{Test}
use Rattle.cedar_authoring.specs.Scripts.{Went, passed_of, failed_of}
use Rattle.cedar_authoring.proofs.Ran.{Counted, Counted-more, Counted-told, passed_one, failed_one, one_each}
use Rattle.cedar_authoring.proofs.running.run_tests.Goals as goal
use Rattle.cedar_authoring.proofs.running.run_tests.Goals.{then-passed-gt0+then-failed-eq0, else-passed-gt0, else-passed-gt0-via-then-passed-gt0+else-failed-eq0, else-passed-gt0-via-else-passed-gt0}

pub loop-test-preserved : goal.loop-test-preserved
loop-test-preserved g c =
    let by : Setting = setting_with g.F.ExtensionFunctionObject.answers c.args.extensions.now 256 in
    let set_up : List Step = c.args.script.now.set_up.items in
    let tests : List Test = c.args.script.now.tests.items in
    let i : ℕ = c.loop-test.test-index in
    let t : Test = c.test-item.result in
    let p : Bool = c.in_ok-outcome.outcome.passed in
    let more : Text = string_bytes c.in_ok-outcome.outcome.text in
    let new : Text = string_bytes c.push_str.new.self in
    let added : new ≡ string_bytes c.loop-test.told ++ more = c.in_ok-push_str.ensures.bytes ∙ ap (λ (x : Text). string_bytes c.loop-test.told ++ x) c.as_str.ensures.value in
    let all : c.deref-test-items.result.now ≡ tests = c.deref-test-items.ensures.value in
    let within : i < length tests = omega (arith, ap length all) in
    let is : t ≡ get_or tests i t = cc in
    let S : List Step → Type 0 = λ ss. Went by ss t p more in
    let went : S set_up = subst S c.as_slice.ensures.value c.in_ok-outcome.ensures in
    let one : from_bool p + from_bool (not p) ≡ 1 = one_each p in
    let N : ℕ → ℕ → Type 0 = λ a b. Counted by set_up (take (i + 1) tests) new (c.loop-test.passed + a) (c.loop-test.failed + b) in
    let counted : N (passed_of (p ∷ [])) (failed_of (p ∷ [])) =
    Counted-more by set_up tests i t p (string_bytes c.loop-test.told) more new c.loop-test.passed c.loop-test.failed within is c.loop-test.invariant.counted went added
    in
    record {
      counted = subst (λ (a : ℕ). N a c.from-in-loop-test.result) (sym (c.from.ensures ∙ passed_one p)) (subst (λ (b : ℕ). N (passed_of (p ∷ [])) b) (sym (c.from-in-loop-test.ensures ∙ failed_one p)) counted);
      all = omega (arith, one, c.from.ensures, c.from-in-loop-test.ensures, c.loop-test.invariant.all);
    }

pub returns-clause-ran : goal.returns-clause-ran
returns-clause-ran g c =
    let by : Setting = setting_with g.F.ExtensionFunctionObject.answers c.args.extensions.now 256 in
    let set_up : List Step = c.args.script.now.set_up.items in
    let tests : List Test = c.args.script.now.tests.items in
    let told : Text = string_bytes c.loop-test.told in
    let all : c.deref-test-items.result.now ≡ tests = c.deref-test-items.ensures.value in
    let past : length tests ≤ c.loop-test.test-index = omega (arith, ap length all) in
    let P : List Test → Type 0 = λ ts. Counted by set_up ts told c.loop-test.passed c.loop-test.failed in
    let counted : P tests = subst P (take_all c.loop-test.test-index tests past) c.loop-test.invariant.counted in
    let fine : (c.if-passed-gt0.status ≡ 0) ↔ ((0 < c.loop-test.passed) × (c.loop-test.failed ≡ 0)) = elim c.if-passed-gt0.branch [
      | then-passed-gt0+then-failed-eq0 w ↦ ((λ e. (omega arith, omega arith)), (λ h. omega arith))
      | else-passed-gt0 w ↦ elim w.else-passed-gt0.branch [
        | else-passed-gt0-via-then-passed-gt0+else-failed-eq0 v ↦ ((λ e. absurd (omega arith)), (λ h. absurd (omega (arith, h.1))))
        | else-passed-gt0-via-else-passed-gt0 v ↦ ((λ e. absurd (omega arith)), (λ h. absurd (omega (arith, h.0))))
      ]
    ] in
    let p : Text = decimal c.loop-test.passed in
    let f : Text = decimal c.loop-test.failed in
    let apart : ((p ++ codes " passed, ") ++ f) ++ codes " failed\n" ≡ p ++ (codes " passed, " ++ (f ++ codes " failed\n")) =
    append_assoc (p ++ codes " passed, ") f (codes " failed\n") ∙ append_assoc p (codes " passed, ") (f ++ codes " failed\n")
    in
    let whole : string_bytes c.push_str-2.new.self ≡ told ++ (((p ++ codes " passed, ") ++ f) ++ codes " failed\n") =
    c.in_ok-push_str-2.ensures.bytes ∙ ap (λ (t : Text). told ++ t) (c.as_str-2.ensures.value ∙ c.in_ok-summary.ensures.ok ∙ sym apart)
    in
    Counted-told by c.args.script.now told (string_bytes c.push_str-2.new.self) c.loop-test.passed c.loop-test.failed c.if-passed-gt0.status
    counted whole fine
