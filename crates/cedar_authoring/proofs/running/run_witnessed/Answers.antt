-- A text is too long, or the test runs (Below).
use Rattle.std.proofs.Common.{false, refl, subst, sym, All, string_bytes}
use Rattle.cedar_authoring.specs.Scripts.{FitsCommand, TellsTest}
use Rattle.cedar_messages.proofs.Below.{from_nothing}
use Rattle.cedar_authoring.proofs.running.run_witnessed.Goals as goal

pub returns-in-Some : goal.returns-in-Some
returns-in-Some g c =
    let name = string_bytes c.args.test.now.name in
    record {
      ran = λ fits. absurd (c.in-Some.ensures.some (fits.0, subst (All FitsCommand) (sym c.as_slice.ensures.value) fits.1));
      long = λ _. refl;
      tells = from_nothing (TellsTest name false) (string_bytes c.new-text.result) (string_bytes c.fail_long.new.told) c.new-text.ensures.bytes c.in_ok-fail_long.ensures;
    }

pub returns : goal.returns
returns g c =
    let name = string_bytes c.args.test.now.name in
    let fits = c.in_default.ensures.none in
    record {
      ran = λ _. c.in_ok-passed.ensures.passes;
      long = λ other. absurd (other (fits.0, subst (All FitsCommand) c.as_slice.ensures.value fits.1));
      tells = from_nothing (TellsTest name c.in_ok-passed.passed) (string_bytes c.new-text.result) (string_bytes c.run_fitting.new.told) c.new-text.ensures.bytes c.in_ok-passed.ensures.told;
    }
