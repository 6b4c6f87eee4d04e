use Rattle.std.proofs.Common.{◌≡◌, ◌+◌, take, string_bytes}
use Rattle.cedar_session.specs.Settings.{setting_with}
use Rattle.cedar_authoring.proofs.Ran.{Counted}
use Rattle.cedar_authoring.proofs.running.run_tests.Given as goal

abbrev pub invariant-loop-test : goal.invariant-loop-test
invariant-loop-test g l = record {
  counted : Counted (setting_with g.F.ExtensionFunctionObject.answers l.extensions 256) l.script.set_up.items (take l.test-index l.script.tests.items) (string_bytes l.told) l.passed l.failed;
  all : l.passed + l.failed ≡ l.test-index;
}
