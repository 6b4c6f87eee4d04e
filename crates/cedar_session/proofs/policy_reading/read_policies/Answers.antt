-- The policies that the parser reads are those that a session loads, and no call of theirs is of `unknown`.
use Rattle.std.proofs.Common.{subst}
use Rattle.cedar_session.specs.Settings.{setting_with}
use Rattle.cedar_session.specs.PolicyReading.{ReadsSet}
use Rattle.cedar_session.proofs.Readings.{policies_read, names_read}
use Rattle.cedar_session.proofs.policy_reading.read_policies.Goals as goal

pub returns : goal.returns
returns g c =
    let by = setting_with g.F.ExtensionFunctionObject.answers c.args.extensions.now c.args.depth in
    let same = c.in_ok-make_for_policies.ensures.called.policies c.for_policies.result.now c.for_policies.ensures in
    let reads = subst (λ names. ReadsSet names c.args.depth c.args.text.now c.policy_set.result) same c.policy_set.ensures in
    record {
      called = c.in_ok-make_for_policies.ensures.called;
      policies = policies_read by c.args.text.now c.policy_set.result reads;
      names = names_read by c.args.text.now (c.calls_are_found.ensures by) c.policy_set.result reads;
    }
