-- One policy more leaves fewer tokens; at the end of the text all were given; what keeps one from being read keeps the text from being read.
use Rattle.std.proofs.Common.{refl}
use Rattle.cedar_grammar.specs.LooseReading.{read_policies}
use Rattle.cedar_cst.specs.View.{shown_policy}
use Rattle.cedar_loose.specs.Errors.{cause_of}
use Rattle.cedar_loose.specs.Texts.{stop_cause}
use Rattle.cedar_loose.proofs.Fewer.{policy_fewer}
use Rattle.cedar_loose.proofs.Given.{all_given, one_more, none_more}
use Rattle.cedar_loose.proofs.Telling.{told_refusal}
use Rattle.cedar_loose.proofs.policy_reader.PolicyReader.next.Goals as goal

pub returns-then-not-is_more-clause-next : goal.returns-then-not-is_more-clause-next
returns-then-not-is_more-clause-next c depth text given has = all_given depth text given c.args.self.now has c.if-not-is_more.ensures

pub returns-in-Ok-clause-next : goal.returns-in-Ok-clause-next
returns-in-Ok-clause-next c depth text given has =
    one_more depth text given c.args.self.now has c.if-not-is_more.ensures (shown_policy c.in-Ok.policy) _ refl c.in-Ok.ensures

pub returns-in-Ok-clause-fewer : goal.returns-in-Ok-clause-fewer
returns-in-Ok-clause-fewer c = policy_fewer _ c.args.self.now.cursor (shown_policy c.in-Ok.policy) c.policy.new.cursor c.in-Ok.ensures

pub returns-in-Err-clause-next : goal.returns-in-Err-clause-next
returns-in-Err-clause-next c depth text given has =
    let limits = c.limits_are_met_where_constructs_open.ensures in
    told_refusal read_policies depth text (stop_cause c.in-Err.error) (cause_of c.refusal.result) c.refusal.ensures
    (none_more depth text given c.args.self.now has c.if-not-is_more.ensures c.wider_limits_change_nothing.ensures.policies limits.policies limits.texts c.in-Err.error c.in-Err.ensures)
