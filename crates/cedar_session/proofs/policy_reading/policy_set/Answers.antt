-- What the parser refuses a text for tells what the command is refused by.
use Rattle.std.proofs.Common.{Err, subst, sym}
use Rattle.cedar_session.specs.PolicyReading.{ReadsSet}
use Rattle.cedar_session.proofs.Readings.{set_refused}
use Rattle.cedar_session.proofs.policy_reading.policy_set.Goals as goal

pub returns-in-Err : goal.returns-in-Err
returns-in-Err c =
    subst (λ r. ReadsSet c.args.styles.now c.args.depth c.args.text.now (Err r)) (sym c.of_text.ensures)
    (set_refused c.args.styles.now c.args.depth c.args.text.now c.in-Err.errors c.in-Err.ensures.set)
