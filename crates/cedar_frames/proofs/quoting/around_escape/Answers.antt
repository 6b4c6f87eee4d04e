-- No byte that was passed is escaped.
use Rattle.cedar_frames.proofs.Quotes.{plain_more, escaped_at}
use Rattle.cedar_frames.proofs.quoting.around_escape.Goals as goal

pub returns-in-Some-clause-parts : goal.returns-in-Some-clause-parts
returns-in-Some-clause-parts c = escaped_at c.args.bytes.now c.in-Some.written.now c.loop-at.at c.loop-at-test.true c.loop-at.invariant c.in-Some.ensures

pub loop-at-preserved : goal.loop-at-preserved
loop-at-preserved c = plain_more c.args.bytes.now c.loop-at.at c.loop-at-test.true c.loop-at.invariant c.in_default.ensures
