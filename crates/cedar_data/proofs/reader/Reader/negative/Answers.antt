-- A minus and a number up to 2 to the 63 are one long.
use Rattle.cedar_data.proofs.Rules.{negative_read}
use Rattle.cedar_data.proofs.reader.Reader.negative.Goals as goal

pub returns-in-Some : goal.returns-in-Some
returns-in-Some c =
    negative_read _ c.args.self.now c.number.new.self c.expect.new.self c.in_ok-number.number c.in_ok-expect.ensures c.in_ok-number.ensures c.in-Some.ensures.long.1 c.in-Some.ensures.long.0
