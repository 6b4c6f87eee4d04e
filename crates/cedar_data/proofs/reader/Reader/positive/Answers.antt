-- A number below 2 to the 63 is a long.
use Rattle.cedar_data.proofs.Rules.{positive_read}
use Rattle.cedar_data.proofs.reader.Reader.positive.Goals as goal

pub returns-in-Some : goal.returns-in-Some
returns-in-Some c =
    positive_read _ c.args.self.now c.number.new.self c.in_ok-number.number c.in_ok-number.ensures c.in-Some.ensures.long.1 c.in-Some.ensures.long.0
