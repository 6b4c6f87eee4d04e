-- A number below 256 has one digit or two, and these are the whole code.
use Rattle.cedar_literals.proofs.Escaping.{with_one, with_two}
use Rattle.cedar_literals.proofs.unescaping.number.Goals as goal

pub returns-in-len1 : goal.returns-in-len1
returns-in-len1 c = with_one c.args.code.now c.in-len1.len_at_least c.in-len1.len_below c.digit.result c.digit.ensures

pub returns-in-len2 : goal.returns-in-len2
returns-in-len2 c = with_two c.args.code.now c.in-len2.len_at_least c.in-len2.len_below c.two_digits.result c.two_digits.ensures
