-- Behind a backslash alone stands one of seven names, so any other character stands for nothing.
use Rattle.std.proofs.Common.{arith}
use Rattle.std.proofs.lemmas.Bool.Decides.{nat_tests}
use Rattle.cedar_literals.proofs.Escaping.{name_only}
use Rattle.cedar_literals.proofs.unescaping.named.Goals as goal

pub returns-in_default : goal.returns-in_default
returns-in_default c = λ d e. let n = name_only d c.args.c e in let others = c.in_default in grind (arith, nat_tests)
