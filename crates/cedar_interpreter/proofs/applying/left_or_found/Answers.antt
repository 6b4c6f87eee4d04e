-- Nothing is left, so it is what was found.
use Rattle.cedar_interpreter.proofs.applying.left_or_found.Goals as goal

pub returns-in-Some : goal.returns-in-Some
returns-in-Some c = λ o none given. cc

pub returns-in-None : goal.returns-in-None
returns-in-None c = λ o none given. c.known.ensures o given
