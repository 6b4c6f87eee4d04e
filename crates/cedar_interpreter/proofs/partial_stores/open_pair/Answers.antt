-- A store that has facts leaves nothing open.
use Rattle.cedar_interpreter.proofs.partial_stores.open_pair.Goals as goal

pub returns-in-Some : goal.returns-in-Some
returns-in-Some c = λ facts has. let none = c.in_ok-unknown.ensures facts has in let some = c.in-Some.is in cc

pub returns-in-Some-residual : goal.returns-in-Some-residual
returns-in-Some-residual c = λ facts has. let none = c.residual.ensures (c.tag_of.ensures facts has) in let some = c.in-Some-residual.is in cc
