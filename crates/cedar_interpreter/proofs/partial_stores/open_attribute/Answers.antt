-- A store that has facts leaves nothing open.
use Rattle.cedar_interpreter.proofs.partial_stores.open_attribute.Goals as goal

pub returns-in-Some : goal.returns-in-Some
returns-in-Some c = λ facts has. let none = c.in_ok-unknown.ensures facts has in let some = c.in-Some.is in cc

pub returns-in_ok-clone-in-Some-residual : goal.returns-in_ok-clone-in-Some-residual
returns-in_ok-clone-in-Some-residual c = λ facts has. let none = c.residual.ensures (c.attribute_of.ensures facts has) in let some = c.in-Some-residual.is in cc
