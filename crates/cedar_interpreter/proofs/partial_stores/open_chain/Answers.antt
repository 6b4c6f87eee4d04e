-- A store that has facts leaves nothing open, at no link.
use Rattle.cedar_interpreter.proofs.partial_stores.open_chain.Goals as goal

pub returns-in-Some-2 : goal.returns-in-Some-2
returns-in-Some-2 c = λ facts has. let none = c.in_ok-unknown.ensures facts has in let some = c.in-Some-2.is in cc

pub returns-in-Some-residual : goal.returns-in-Some-residual
returns-in-Some-residual c = λ facts has. let none = c.residual.ensures (c.attribute_of.ensures facts has) in let some = c.in-Some-residual.is in cc

pub returns-in_ok-chain-in-Some-3 : goal.returns-in_ok-chain-in-Some-3
returns-in_ok-chain-in-Some-3 c = λ facts has. let none = c.in_ok-unknown-2.ensures facts has in let some = c.in-Some-3.is in cc
