-- A store that has facts leaves nothing open.
use Rattle.cedar_interpreter.proofs.partial_stores.open_has.Goals as goal

pub returns-in_ok-has-in-Some : goal.returns-in_ok-has-in-Some
returns-in_ok-has-in-Some c = λ facts has. let none = c.in_ok-unknown.ensures facts has in let some = c.in-Some.is in cc
