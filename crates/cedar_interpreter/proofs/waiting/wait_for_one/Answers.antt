-- A chain of `has` waits as a chain.
use Rattle.cedar_interpreter.proofs.waiting.wait_for_one.Goals as goal

pub returns-in-HasPath : goal.returns-in-HasPath
returns-in-HasPath c = rw c.in-HasPath.is c.wait_for_path.ensures
