-- The place is the one of the pattern.
use Rattle.std.proofs.Common.{rules, append_assoc}
use Rattle.cedar_messages.proofs.telling.heading.Goals as goal

pub returns-in-Some : goal.returns-in-Some
returns-in-Some c = rw c.in-Some.is (search (rules, append_assoc))
