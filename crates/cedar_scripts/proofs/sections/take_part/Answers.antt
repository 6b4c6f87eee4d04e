use Rattle.cedar_scripts.proofs.sections.take_part.Goals as goal

pub returns-in-Command-clause-taken : goal.returns-in-Command-clause-taken
returns-in-Command-clause-taken c = rw c.in-Command.is c.begin_step.ensures.taken

pub returns-in-Further-clause-taken : goal.returns-in-Further-clause-taken
returns-in-Further-clause-taken c = rw c.in-Further.is c.go_on.ensures.taken

pub returns-in-Expects-clause-taken : goal.returns-in-Expects-clause-taken
returns-in-Expects-clause-taken c = rw c.in-Expects.is c.expect_answer.ensures.taken
