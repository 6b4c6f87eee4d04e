-- By the law that a text is read in one way.
use Rattle.cedar_calls.proofs.Doing.{commands_do}
use Rattle.cedar_calls.proofs.json_commands_do_what_is_said.Goals as goal

pub returns : goal.returns
returns c = λ by. commands_do by (c.texts_are_one.ensures.bodies by)
