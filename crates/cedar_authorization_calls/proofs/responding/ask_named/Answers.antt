use Rattle.std.proofs.Common.{ap}
use Rattle.std.specs.Option.{option_map}
use Rattle.cedar_policy_parts.specs.Decisions.{decision_of}
use Rattle.cedar_replies.specs.Replies.{answer_of}
use Rattle.cedar_authorization_calls.proofs.responding.ask_named.Goals as goal

pub returns-in_default-clause-asked : goal.returns-in_default-clause-asked
returns-in_default-clause-asked g c = (answer_of c.in-Ok.answer, c.in-Ok.ensures.step, ap (option_map decision_of) c.in_default.is)

pub returns-clause-asked : goal.returns-clause-asked
returns-clause-asked g c = (answer_of c.in-Ok.answer, c.in-Ok.ensures.step, c.in_ok-response.ensures)
