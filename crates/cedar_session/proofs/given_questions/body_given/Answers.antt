-- The record of its entries is the body of the question, and none of their keys stands twice.
use Rattle.cedar_session.proofs.Given.{body_made, none_twice}
use Rattle.cedar_session.proofs.given_questions.body_given.Goals as goal

pub returns-in-Ok : goal.returns-in-Ok
returns-in-Ok c = body_made c.args.question.now _ _ c.in_ok-entries.ensures c.in-Ok.ensures
