-- The request has the parts of the question, and what its context is evaluated to.
use Rattle.cedar_session.proofs.Given.{is_asked}
use Rattle.cedar_session.proofs.given_questions.request_given.Goals as goal

pub returns : goal.returns
returns c = λ by table depth. is_asked c.args.question.now by c.questions_are_asked.ensures table depth c.in_ok-request.request c.in_ok-request.ensures
