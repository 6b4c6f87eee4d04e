-- The body of the question is the one that is kept, or the one that states its parts.
use Rattle.std.proofs.Common.{◌∙◌, ap, sym}
use Rattle.cedar_world.specs.Bodies.{ask_body}
use Rattle.cedar_session.specs.Asking.{body_tree}
use Rattle.cedar_session.proofs.open_question.told_besides.Goals as goal

pub returns-in-Written : goal.returns-in-Written
returns-in-Written g c = λ by q serves states. c.told_by.ensures by q serves (ap (λ b. ask_body (body_tree b)) (sym c.in-Written.is) ∙ states)

pub returns-in_ok-question-in-Given : goal.returns-in_ok-question-in-Given
returns-in_ok-question-in-Given g c = λ by q serves states. c.told_by-in-Given.ensures by q serves (ap ask_body c.in_ok-question-in-Given.ensures ∙ ap (λ b. ask_body (body_tree b)) (sym c.in-Given.is) ∙ states)
