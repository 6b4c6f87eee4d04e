-- Over no policies no limit is met.
use Rattle.cedar_requests.specs.Holding.{request_parts}
use Rattle.cedar_law_examples.proofs.Answered.{answers_nothing}
use Rattle.cedar_law_examples.proofs.proving.respond.Goals as goal

pub returns : goal.returns
returns g c =
    let made = c.no_entities-entities.ensures in
    let responds = rw c.new-policies.ensures at c.in_ok-response.ensures in
    answers_nothing c.responses_answer_requests.ensures made.0 made.3 (request_parts c.args.request) c.requires _ _ _ c.in_ok-response.response responds
