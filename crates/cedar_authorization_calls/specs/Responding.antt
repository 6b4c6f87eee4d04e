-- What a question is answered under names.
use Rattle.std.specs.Prelude.{◌≡◌, Some, None, map}
use Rattle.std.specs.FinMap as finite
use Rattle.cedar_language.specs.Uid.{Text}
use Rattle.cedar_policy_parts.specs.Decisions.{decision_of}
use Rattle.cedar_replies.specs.Refusals.{refusal_of}
use Rattle.cedar_world.specs.Answer.{Answer}
use Rattle.cedar_world.specs.Commands.{Ask, Answered, Refused}
use Rattle.cedar_world.specs.Setting.{Setting}
use Rattle.cedar_world.specs.Step.{Step}
use Rattle.cedar_world.specs.World.{World}
use Rattle.cedar_authorization_calls.specs.declared.names.Names.{Names}
use Rattle.cedar_authorization_calls.specs.declared.responding.Response.{Response}
use Rattle.cedar_authorization_calls.specs.declared.responding.Asked.{Asked}
use Rattle.cedar_authorization_calls.specs.declared.responding.Asked.TheVariants as asked
use Rattle.cedar_authorization_calls.specs.Naming.{named}

-- the response has the answer's decision, and under their names the policies that are its reason and those that err
pub record IsResponse (names : Names) (answer : Answer) (response : Response) : Type 0 where
  pub decision : Some (decision_of response.decision) ≡ answer.decision
  pub reason : map (λ n. n.now) response.reason.items ≡ named names (finite.keys answer.must)
  pub errors : map (λ e. e.policy.now) response.errors.items ≡ named names (finite.keys answer.erring)

-- the question of a body is asked, and told is what the session answers
abbrev pub AsksAs : Setting → World → Names → Text → Asked → World → Type 0
AsksAs by old names body (asked.Decided response) new = (answer : Answer) × Step by old Ask body (Answered answer) new × IsResponse names answer response
AsksAs by old names body asked.Open new = (answer : Answer) × Step by old Ask body (Answered answer) new × (answer.decision ≡ None)
AsksAs by old names body (asked.Refused refusal) new = Step by old Ask body (Refused (refusal_of refusal)) new
