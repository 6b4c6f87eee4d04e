-- What a session lends of its open question.
use Rattle.std.specs.Prelude.{◌≡◌, Bool, false, not, is_some, ◌&&◌, Option, Some, None}
use Rattle.std.specs.FinMap as finite
use Rattle.cedar_language.specs.Uid.{Text}
use Rattle.cedar_world.specs.Answer.{Answer}
use Rattle.cedar_world.specs.Asking.{Told}
use Rattle.cedar_world.specs.Question.{is_unknown}
use Rattle.cedar_world.specs.Setting.{Setting}
use Rattle.cedar_world.specs.World.{World, Asked}
use Rattle.cedar_asking.specs.Keeping.{IsFirstResponse}
use Rattle.cedar_asking.specs.Waiting.{LeftIsUntold, SaysUntilTold}
use Rattle.cedar_evaluator.specs.Holding.{holding_in}
use Rattle.cedar_evaluator.specs.declared.partial_response.PartialResponse.{PartialResponse}
use Rattle.cedar_session.specs.Open.{bare}

-- the question that is open wants a value of this name, and none is told
abbrev pub is_untold : Option Asked → Text → Bool
is_untold None n = false
is_untold (Some asked) n = not (is_some (finite.get asked.told n)) && is_unknown asked.question n

-- the values that were told for a question's unknowns, by their names
abbrev pub told_of : Asked → Told
told_of asked = asked.told

-- the first response to the question that is open, by the policies and entities held
pub record IsResponse (by : Setting) (world : World) (response : PartialResponse) : Type 0 where
  pub asked : Asked
  pub is_open : world.asked ≡ Some asked
  pub responds : ∥ IsFirstResponse by (bare world.policies world.entities) asked.question response ∥₁
  -- until a name is told that it left in a policy, it says the answer that was given last
  pub says : ∥ SaysUntilTold (holding_in response) asked.told asked.last ∥₁

-- Where no name that is told by now stands in what the response left of a policy, the answer is the one that was given last.
abbrev pub WaitsForNames : Option PartialResponse → Option Asked → Option Asked → Answer → Type 0
WaitsForNames (Some response) (Some old) (Some new) answer = LeftIsUntold (holding_in response) new.told → answer ≡ old.last
WaitsForNames response old new answer = Unit {0}
