-- The request that a question is asked as.
use Rattle.std.specs.Prelude.{◌≡◌}
use Rattle.std.specs.FinMap as map
use Rattle.cedar_language.specs.Facts.{Facts}
use Rattle.cedar_language.specs.Tree.{Variable}
use Rattle.cedar_partial_evaluation.specs.Question.{IsAccepted, variable_held}
use Rattle.cedar_world.specs.Asking.{Question}
use Rattle.cedar_world.specs.First.{IsData, HasRequest}
use Rattle.cedar_world.specs.Setting.{Setting}
use Rattle.cedar_extensions.specs.Table.{Table, HasFunctions}
use Rattle.cedar_requests.specs.Asked.{variable_asked}
use Rattle.cedar_requests.specs.Holding.{RequestParts}

-- what stands for each variable is what is held of the question where nothing is told
abbrev pub HoldsQuestion : Table → Question → RequestParts → Type 0
HoldsQuestion table q r = (facts : Facts) → HasFunctions table facts → (v : Variable) → variable_asked r v ≡ variable_held facts q map.empty v

-- the question's context is data that doesn't err, a known question has a request, and this is what is held of it
pub record IsRequestOf (by : Setting) (table : Table) (q : Question) (r : RequestParts) : Type 0 where
  pub is_data : IsData q.context
  pub holds : HoldsQuestion table q r
  pub accepted : (facts : Facts) → HasFunctions table facts → IsAccepted facts map.empty q.context
  pub request : HasRequest by q
