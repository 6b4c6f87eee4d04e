-- What an evaluator of a request holds.
use Rattle.std.specs.Prelude.{◌≡◌, ℕ, Option}
use Rattle.cedar_language.specs.Tree.{Principal, Action, Resource, Context}
use Rattle.cedar_language.specs.Uid.{Text}
use Rattle.cedar_language.specs.Value.{Value}
use Rattle.cedar_partial_evaluation.specs.Partial.{LeafAnswers}
use Rattle.cedar_policy_parts.specs.Bindings.{Bindings}
use Rattle.cedar_entities.specs.declared.store.Entities.{Entities}
use Rattle.cedar_extensions.specs.Answering.{FunctionAnswers}
use Rattle.cedar_extensions.specs.Table.{Table}
use Rattle.cedar_restricted.specs.PartialValues.{partial_of}
use Rattle.cedar_restricted_evaluation.specs.Evaluations.{part_answer}
pub use Rattle.cedar_requests.specs.Asked.{context_asked, variable_asked}
use Rattle.cedar_requests.specs.Holding.{RequestParts}
use Rattle.cedar_interpreter.specs.Asking.{nothing_told, leaves_held, AnswersFor}
use Rattle.cedar_interpreter.specs.declared.asking.AskedVariables.{AskedVariables}
use Rattle.cedar_interpreter.specs.declared.evaluator.Evaluator.{Evaluator}

-- a request, and the values that are told for unknowns
pub record Inquiry : Type 0 where
  pub request : RequestParts
  pub told : Text → Option Value

-- of no unknown a value is told
abbrev pub untold : RequestParts → Inquiry
untold r = record { request = r; told = nothing_told }

-- what is held of a request's variables, of unknowns and of slots
abbrev pub request_held : Inquiry → Bindings → LeafAnswers
request_held i slots = leaves_held (variable_asked i.request) i.told slots

-- these stand for its variables
pub record StandFor (r : RequestParts) (asked : AskedVariables) : Type 0 where
  pub principal : part_answer (partial_of asked.principal) ≡ variable_asked r Principal
  pub action : part_answer (partial_of asked.action) ≡ variable_asked r Action
  pub resource : part_answer (partial_of asked.resource) ≡ variable_asked r Resource
  pub context : part_answer (partial_of asked.context) ≡ variable_asked r Context

-- it answers for this inquiry, over these entities and functions, to this depth
abbrev pub IsEvaluatorOf : {F : Type 0} → (F → FunctionAnswers) → Inquiry → Entities → Table → ℕ → Evaluator F → Type 0
IsEvaluatorOf answers i entities table depth ev = AnswersFor answers (variable_asked i.request) i.told entities table depth ev
