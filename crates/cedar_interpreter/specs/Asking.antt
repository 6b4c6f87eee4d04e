-- What an evaluator answers: it holds what stands for variables and unknowns, and an answer to a tree that mentions only what is known
-- is what the tree means.
use Rattle.std.specs.Prelude.{◌≡◌, ◌<◌, ℕ, Bool, true, false, Option, None, Result}
use Rattle.cedar_language.specs.Tree.{Variable, Principal, Action, Resource, Context, SlotId, Tree}
use Rattle.cedar_language.specs.Uid.{Text, Uid}
use Rattle.cedar_language.specs.Value.{Value}
use Rattle.cedar_language.specs.Facts.{Facts}
use Rattle.cedar_language.specs.Height.{height}
use Rattle.cedar_language.specs.Meaning.{Request, slot_outcome, meaning}
use Rattle.cedar_partial_evaluation.specs.Mentions.{mentions_only}
use Rattle.cedar_partial_evaluation.specs.Partial.{Answer, Evaluated, answer_of, LeafAnswers}
use Rattle.cedar_partial_evaluation.specs.Question.{name_held}
use Rattle.cedar_partial_evaluation.specs.ReadUnknowns.{read_unknowns, calls_unknown}
use Rattle.cedar_policy_parts.specs.Bindings.{Bindings, binding_of}
use Rattle.cedar_entities.specs.declared.store.Entities.{Entities}
use Rattle.cedar_extensions.specs.Answering.{FunctionAnswers}
use Rattle.cedar_extensions.specs.Giving.{Gives}
use Rattle.cedar_extensions.specs.declared.evaluation_error.EvaluationError.{EvaluationError}
use Rattle.cedar_extensions.specs.Table.{Table, as_table}
use Rattle.cedar_operators.specs.Store.{HasFacts}
use Rattle.cedar_restricted.specs.PartialValues.{partial_of}
use Rattle.cedar_restricted.specs.declared.partial_values.PartialValue.{PartialValue}
use Rattle.cedar_restricted_evaluation.specs.Evaluations.{part_answer}
use Rattle.cedar_values.specs.Readers.{uid_in}
use Rattle.cedar_interpreter.specs.Holding.{held_by, is_evaluated, Serves, ServesRead, depth_of}
use Rattle.cedar_interpreter.specs.Naming.{IsPlain}
use Rattle.cedar_interpreter.specs.Operating.{HasFunctions, NamesNothing}
use Rattle.cedar_interpreter.specs.declared.asking.AskedVariables.{AskedVariables}
use Rattle.cedar_interpreter.specs.declared.evaluator.Variables.{Variables}
use Rattle.cedar_interpreter.specs.declared.evaluator.Evaluator.{Evaluator}

-- ---- what an evaluator is asked for

abbrev pub part_asked : AskedVariables → Variable → PartialValue
part_asked asked Principal = asked.principal
part_asked asked Action = asked.action
part_asked asked Resource = asked.resource
part_asked asked Context = asked.context

-- what stands for a variable, as an answer
abbrev pub answer_asked : AskedVariables → Variable → Answer
answer_asked asked v = part_answer (partial_of (part_asked asked v))

-- these stand for the variables
pub record StandFor (asked : AskedVariables) (vs : Variables) : Type 0 where
  pub principal : vs.principal.part ≡ asked.principal
  pub action : vs.action.part ≡ asked.action
  pub resource : vs.resource.part ≡ asked.resource
  pub context : vs.context ≡ asked.context

-- of no unknown a value is told
abbrev pub nothing_told : Text → Option Value
nothing_told n = None

-- what is held of variables, of unknowns and of slots; a told value of another type than the one that an unknown states is a TypeError
abbrev pub leaves_held : (Variable → Answer) → (Text → Option Value) → Bindings → LeafAnswers
leaves_held variables told slots = record {
  variable = variables;
  unknown = λ n ty. name_held (told n) n ty;
  slot = λ s. answer_of (slot_outcome (binding_of slots s));
}

-- the entity that an answer is
abbrev pub entity_in : Answer → Option Uid
entity_in (Evaluated v) = uid_in v
entity_in b = None

-- the entity that stands for a variable; for the context none does
abbrev pub entity_among : (Variable → Answer) → Variable → Option Uid
entity_among variables Context = None
entity_among variables v = entity_in (variables v)

-- it answers for what stands so for the variables, and is told so of unknowns, over these entities and functions, to this depth
pub record AnswersFor {F : Type 0} (answers : F → FunctionAnswers) (variables : Variable → Answer) (told : Text → Option Value) (entities : Entities) (table : Table) (depth : ℕ) (ev : Evaluator F) : Type 0 where
  pub store : ev.entities.now ≡ entities
  pub functions : as_table answers ev.extensions.now ≡ table
  pub holds : (slots : Bindings) → held_by ev slots ≡ leaves_held variables told slots
  pub serves : (facts : Facts) (t : Tree) → HasFacts entities facts → HasFunctions table facts → NamesNothing table t → Serves answers ev facts t
  pub reads : (facts : Facts) (t : Tree) → HasFacts entities facts → HasFunctions table facts → table.has_unknown ≡ true → calls_unknown (read_unknowns t) ≡ false → ((v : Variable) → IsPlain (variables v)) → ServesRead answers ev facts t
  pub limit : depth_of ev ≡ depth

-- ---- what is known

-- the variable has a value
abbrev pub is_known_in : LeafAnswers → Variable → Bool
is_known_in holds v = is_evaluated (holds.variable v)

-- each variable that has a value has that of the request, and the slots are bound as in the request
pub record IsHeldOf (holds : LeafAnswers) (request : Request) : Type 0 where
  pub variable : (v : Variable) (w : Value) → holds.variable v ≡ Evaluated w → request.variable v ≡ w
  pub slot : (s : SlotId) → holds.slot s ≡ answer_of (slot_outcome (request.slots s))

-- a tree that mentions only variables that have a value, and no unknown, is answered by what it means for each such request, kinds
-- of errors included; the limit may be met where the tree is higher, and want of memory says nothing
abbrev pub MeansTree : Facts → LeafAnswers → ℕ → Tree → Result Value EvaluationError → Type 0
MeansTree facts holds depth t result =
    mentions_only (is_known_in holds) true t ≡ true →
    (request : Request) → IsHeldOf holds request →
    Gives (λ v. v) (depth < height t) result (meaning facts request t)
