-- What an evaluator holds: of the request, and of the entities and functions besides.
use Rattle.std.specs.Prelude.{◌≡◌, ◌<◌, ◌≤◌, ℕ, Bool, true, false, Option, Some, None, List}
use Rattle.std.specs.BTreeMap.{BTreeMap}
use Rattle.std.specs.Borrow.{Bor}
use Rattle.std.specs.Map.{lookup}
use Rattle.std.specs.Rc.{rc_str_bytes}
use Rattle.std.specs.Str.{bytes_eq}
use Rattle.std.specs.declared.alloc.Global.{Global}
use Rattle.std.specs.declared.rc.RcStr.{RcStr}
use Rattle.cedar_language.specs.Uid.{Text, Uid}
use Rattle.cedar_language.specs.Tree.{Variable, Principal, Action, Resource, Context, Tree}
use Rattle.cedar_language.specs.Value.{Value}
use Rattle.cedar_language.specs.Facts.{Facts}
use Rattle.cedar_language.specs.Meaning.{slot_outcome}
use Rattle.cedar_partial_evaluation.specs.Partial.{Answer, Evaluated, answer_of, LeafAnswers}
use Rattle.cedar_partial_evaluation.specs.Question.{name_held}
use Rattle.cedar_partial_evaluation.specs.ReadUnknowns.{read_unknowns, calls_unknown}
use Rattle.cedar_grammar.specs.Build.{trees}
use Rattle.cedar_policy_parts.specs.Bindings.{Bindings, binding_of}
use Rattle.cedar_operators.specs.Store.{HasFacts}
use Rattle.cedar_restricted.specs.PartialValues.{partial_of}
use Rattle.cedar_restricted.specs.declared.partial_values.PartialValue.{PartialValue}
use Rattle.cedar_extensions.specs.Answering.{FunctionAnswers}
use Rattle.cedar_extensions.specs.Table.{as_table}
use Rattle.cedar_restricted_evaluation.specs.Evaluations.{part_answer}
use Rattle.cedar_interpreter.specs.Depths.{evaluation_depth}
use Rattle.cedar_interpreter.specs.Naming.{naming_depth, naming_depths, IsPlain}
use Rattle.cedar_interpreter.specs.Operating.{HasFunctions, NamesNothing}
use Rattle.cedar_interpreter.specs.Seen.{uid_standing}
use Rattle.cedar_interpreter.specs.declared.evaluator.Variables.{Variables}
use Rattle.cedar_interpreter.specs.declared.evaluator.Evaluator.{Evaluator}

abbrev pub variable_in : Variables → Variable → PartialValue
variable_in vs Principal = vs.principal.part
variable_in vs Action = vs.action.part
variable_in vs Resource = vs.resource.part
variable_in vs Context = vs.context

abbrev pub variable_held : {F : Type 0} → Evaluator F → Variable → Answer
variable_held ev v = part_answer (partial_of (variable_in ev.variables v))

-- the entity that stands for a variable; for the context none does
abbrev pub entity_held : {F : Type 0} → Evaluator F → Variable → Option Uid
entity_held ev Principal = uid_standing (partial_of ev.variables.principal.part)
entity_held ev Action = uid_standing (partial_of ev.variables.action.part)
entity_held ev Resource = uid_standing (partial_of ev.variables.resource.part)
entity_held ev Context = None

-- no evaluation nests deeper
abbrev pub depth_of : {F : Type 0} → Evaluator F → ℕ
depth_of ev = ev.depth

-- the value that is told for an unknown of this name
abbrev pub value_told : Option (Bor (BTreeMap (RcStr Global) Value)) → Text → Option Value
value_told None n = None
value_told (Some told) n = lookup (λ k. bytes_eq n (rc_str_bytes k)) told.now.entries

-- what stands for variables, unknowns and slots; a told value of another type than the one that an unknown states is a TypeError
abbrev pub held_by : {F : Type 0} → Evaluator F → Bindings → LeafAnswers
held_by ev slots = record {
  variable = variable_held ev;
  unknown = λ n ty. name_held (value_told ev.told n) n ty;
  slot = λ s. answer_of (slot_outcome (binding_of slots s));
}

-- these are the answers to unknowns without a type, by what is told
abbrev pub AreTold : Option (Bor (BTreeMap (RcStr Global) Value)) → LeafAnswers → Type 0
AreTold told holds = (n : Text) → holds.unknown n None ≡ name_held (value_told told n) n None

-- the facts are those of what is held, and no call in the tree names an unknown
pub record Serves {F : Type 0} (answers : F → FunctionAnswers) (ev : Evaluator F) (facts : Facts) (t : Tree) : Type 0 where
  pub entities : HasFacts ev.entities.now facts
  pub functions : HasFunctions (as_table answers ev.extensions.now) facts
  pub names_nothing : NamesNothing (as_table answers ev.extensions.now) t

-- the variable has a value
abbrev pub is_evaluated : Answer → Bool
is_evaluated (Evaluated v) = true
is_evaluated _ = false

abbrev pub is_held : {F : Type 0} → Evaluator F → Variable → Bool
is_held ev v = is_evaluated (variable_held ev v)

-- with its slots bound so, the evaluation of a tree nests deeper than the limit
abbrev pub Deep : {F : Type 0} → (F → FunctionAnswers) → Evaluator F → Bindings → ℕ → Tree → Type 0
Deep answers ev slots depth t = (facts : Facts) → Serves answers ev facts t → depth < evaluation_depth facts (held_by ev slots) t

-- ---- trees that call `unknown`

-- the facts are those of what is held
pub record Knows {F : Type 0} (answers : F → FunctionAnswers) (ev : Evaluator F) (facts : Facts) : Type 0 where
  pub entities : HasFacts ev.entities.now facts
  pub functions : HasFunctions (as_table answers ev.extensions.now) facts

-- the table has the function by which an unknown is named
abbrev pub is_naming : {F : Type 0} → (F → FunctionAnswers) → Evaluator F → Bool
is_naming answers ev = (as_table answers ev.extensions.now).has_unknown

-- the facts are those of what is held, and each call of that function in the tree is on one string literal; none stands in what is
-- left of a variable
pub record ServesRead {F : Type 0} (answers : F → FunctionAnswers) (ev : Evaluator F) (facts : Facts) (t : Tree) : Type 0 where
  pub knows : Knows answers ev facts
  pub naming : is_naming answers ev ≡ true
  pub written : calls_unknown (read_unknowns t) ≡ false
  pub variables : (v : Variable) → IsPlain (variable_held ev v)

-- with its slots bound so, the evaluation of a tree nests deeper than the limit, whatever calls in it may name
abbrev pub NestsBeyond : {F : Type 0} → (F → FunctionAnswers) → Evaluator F → Bindings → ℕ → Tree → Type 0
NestsBeyond answers ev slots depth t = (facts : Facts) → Knows answers ev facts → depth < naming_depth (is_naming answers ev) facts (held_by ev slots) t

-- the same of one among these
abbrev pub SomeNestsBeyond : {F : Type 0} → (F → FunctionAnswers) → Evaluator F → Bindings → ℕ → List Tree → Type 0
SomeNestsBeyond answers ev slots depth ts = (facts : Facts) → Knows answers ev facts → depth < naming_depths (is_naming answers ev) facts (held_by ev slots) (trees ts)

-- the evaluation of the tree with unknowns in the places of such calls nests as deep as the limit: a call is a level above its text
abbrev pub IsDeepRead : {F : Type 0} → (F → FunctionAnswers) → Evaluator F → Bindings → ℕ → Tree → Type 0
IsDeepRead answers ev slots depth t = (facts : Facts) → ServesRead answers ev facts t → depth ≤ evaluation_depth facts (held_by ev slots) (read_unknowns t)
