-- An evaluator holds what it is asked for.
use Rattle.std.proofs.Common.{◌≡◌, ◌∙◌, ℕ, ap, sym, subst, Bor, Global}
use Rattle.std.specs.Prelude.{Option, Some, None}
use Rattle.std.specs.BTreeMap.{BTreeMap}
use Rattle.std.specs.declared.rc.RcStr.{RcStr}
use Rattle.cedar_language.specs.Uid.{Text}
use Rattle.cedar_language.specs.Tree.{Variable, Principal, Action, Resource, Context}
use Rattle.cedar_language.specs.Value.{Value}
use Rattle.cedar_partial_evaluation.specs.Partial.{Answer, LeafAnswers}
use Rattle.cedar_policy_parts.specs.Bindings.{Bindings}
use Rattle.cedar_entities.specs.declared.store.Entities.{Entities}
use Rattle.cedar_extensions.specs.Answering.{FunctionAnswers}
use Rattle.cedar_extensions.specs.Table.{Table, as_table}
use Rattle.cedar_operators.specs.Store.{HasFacts}
use Rattle.cedar_restricted.specs.PartialValues.{partial_of}
use Rattle.cedar_restricted.specs.declared.partial_values.PartialValue.{PartialValue}
use Rattle.cedar_restricted_evaluation.specs.Evaluations.{part_answer}
use Rattle.cedar_interpreter.specs.Asking.{answer_asked, nothing_told, leaves_held, StandFor, AnswersFor}
use Rattle.cedar_interpreter.specs.Holding.{variable_held, value_told, held_by, depth_of}
use Rattle.cedar_interpreter.specs.Naming.{IsPlain}
use Rattle.cedar_interpreter.specs.Operating.{HasFunctions, NamesNothing}
use Rattle.cedar_interpreter.specs.Seen.{AreSeen}
use Rattle.cedar_interpreter.specs.declared.asking.AskedVariables.{AskedVariables}
use Rattle.cedar_interpreter.specs.declared.evaluator.Evaluator.{Evaluator}

module _ {F : Type 0} (asked : AskedVariables) (ev : Evaluator F) (stand : StandFor asked ev.variables) (nothing : ev.told ≡ None) where
  as_answer : (p q : PartialValue) → p ≡ q → part_answer (partial_of p) ≡ part_answer (partial_of q)
  as_answer p q is = ap (λ r. part_answer (partial_of r)) is

  of_variable : (v : Variable) → variable_held ev v ≡ answer_asked asked v
  of_variable Principal = as_answer ev.variables.principal.part asked.principal stand.principal
  of_variable Action = as_answer ev.variables.action.part asked.action stand.action
  of_variable Resource = as_answer ev.variables.resource.part asked.resource stand.resource
  of_variable Context = as_answer ev.variables.context asked.context stand.context

  pub holds_asked : (slots : Bindings) → held_by ev slots ≡ leaves_held (answer_asked asked) nothing_told slots
  holds_asked slots =
      let same : variable_held ev ≡ answer_asked asked = λ i v. of_variable v i in
      ap (λ (f : Variable → Answer). leaves_held f (value_told ev.told) slots) same
      ∙ ap (λ told. leaves_held (answer_asked asked) (value_told told) slots) nothing

pub answers_for : {F : Type 0} (answers : F → FunctionAnswers) (asked : AskedVariables) (entities : Entities) (table : Table) (depth : ℕ) (ev : Evaluator F) →
    StandFor asked ev.variables → ev.told ≡ None → ev.entities.now ≡ entities → as_table answers ev.extensions.now ≡ table → depth_of ev ≡ depth → AnswersFor answers (answer_asked asked) nothing_told entities table depth ev
answers_for answers asked entities table depth ev stand nothing es ts ds = record {
  store = es;
  functions = ts;
  holds = holds_asked asked ev stand nothing;
  serves = λ facts t has functions names. record {
    entities = subst (λ e. HasFacts e facts) (sym es) has;
    functions = subst (λ x. HasFunctions x facts) (sym ts) functions;
    names_nothing = subst (λ x. NamesNothing x t) (sym ts) names;
  };
  reads = λ facts t has functions naming written plain. record {
    knows = record { entities = subst (λ e. HasFacts e facts) (sym es) has; functions = subst (λ x. HasFunctions x facts) (sym ts) functions };
    naming = ap (λ (x : Table). x.has_unknown) ts ∙ naming;
    written = written;
    variables = λ v. subst IsPlain (sym (of_variable asked ev stand nothing v)) (plain v);
  };
  limit = ds;
}

-- the same evaluator, that is told values
abbrev pub telling : {F : Type 0} (ev : Evaluator F) → Bor (BTreeMap (RcStr Global) Value) → AreSeen ev.entities.now ev.variables → Evaluator F
telling ev told seen = record { variables = ev.variables; entities = ev.entities; extensions = ev.extensions; depth = ev.depth; told = Some told; are_seen = seen }

pub is_told : {F : Type 0} (answers : F → FunctionAnswers) (variables : Variable → Answer) (before : Text → Option Value) (entities : Entities) (table : Table) (depth : ℕ) (ev : Evaluator F) (told : Bor (BTreeMap (RcStr Global) Value)) (seen : AreSeen ev.entities.now ev.variables) →
    AnswersFor answers variables before entities table depth ev → AnswersFor answers variables (value_told (Some told)) entities table depth (telling ev told seen)
is_told answers variables before entities table depth ev told seen is = record {
  store = is.store;
  functions = is.functions;
  holds = λ slots. ap (λ (h : LeafAnswers). leaves_held h.variable (value_told (Some told)) slots) (is.holds slots);
  serves = λ facts t has functions names.
      let s = is.serves facts t has functions names in
      record { entities = s.entities; functions = s.functions; names_nothing = s.names_nothing };
  reads = λ facts t has functions naming written plain.
      let s = is.reads facts t has functions naming written plain in
      record { knows = record { entities = s.knows.entities; functions = s.knows.functions }; naming = s.naming; written = s.written; variables = s.variables };
  limit = is.limit;
}
