-- The request of a body that states a question, or why it has none.
use Rattle.std.specs.Prelude.{◌≡◌, ◌<◌, ⊤, ℕ, Bool, true, false, Option, Some, None, option_map, List, Result, Ok, Err}
use Rattle.std.specs.FinMap as map
use Rattle.cedar_language.specs.Height.{height}
use Rattle.cedar_language.specs.Restricted.{is_restricted}
use Rattle.cedar_language.specs.Tree.{MakeRecord, Tree, Apply, Trees}
use Rattle.cedar_language.specs.Uid.{Text}
use Rattle.cedar_trees.specs.Bare.{bare}
use Rattle.cedar_telling.specs.Questions.{Written, context_written}
use Rattle.cedar_world.specs.Asking.{Entries, Question}
use Rattle.cedar_grammar.specs.UnknownCalls.{holds_call}
use Rattle.cedar_world.specs.Bodies.{ask_body}
use Rattle.cedar_world.specs.Setting.{Setting}
use Rattle.cedar_world.specs.Values.{context_errs, holds_bad_unknown}
use Rattle.cedar_extensions.specs.Failures.{failure_of}
use Rattle.cedar_extensions.specs.Table.{Table}
use Rattle.cedar_held.specs.BodyRefusals.{refusal_by}
use Rattle.cedar_replies.specs.declared.refusal.Refusal.{Refusal}
use Rattle.cedar_replies.specs.declared.refusal.Refusal.TheVariants.{Depth, Shape, Evaluation, BadUnknown, Memory}
use Rattle.cedar_requests.specs.Contexts.{context_part}
use Rattle.cedar_requests.specs.Holding.{request_parts}
use Rattle.cedar_requests.specs.declared.contexts.Context.{Context}
use Rattle.cedar_requests.specs.declared.errors.ContextCreationError.{ContextCreationError}
use Rattle.cedar_requests.specs.declared.errors.ContextCreationError.TheVariants as creation
use Rattle.cedar_requests.specs.declared.requests.Request.{Request}
use Rattle.cedar_telling.specs.Contexts.{HasContext, MeansRecord}
use Rattle.cedar_telling.specs.Requests.{IsRequestOf}

-- ---- the context

-- a record of data
pub record IsDataRecord (t : Tree) : Type 0 where
  pub restricted : is_restricted t ≡ true
  pub names : List Text
  pub values : Trees
  pub is : t ≡ Apply (MakeRecord names) values

abbrev pub IsWrittenAsData : Written → Type 0
IsWrittenAsData None = ⊤
IsWrittenAsData (Some e) = IsDataRecord (bare e.now)

abbrev pub holds_call_in : Written → Bool
holds_call_in None = false
holds_call_in (Some e) = holds_call (bare e.now)

abbrev pub IsDeeper : ℕ → Written → Type 0
IsDeeper depth None = ⊥
IsDeeper depth (Some e) = depth < height (bare e.now)

module _ (by : Setting) (c : Entries) where
  -- nothing refuses the context, and this is what it was evaluated to
  pub record IsTakenAs (table : Table) (made : Option Context) : Type 0 where
    pub evaluated : HasContext table c (option_map context_part made)
    pub means : MeansRecord by c
    pub fine : context_errs by c map.empty ≡ false
    pub named : holds_bad_unknown c ≡ false

  -- it doesn't err, and calls `unknown` on what is no name, or on that of a variable
  pub record IsUnnamed : Type 0 where
    pub fine : context_errs by c map.empty ≡ false
    pub unnamed : holds_bad_unknown c ≡ true

-- the evaluation of a record failed so, or memory ran out; no record is refused otherwise
abbrev pub IsWhyNone : ContextCreationError → Refusal → Type 0
IsWhyNone (creation.Evaluation e) r = r ≡ refusal_by (failure_of e)
IsWhyNone (creation.Memory e) r = r ≡ Memory
IsWhyNone (creation.NotARecord e) r = ⊤
IsWhyNone (creation.ExpressionConstruction e) r = ⊤

-- what the context is evaluated to, or why it is refused
abbrev pub EvaluatesContext : Setting → Table → ℕ → Written → Result (Option Context) Refusal → Type 0
EvaluatesContext by table depth written (Ok made) = IsTakenAs by (context_written written) table made
EvaluatesContext by table depth written (Err Evaluation) = context_errs by (context_written written) map.empty ≡ true
EvaluatesContext by table depth written (Err BadUnknown) = IsUnnamed by (context_written written)
EvaluatesContext by table depth written (Err Depth) = IsDeeper depth written
EvaluatesContext by table depth written (Err Memory) = ⊤
EvaluatesContext by table depth written (Err r) = ⊥

-- ---- the request

module _ (by : Setting) (table : Table) (depth : ℕ) (tree : Tree) where
  -- the body states a question of which this holds
  abbrev pub States : (Question → Type 0) → Type 0
  States Holds = (q : Question) × (ask_body tree ≡ Some q) × Holds q

  -- the question is asked by this request, and nothing refuses it
  pub record IsAskedBy (request : Request) (q : Question) : Type 0 where
    pub is_request : IsRequestOf by table q (request_parts request)
    pub fine : context_errs by q.context map.empty ≡ false
    pub named : holds_bad_unknown q.context ≡ false

  abbrev pub AsksBody : Result Request Refusal → Type 0
  AsksBody (Ok request) = States (IsAskedBy request)
  AsksBody (Err Shape) = ask_body tree ≡ None
  AsksBody (Err Evaluation) = States (λ q. context_errs by q.context map.empty ≡ true)
  AsksBody (Err BadUnknown) = States (λ q. IsUnnamed by q.context)
  AsksBody (Err Depth) = depth < height tree
  AsksBody (Err Memory) = ⊤
  AsksBody (Err r) = ⊥
