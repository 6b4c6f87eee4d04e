-- Contexts as bodies write them, and what is held of a question whose context was evaluated.
use Rattle.std.specs.Prelude.{◌≡◌, true, false, Option, Some, None, List}
use Rattle.std.specs.FinMap as map
use Rattle.either.specs.declared.Either.{Either}
use Rattle.cedar_language.specs.Facts.{Facts}
use Rattle.cedar_language.specs.Restricted.{are_restricted}
use Rattle.cedar_language.specs.Tree.{MakeRecord, Tree, Apply, Trees}
use Rattle.cedar_language.specs.Uid.{Text}
use Rattle.cedar_language.specs.Value.{Value, Gives}
use Rattle.cedar_world.specs.Asking.{Entries, NoContext, WithEntries, Question}
use Rattle.cedar_grammar.specs.UnknownCalls.{all_named, hold_call}
use Rattle.cedar_world.specs.Bodies.{some_name_of}
use Rattle.cedar_world.specs.Setting.{Setting, value_of}
use Rattle.cedar_extensions.specs.Table.{Table}
use Rattle.cedar_restricted_evaluation.specs.Evaluations.{HasFunctions, answer_in, part_answer}
use Rattle.cedar_requests.specs.Holding.{RequestParts}
use Rattle.cedar_telling.specs.Requests.{IsRequestOf}

-- what a context without names means
abbrev pub MeansRecord : Setting → Entries → Type 0
MeansRecord by NoContext = Unit {0}
MeansRecord by (WithEntries ks ts) = some_name_of (λ n. true) ts ≡ false → (w : Value) × (value_of by.functions map.empty (Apply (MakeRecord ks) ts) ≡ Gives w)

-- This is what a record of data, as a body writes it, is evaluated to. Each name is written, and `unknown` isn't called where
-- the table lacks it.
pub record IsEvaluatedTo (table : Table) (ks : List Text) (ts : Trees) (p : Either Value Tree) : Type 0 where
  pub restricted : are_restricted ts ≡ true
  pub uncalled : table.has_unknown ≡ false → hold_call ts ≡ false
  pub written : hold_call (all_named ts) ≡ false
  pub answers : (facts : Facts) → HasFunctions table facts → answer_in table facts (Apply (MakeRecord ks) ts) ≡ part_answer p

-- the question's context is the one written, and the request's what it was evaluated to; or neither has one
pub data HasContext (table : Table) : Entries → Option (Either Value Tree) → Type 0 where
  neither_given : HasContext table NoContext None
  both_given : {ks : List Text} {ts : Trees} {p : Either Value Tree} → IsEvaluatedTo table ks ts p → HasContext table (WithEntries ks (all_named ts)) (Some p)

-- a request with the question's parts, and what its context was evaluated to, is one of the question
abbrev pub QuestionsAreAsked : Type 0
QuestionsAreAsked =
    (by : Setting) (table : Table) (q : Question) (r : RequestParts)
    → r.principal ≡ q.principal → r.action ≡ q.action → r.resource ≡ q.resource → HasContext table q.context r.context → MeansRecord by q.context
    → IsRequestOf by table q r
