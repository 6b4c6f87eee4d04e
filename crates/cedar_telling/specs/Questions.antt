-- The body of a question, as the world has it.
use Rattle.std.specs.Prelude.{◌≡◌, ⊤, Option, Some, None, option_map, List, codes}
use Rattle.std.specs.Option.{unwrap_or}
use Rattle.std.specs.Borrow.{Bor}
use Rattle.cedar_language.specs.Tree.{MakeRecord, Tree, Apply, Trees}
use Rattle.cedar_language.specs.Uid.{Text}
use Rattle.cedar_trees.specs.Bare.{bare}
use Rattle.cedar_trees.specs.declared.expr.Expr.{Expr}
use Rattle.cedar_requests.specs.Parts.{part_of}
use Rattle.cedar_world.specs.Asking.{Question, Entries, NoContext}
use Rattle.cedar_world.specs.Bodies.{Fields, fields_of, found, entries_of}
use Rattle.cedar_telling.specs.declared.questions.AskBody.{AskBody}
use Rattle.cedar_telling.specs.declared.questions.QuestionFields.{QuestionFields}
use Rattle.cedar_telling.specs.declared.questions.QuestionKey.{QuestionKey}
use Rattle.cedar_telling.specs.declared.questions.QuestionKey.TheVariants.{Principal, PrincipalType, Action, Resource, ResourceType, Context}
use Rattle.cedar_held.specs.Lent.{tree_in}

-- the context that a record is; a call that names an unknown is that unknown
abbrev pub given_context : Bor (Expr (Unit {0})) → Entries
given_context e = unwrap_or (entries_of (bare e.now)) NoContext

-- what a body has for its context, where it has one
abbrev pub Written : Type 0
Written = Option (Bor (Expr (Unit {0})))

abbrev pub context_written : Written → Entries
context_written written = unwrap_or (option_map given_context written) NoContext

abbrev pub question_of : AskBody → Question
question_of b = record {
  principal = part_of b.principal;
  action = part_of b.action;
  resource = part_of b.resource;
  context = context_written b.context;
}

-- how the key is spelled
abbrev pub key_spelled : QuestionKey → Text
key_spelled Principal = codes "principal"
key_spelled PrincipalType = codes "principal_type"
key_spelled Action = codes "action"
key_spelled Resource = codes "resource"
key_spelled ResourceType = codes "resource_type"
key_spelled Context = codes "context"

-- in each field is lent what stands beside its key
pub record LendsEach (fs : Fields) (q : QuestionFields) : Type 0 where
  pub principal : tree_in q.principal ≡ found (codes "principal") fs
  pub principal_type : tree_in q.principal_type ≡ found (codes "principal_type") fs
  pub action : tree_in q.action ≡ found (codes "action") fs
  pub resource : tree_in q.resource ≡ found (codes "resource") fs
  pub resource_type : tree_in q.resource_type ≡ found (codes "resource_type") fs
  pub context : tree_in q.context ≡ found (codes "context") fs

-- c is t, which is a record
pub record IsRecordOf (t c : Tree) : Type 0 where
  pub same : c ≡ t
  pub names : List Text
  pub values : Trees
  pub is : c ≡ Apply (MakeRecord names) values

-- what is lent for the context is the record that stands there
pub record StandsAt (fs : Fields) (c : Tree) : Type 0 where
  pub stands : found (codes "context") fs ≡ Some c
  pub names : List Text
  pub values : Trees
  pub is : c ≡ Apply (MakeRecord names) values

abbrev pub LendsFrom : Fields → Written → Type 0
LendsFrom fs None = ⊤
LendsFrom fs (Some e) = StandsAt fs (bare e.now)

-- the same of the record that a body is
pub record LendsContext (t : Tree) (lent : Written) : Type 0 where
  pub entries : Fields
  pub are : fields_of t ≡ Some entries
  pub from : LendsFrom entries lent
