-- Why an entity isn't made.
use Rattle.std.specs.Prelude.{◌≡◌, ⊤, ℕ, Bool, true, false, Err, ◌∷◌, ◌++◌}
use Rattle.std.specs.List.{AllByRecursion}
use Rattle.std.specs.Rc.{rc_str_bytes}
use Rattle.cedar_language.specs.Uid.{Text, Uid}
use Rattle.cedar_language.specs.Tree.{Tree}
use Rattle.cedar_extensions.specs.declared.evaluation_error.EvaluationError.{EvaluationError}
use Rattle.cedar_extensions.specs.Table.{Table}
use Rattle.cedar_restricted_evaluation.specs.Evaluations.{MeansKnown, Answers}
use Rattle.cedar_entities.specs.Attributes.{Attribute}
use Rattle.cedar_entity_evaluation.specs.Evaluated.{Expressions, IsGiven}
use Rattle.cedar_entity_evaluation.specs.declared.evaluation_errors.EntityAttrEvaluationError.{EntityAttrEvaluationError}
use Rattle.cedar_entity_evaluation.specs.declared.evaluation_errors.EntityCreationError.{EntityCreationError}
use Rattle.cedar_entity_evaluation.specs.declared.evaluation_errors.EntityCreationError.TheVariants.{Evaluation, Memory}

-- an evaluation of the tree may err so
pub record IsError (table : Table) (depth : ℕ) (t : Tree) (e : EvaluationError) : Type 0 where
  pub meant : MeansKnown table depth t (Err e)
  pub answer : Answers table depth t (Err e)

-- the tree gives something
abbrev pub HasValue : Table → Tree → Type 0
HasValue table t = (a : Attribute) × IsGiven table t a

abbrev pub HaveValues : Table → Expressions → Type 0
HaveValues table es = AllByRecursion (λ e. HasValue table e.1) es

-- the first expression that gives nothing is that of this name, and it errs so
pub record IsFirstRefused (table : Table) (depth : ℕ) (es : Expressions) (name : Text) (e : EvaluationError) : Type 0 where
  pub before : Expressions
  pub tree : Tree
  pub behind : Expressions
  pub listed : es ≡ before ++ (name, tree) ∷ behind
  pub others : HaveValues table before
  pub errs : IsError table depth tree e

-- of what has no value this holds; want of memory says nothing
abbrev pub IfNoValue : EntityCreationError → (EntityAttrEvaluationError → Type 0) → Type 0
IfNoValue (Evaluation e) P = P e
IfNoValue (Memory e) P = ⊤

-- an attribute is refused, or a tag where all attributes have values
abbrev pub IsRefusedAmong : Bool → Table → ℕ → Expressions → Expressions → Text → EvaluationError → Type 0
IsRefusedAmong true table depth attributes tags name e = IsFirstRefused table depth attributes name e
IsRefusedAmong false table depth attributes tags name e = HaveValues table attributes × IsFirstRefused table depth tags name e

abbrev pub IsCreationRefusal : Table → ℕ → Uid → Expressions → Expressions → EntityCreationError → Type 0
IsCreationRefusal table depth uid attributes tags refusal =
    IfNoValue refusal (λ e. (e.uid ≡ uid) × IsRefusedAmong e.was_attr table depth attributes tags (rc_str_bytes e.attr_or_tag) e.err)
