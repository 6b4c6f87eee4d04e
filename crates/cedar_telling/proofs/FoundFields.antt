-- The walk over the entries of a question.
use Rattle.std.proofs.Common.{◌≡◌, ◌≢◌, Bool, true, false, ◌∷◌, refl, sym, ◌∙◌}
use Rattle.std.specs.Prelude.{codes}
use Rattle.std.specs.Option.{option_or}
use Rattle.std.specs.Cmp.Lexicographic.{same_text, texts_ties}
use Rattle.cedar_language.specs.Tree.{Tree}
use Rattle.cedar_language.specs.Uid.{Text}
use Rattle.cedar_world.specs.Orders.{text_eq}
use Rattle.cedar_world.specs.Bodies.{Fields, found, are_among, question_keys}
use Rattle.cedar_held.specs.Lent.{tree_in}
use Rattle.cedar_telling.specs.Questions.{key_spelled}
use Rattle.cedar_telling.specs.declared.questions.QuestionFields.{QuestionFields}
use Rattle.cedar_telling.specs.declared.questions.QuestionKey.{QuestionKey}
use Rattle.cedar_telling.specs.declared.questions.QuestionKey.TheVariants.{Principal, PrincipalType, Action, Resource, ResourceType, Context}

-- what stands beside each key was found already, or else stands among the fields to come
pub record FoundSoFar (fs rest : Fields) (q : QuestionFields) : Type 0 where
  pub principal : found (codes "principal") fs ≡ option_or (tree_in q.principal) (found (codes "principal") rest)
  pub principal_type : found (codes "principal_type") fs ≡ option_or (tree_in q.principal_type) (found (codes "principal_type") rest)
  pub action : found (codes "action") fs ≡ option_or (tree_in q.action) (found (codes "action") rest)
  pub resource : found (codes "resource") fs ≡ option_or (tree_in q.resource) (found (codes "resource") rest)
  pub resource_type : found (codes "resource_type") fs ≡ option_or (tree_in q.resource_type) (found (codes "resource_type") rest)
  pub context : found (codes "context") fs ≡ option_or (tree_in q.context) (found (codes "context") rest)

-- a key that differs from a question's is told apart from it
differs : (k key : Text) → (key ≡ k → ⊥) → text_eq k key ≡ false
differs k key n = by (text_eq k key) refl
  where
    by : (b : Bool) → text_eq k key ≡ b → b ≡ false
    by true e = absurd (n (sym (same_text k key (sym (texts_ties k key ∙ e)))))
    by false e = refl

-- where another key than a question's stands first, not all keys are a question's
pub another_key : (key : Text) (t : Tree) (rest : Fields) → ((asked : QuestionKey) → key ≢ key_spelled asked) → are_among question_keys ((key, t) ∷ rest) ≡ false
another_key key t rest other =
    rw (
      differs (codes "principal") key (other Principal),
      differs (codes "principal_type") key (other PrincipalType),
      differs (codes "action") key (other Action),
      differs (codes "resource") key (other Resource),
      differs (codes "resource_type") key (other ResourceType),
      differs (codes "context") key (other Context),
    ) refl
