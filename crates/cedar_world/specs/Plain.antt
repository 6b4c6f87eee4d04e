-- The answer where scopes alone decide: policies have neither slots nor clauses, and no context is given or it is `{}`.
use Rattle.std.specs.Prelude.{◌≡◌, ◌⊎◌, Bool, false, Some, None, List, [], map}
use Rattle.std.specs.FinMap as finite
use Rattle.cedar_language.specs.Uid.{Text, Uid}
use Rattle.cedar_language.specs.Tree.{no_trees}
use Rattle.cedar_language.specs.Order.{same_uid}
use Rattle.cedar_language.specs.Facts.{Facts}
use Rattle.cedar_language.specs.Operators.{is_within}
use Rattle.cedar_language.specs.Answering.{Judged}
use Rattle.cedar_world.specs.Answer.{Answer}
use Rattle.cedar_grammar.specs.Syntax.{PolicySyntax, is_template}
use Rattle.cedar_world.specs.World.{World, in_force_at}
use Rattle.cedar_world.specs.Asking.{Entries, NoContext, WithEntries, Question}
use Rattle.cedar_world.specs.Setting.{Setting}
use Rattle.cedar_world.specs.Step.{IsFirstAnswer}
use Rattle.cedar_world.specs.WorldFacts.{AreFactsOf}
use Rattle.cedar_world.specs.First.{IsData, HasRequest}
use Rattle.cedar_world.specs.InForce.{AreInForce}
use Rattle.cedar_world.specs.Standing.{Says, answer_by}
use Rattle.cedar_world.specs.Scope.{scope_known, standing_met}

-- each policy in force has neither slots nor clauses
pub record HasScopesAlone (world : World) : Type 0 where
  pub slots : (id : Text) (s : PolicySyntax) → in_force_at world.policies id ≡ Some s → is_template s ≡ false
  pub bodies : (id : Text) (s : PolicySyntax) → in_force_at world.policies id ≡ Some s → s.body ≡ None

abbrev pub HasNoEntries : Entries → Type 0
HasNoEntries context = (context ≡ NoContext) ⊎ (context ≡ WithEntries [] no_trees)

-- how the scope of a policy stands to a question
abbrev pub judged_by_scope : (Uid → Uid → Bool) → Question → Text × PolicySyntax → Judged
judged_by_scope is_in q p = record { id = p.0; effect = p.1.effect; standing = standing_met (scope_known is_in p.1 q) }

module _ (by : Setting) (world : World) (q : Question) (ps : List (Text × PolicySyntax)) where
  -- what the rules say of the policies, by their scopes, is a first answer
  abbrev pub AnswersByScope : (Uid → Uid → Bool) → Type 0
  AnswersByScope is_in = (answer : Answer) → Says (map (judged_by_scope is_in q) ps) answer → IsFirstAnswer by world q answer

pub record ScopesAnswer : Type 0 where
  -- a context without entries is data, and means a value where the question is known
  pub data_alone : (c : Entries) → HasNoEntries c → IsData c
  pub request : (by : Setting) (q : Question) → HasNoEntries q.context → HasRequest by q
  pub with_entities : (by : Setting) (world : World) (facts : Facts) (q : Question) (ps : List (Text × PolicySyntax))
      → AreFactsOf by world facts → HasScopesAlone world → HasNoEntries q.context → AreInForce world ps → AnswersByScope by world q ps (is_within facts)
  -- where no entity is held, `in` is equality
  pub without_entities : (by : Setting) (world : World) (q : Question) (ps : List (Text × PolicySyntax))
      → world.entities ≡ finite.empty → HasScopesAlone world → HasNoEntries q.context → AreInForce world ps → AnswersByScope by world q ps same_uid
  -- there is an answer that says so
  pub made : (is_in : Uid → Uid → Bool) (q : Question) (ps : List (Text × PolicySyntax)) → Says (map (judged_by_scope is_in q) ps) (answer_by (map (judged_by_scope is_in q) ps))
