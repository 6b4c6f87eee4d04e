-- How the policies in force stand to a question so far, and the answer that says so.
use Rattle.std.specs.Prelude.{◌≡◌, ◌↔◌, ◌∷◌, Some, None, IsTrue, IsSome, List, All, Contains}
use Rattle.std.specs.FinMap as map
use Rattle.cedar_language.specs.Uid.{Text}
use Rattle.cedar_language.specs.Tree.{Tree}
use Rattle.cedar_language.specs.Value.{Kind, Outcome}
use Rattle.cedar_language.specs.Facts.{Facts}
use Rattle.cedar_language.specs.Answering.{Standing, Unsatisfied, Residual, Judged, decision, in_must, in_may, HasErred, IsOpenAnswer, ids_with}
use Rattle.cedar_language.specs.Authorization.{standing_of}
use Rattle.cedar_partial_evaluation.specs.Settling.{Settling, Open, settled_in}
use Rattle.cedar_partial_evaluation.specs.Question.{settled_of, held_of}
use Rattle.cedar_partial_evaluation.specs.Partial.{partial_in}
use Rattle.cedar_partial_evaluation.specs.Early.{standing_of_answer}
use Rattle.cedar_world.specs.Answer.{ids_of, has_id, Answer}
use Rattle.cedar_grammar.specs.Syntax.{PolicySyntax, condition}
use Rattle.cedar_world.specs.World.{World, in_force_at}
use Rattle.cedar_world.specs.Asking.{Question, Told}
use Rattle.cedar_world.specs.Setting.{Settles}
use Rattle.cedar_world.specs.Answers.{errors_of}

-- what is settled of a tree without slots once these values are told, kinds of errors aside
abbrev pub settled_so_far : Facts → Question → Told → Tree → Settling
settled_so_far facts q told t = settled_in facts (settled_of facts q (λ s. None) told) t

-- how a policy stands: it is still open, or as a result says to which its condition settles
pub data StandsSoFar (facts : Facts) (q : Question) (told : Told) (syntax : PolicySyntax) : Standing → Type 0 where
  still_open : settled_so_far facts q told (condition syntax) ≡ Open → StandsSoFar facts q told syntax Residual
  decided : {standing : Standing} (result : Outcome) → Settles facts q told (condition syntax) result → standing_of result ≡ standing → StandsSoFar facts q told syntax standing

-- the same by what an evaluation of the condition answers: it may know more than is settled
abbrev pub StandsEarly : Facts → Question → Told → PolicySyntax → Standing → Type 0
StandsEarly facts q told syntax standing = standing ≡ standing_of_answer (partial_in facts (held_of facts q (λ s. None) told) (condition syntax))

module _ (world : World) (Stands : PolicySyntax → Standing → Type 0) where
  -- a policy in force under its id, and how it stands
  pub record IsJudged (j : Judged) : Type 0 where
    pub syntax : PolicySyntax
    pub in_force : in_force_at world.policies j.id ≡ Some syntax
    pub effect : syntax.effect ≡ j.effect
    pub standing : Stands syntax j.standing

  -- just the policies in force, in any order
  pub record Judges (js : List Judged) : Type 0 where
    pub each : All IsJudged js
    pub every : (id : Text) → IsSome (in_force_at world.policies id) → (j : Judged) × Contains js j × (j.id ≡ id)

-- decision, must, may and erring are those that the rules give for policies that stand so
abbrev pub Says : List Judged → Answer → Type 0
Says js answer = IsOpenAnswer js answer.decision (λ id. IsTrue (has_id answer.must id)) (λ id. IsTrue (has_id answer.may id)) (λ id k. map.get answer.erring id ≡ Some k)

-- the answer that says so
abbrev pub answer_by : List Judged → Answer
answer_by js = record {
  decision = decision js;
  must = ids_of (ids_with (in_must js) js);
  may = ids_of (ids_with (in_may js) js);
  erring = map.from_entries (errors_of js);
}

-- no id errs with two kinds
abbrev pub ErrOnce : List Judged → Type 0
ErrOnce js = (id : Text) (k l : Kind) → HasErred js id k → HasErred js id l → k ≡ l

abbrev pub AnswersAreMade : Type 0
AnswersAreMade = (js : List Judged) → ErrOnce js → Says js (answer_by js)

-- a policy that is decided to be unsatisfied changes nothing of what is said
abbrev pub UnsatisfiedSayNothing : Type 0
UnsatisfiedSayNothing = (j : Judged) (js : List Judged) (answer : Answer) → j.standing ≡ Unsatisfied → Says (j ∷ js) answer ↔ Says js answer
