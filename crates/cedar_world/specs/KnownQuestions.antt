-- What a question in which nothing is unknown is answered, after any commands: by what the conditions of the policies in force mean.
-- (Cedar language reference, "Authorization".)
use Rattle.std.specs.Prelude.{◌≡◌, ◌↔◌, ◌⊎◌, true, Some, None, IsTrue, List}
use Rattle.std.specs.FinMap as map
use Rattle.cedar_language.specs.Uid.{Text}
use Rattle.cedar_language.specs.Tree.{Boolean, MakeRecord, Tree, Apply, Trees}
use Rattle.cedar_language.specs.Value.{Plain, Kind, Gives}
use Rattle.cedar_language.specs.Facts.{Facts}
use Rattle.cedar_language.specs.Meaning.{meaning}
use Rattle.cedar_language.specs.Answering.{Effect, Permit, Forbid, Allow, Deny, Erring}
use Rattle.cedar_language.specs.Authorization.{Known, request_at, standing_of}
use Rattle.cedar_grammar.specs.Syntax.{PolicySyntax, condition}
use Rattle.cedar_world.specs.Answer.{Answer, has_id}
use Rattle.cedar_world.specs.Asking.{Given, WithEntries, Question}
use Rattle.cedar_world.specs.World.{World, Policies, AreFacts, in_force_at, new_world}
use Rattle.cedar_world.specs.Question.{IsKnown}
use Rattle.cedar_world.specs.Bodies.{ask_body}
use Rattle.cedar_world.specs.Setting.{Setting, IsBody}
use Rattle.cedar_world.specs.Commands.{Ask, Reply, Answered}
use Rattle.cedar_world.specs.Step.{Step}
use Rattle.cedar_world.specs.Session.{Command, Answers, IsReached}
use Rattle.cedar_world.specs.RunText.{FrameStep}
use Rattle.cedar_world.specs.RunLaws.{AnswersFrames}

module _ (facts : Facts) (request : Known) where
  -- the question is this request: each part is given, and the context, in which no unknown stands, means that of the request
  pub record Asks (q : Question) : Type 0 where
    pub principal : q.principal ≡ Given request.principal
    pub action : q.action ≡ Given request.action
    pub resource : q.resource ≡ Given request.resource
    pub keys : List Text
    pub entries : Trees
    pub context : q.context ≡ WithEntries keys entries
    pub means : meaning facts (request_at request (λ s. None)) (Apply (MakeRecord keys) entries) ≡ Gives request.context

  module _ (policies : Policies) where
    -- a policy of this effect is in force under this id, and its condition means true
    abbrev pub IsSatisfied : Effect → Text → Type 0
    IsSatisfied effect id =
        (s : PolicySyntax) × (in_force_at policies id ≡ Some s) × (s.effect ≡ effect)
        × (meaning facts (request_at request (λ s. None)) (condition s) ≡ Gives (Plain (Boolean true)))

    abbrev pub SomeSatisfied : Effect → Type 0
    SomeSatisfied effect = (id : Text) × IsSatisfied effect id

    -- one is in force under this id, and its condition means an error of this kind; a value that isn't Boolean is a TypeError
    abbrev pub Errs : Text → Kind → Type 0
    Errs id k = (s : PolicySyntax) × (in_force_at policies id ≡ Some s) × (standing_of (meaning facts (request_at request (λ s. None)) (condition s)) ≡ Erring k)

    -- A satisfied forbid denies, and else a satisfied permit allows. The reasons are the satisfied policies of the effect that decides, and
    -- a policy that errs is named with the kind of its error.
    pub record AnswersByMeaning (answer : Answer) : Type 0 where
      pub allows : (answer.decision ≡ Some Allow) ↔ (SomeSatisfied Permit × (SomeSatisfied Forbid → ⊥))
      pub denies : (answer.decision ≡ Some Deny) ↔ (SomeSatisfied Forbid ⊎ (SomeSatisfied Permit → ⊥))
      pub reasons : (id : Text) → IsTrue (has_id answer.must id)
          ↔ (((answer.decision ≡ Some Allow) × IsSatisfied Permit id) ⊎ ((answer.decision ≡ Some Deny) × IsSatisfied Forbid id))
      pub no_other : answer.may ≡ answer.must
      pub erring : (id : Text) (k : Kind) → (map.get answer.erring id ≡ Some k) ↔ Errs id k

-- the body asks a question, in which nothing is unknown, and its answer is that of the world's policies
abbrev pub IsAnsweredByMeaning : Setting → World → Text → Answer → Type 0
IsAnsweredByMeaning by world text answer =
    (tree : Tree) (q : Question) → IsBody by text tree → ask_body tree ≡ Some q → IsKnown q
    → (facts : Facts) × (request : Known) × AreFacts by.functions world.entities facts × Asks facts request q × AnswersByMeaning facts request world.policies answer

-- Whatever commands were answered before, the world holds what they led to, and such a question is answered so; and so it is in a run.
pub record KnownQuestionsAreAnswered : Type 0 where
  pub after_commands : (by : Setting) (commands : List Command) (replies : List Reply) (world new : World) (text : Text) (answer : Answer)
      → Answers by new_world commands replies world → Step by world Ask text (Answered answer) new
      → IsReached by commands replies world × IsAnsweredByMeaning by world text answer
  pub in_runs : (by : Setting) (commands : List Command) (replies : List Reply) (world new : World) (text : Text) (answer : Answer)
      → AnswersFrames by new_world commands replies world → FrameStep by world Ask text (Answered answer) new
      → IsReached by commands replies world × IsAnsweredByMeaning by world text answer
