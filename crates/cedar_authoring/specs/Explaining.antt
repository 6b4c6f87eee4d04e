-- What is told of a question: what a session answers, and how each policy stands.
use Rattle.std.specs.Prelude.{◌≡◌, ◌≢◌, ◌⊎◌, ℕ, List, [], ◌++◌, MatchOption, None, Option, Some}
use Rattle.cedar_language.specs.Answering.{Decision, Allow, Deny}
use Rattle.cedar_language.specs.Uid.{Text}
use Rattle.cedar_grammar.specs.Syntax.{PolicySyntax}
use Rattle.cedar_frames.specs.declared.verb.Verb.{Verb}
use Rattle.cedar_evaluator.specs.declared.partial_response.PartialResponse.{PartialResponse}
use Rattle.cedar_world.specs.Answer.{Answer}
use Rattle.cedar_world.specs.Commands.{Load, Put, Ask, Named, Done, Answered, Refused, Refusal, Memory}
use Rattle.cedar_world.specs.Lines.{answer_line}
use Rattle.cedar_world.specs.Setting.{Setting}
use Rattle.cedar_world.specs.Step.{Step}
use Rattle.cedar_world.specs.World.{World, new_world, Policies, in_force_at, template_at}
use Rattle.cedar_session.specs.Lending.{IsResponse}
use Rattle.cedar_refusals.specs.Checks.{TellsFaults, TellsPolicy}
use Rattle.cedar_authoring.specs.Names.{TellsNames}
use Rattle.cedar_refusals.specs.RefusedBodies.{TellsBody}
use Rattle.cedar_refusals.specs.Titles.{Titled, TellsNoText}
use Rattle.cedar_authoring.specs.Standing.{TellsStanding}
use Rattle.cedar_messages.specs.Telling.{TellsEach}

-- what a status says of what is decided
abbrev pub status_of : Option Decision → ℕ
status_of (Some Allow) = 0
status_of (Some Deny) = 2
status_of None = 3

-- a line tells of what is held, where it is a template
abbrev pub TellsTemplate : Text → Option PolicySyntax → Text → Text → Type 0
TellsTemplate name template id told = MatchOption template (told ≡ []) (λ _. TellsPolicy name id told)

-- of a policy in force is told how it stands, and of a template that it is one
abbrev pub TellsOne : Text → Policies → PartialResponse → Text → Text → Type 0
TellsOne name policies response id told =
    MatchOption (in_force_at policies id) (TellsTemplate name (template_at policies id) id told) (λ policy. TellsStanding name response id told)

abbrev pub TellsPolicies : Text → Policies → PartialResponse → List Text → Text → Type 0
TellsPolicies name policies response ids told = TellsEach (TellsOne name policies response) ids told

-- The line of an answer, then of each policy how it stands, as the session's response has it, and last what to tell.
pub record TellsAnswered (name : Text) (by : Setting) (asked : World) (ids : List Text) (answer : Answer) (told : Text) : Type 0 where
  pub response : PartialResponse
  pub responds : IsResponse by asked response
  pub lines : Text
  pub each : TellsPolicies name asked.policies response ids lines
  pub last : Text
  pub names : TellsNames asked.asked response last
  pub whole : told ≡ (answer_line answer ++ lines) ++ last

-- A session that was just made loads the policies, puts the entities and answers the question, and that is told.
pub record TellsExplained (by : Setting) (name policies entities question : Text) (status : ℕ) (told : Text) : Type 0 where
  pub ids : List Text
  pub loaded : World
  pub loads : Step by new_world Load policies (Named ids) loaded
  pub held : World
  pub puts : Step by loaded Put entities Done held
  pub answer : Answer
  pub asked : World
  pub asks : Step by held Ask question (Answered answer) asked
  pub tells : TellsAnswered name by asked ids answer told
  pub decides : status ≡ status_of answer.decision

-- ---- refusals

-- A command is refused, and not for memory, of which this holds.
abbrev pub Refuses : Setting → World → Verb → Text → (Refusal → Type 0) → Type 0
Refuses by old verb text Holds = (new : World) × (r : Refusal) × (r ≢ Memory) × Step by old verb text (Refused r) new × Holds r

-- A session that was just made refuses one of these texts, which it is given in their order, and that is told: of
-- policies as a check tells it.
pub data TellsRefusal (by : Setting) (policies entities question : Titled) (told : Text) : Type 0 where
  policies_refused : Refuses by new_world Load policies.text (λ r. TellsFaults by policies.name policies.text told)
      → TellsRefusal by policies entities question told
  entities_refused : (ids : List Text) (loaded : World) → Step by new_world Load policies.text (Named ids) loaded
      → Refuses by loaded Put entities.text (λ r. TellsBody by entities.name entities.text r told)
      → TellsRefusal by policies entities question told
  question_refused : (ids : List Text) (loaded held : World) → Step by new_world Load policies.text (Named ids) loaded
      → Step by loaded Put entities.text Done held
      → Refuses by held Ask question.text (λ r. TellsBody by question.name question.text r told)
      → TellsRefusal by policies entities question told

-- One of the three is no text, or a session refuses it, and that is told.
abbrev pub TellsUnexplained : Setting → Titled → Titled → Titled → Text → Type 0
TellsUnexplained by policies entities question told =
    (TellsNoText policies told ⊎ TellsNoText entities told ⊎ TellsNoText question told)
    ⊎ TellsRefusal by policies entities question told
