-- What is told of a question of a script, by the world that the commands before it reach.
use Rattle.std.specs.Prelude.{◌≡◌, ◌≢◌, ◌⊎◌, ℕ, Bool, true, false, List, [], ◌∷◌, ◌++◌, is_some, map, string_bytes}
use Rattle.std.specs.FinMap as finite
use Rattle.std.specs.List.{Contains, list_any}
use Rattle.std.specs.declared.alloc.Global.{Global}
use Rattle.std.specs.declared.rc.RcStr.{RcStr}
use Rattle.cedar_language.specs.Order.{same_text}
use Rattle.cedar_language.specs.Uid.{Text}
use Rattle.cedar_language.specs.Value.{Value}
use Rattle.cedar_frames.specs.declared.verb.Verb.{Verb}
use Rattle.cedar_entities.specs.declared.store.Entities.{Entities as Store}
use Rattle.cedar_evaluator.specs.Holding.{error_seen}
use Rattle.cedar_evaluator.specs.Reauthorizing.{IsReauthorized}
use Rattle.cedar_evaluator.specs.declared.partial_response.PartialResponse.{PartialResponse}
use Rattle.cedar_extensions.specs.Table.{Table}
use Rattle.cedar_session.specs.Lending.{IsResponse}
use Rattle.cedar_world.specs.Answer.{Answer}
use Rattle.cedar_world.specs.Commands.{Ask, Tell, Answered, Refused, Refusal, Reply, Memory}
use Rattle.cedar_world.specs.Lines.{answer_line}
use Rattle.cedar_world.specs.Session.{Answers}
use Rattle.cedar_world.specs.Setting.{Setting}
use Rattle.cedar_world.specs.Step.{Step as Steps}
use Rattle.cedar_world.specs.World.{World, Policies, new_world}
use Rattle.cedar_scripts.specs.declared.script.Step.{Step}
use Rattle.cedar_scripts.specs.declared.script.Test.{Test}
use Rattle.cedar_scripts.specs.declared.script.Script.{Script}
use Rattle.cedar_authoring.specs.Explaining.{status_of, TellsOne}
use Rattle.cedar_authoring.specs.Names.{TellsNames}
use Rattle.cedar_authoring.specs.Scripts.{FitsCommand, HasStep, command_of}
use Rattle.cedar_messages.specs.Telling.{TellsEach}

-- ---- where a question stands

abbrev pub asks : Verb → Bool
asks Ask = true
asks Tell = true
asks verb = false

-- a command that asks or tells begins at this line
abbrev pub AsksAt : ℕ → Step → Type 0
AsksAt line s = (s.line ≡ line) × (asks s.verb ≡ true)

-- The command stands behind these: behind those before it in the set-up, or behind the set-up and those before it in its test.
abbrev pub StandsBehind : Script → List Step → Step → Type 0
StandsBehind script before s =
    ((after : List Step) × (script.set_up.items ≡ before ++ s ∷ after))
    ⊎ ((t : Test) × (own after : List Step) × Contains script.tests.items t × (t.steps.items ≡ own ++ s ∷ after) × (before ≡ script.set_up.items ++ own))

-- ---- how policies stand to it

-- the first response, or what that comes to with values that are told, with the errors of both
abbrev pub TakesUp : PartialResponse → PartialResponse → Type 0
TakesUp first response =
    (response ≡ first)
    ⊎ ((store : Store) × (table : Table) × (depth : ℕ) × (told : List (RcStr Global × Value)) × (again : PartialResponse)
    × IsReauthorized store table depth told first again
    × (response ≡ record again { errors = response.errors })
    × (map error_seen response.errors.items ≡ map error_seen again.errors.items ++ map error_seen first.errors.items))

abbrev pub Responds : Setting → World → PartialResponse → Type 0
Responds by world response = (first : PartialResponse) × IsResponse by world first × TakesUp first response

-- it is told, in the text of some name, how what is held stands
abbrev pub TellsHeld : Policies → PartialResponse → Text → Text → Type 0
TellsHeld policies response id told = (name : Text) × TellsOne name policies response id told

-- these ids are bound, and no others
abbrev pub AreHeld : Policies → List Text → Type 0
AreHeld policies ids = (id : Text) → list_any (same_text id) ids ≡ is_some (finite.get policies id)

-- of all that is held it is told how it stands, and last what to tell
pub record TellsStandings (asked : World) (response : PartialResponse) (told : Text) : Type 0 where
  pub ids : List Text
  pub held : AreHeld asked.policies ids
  pub lines : Text
  pub each : TellsEach (TellsHeld asked.policies response) ids lines
  pub last : Text
  pub names : TellsNames asked.asked response last
  pub whole : told ≡ lines ++ last

-- how policies stand to the question that is open is told
abbrev pub TellsOpen : Setting → World → Text → Type 0
TellsOpen by asked told = (response : PartialResponse) × Responds by asked response × TellsStandings asked response told

-- The line of an answer, and then how policies stand to the question.
abbrev pub TellsAsked : Setting → World → Answer → Text → Type 0
TellsAsked by asked answer told = (more : Text) × TellsOpen by asked more × (told ≡ answer_line answer ++ more)

-- ---- what is told

-- A session in this world answers what the command asks, and that is told.
pub record TellsAnswer (by : Setting) (world : World) (s : Step) (status : ℕ) (told : Text) : Type 0 where
  pub answer : Answer
  pub asked : World
  pub asks : Steps by world s.verb (string_bytes s.body) (Answered answer) asked
  pub tells : TellsAsked by asked answer told
  pub decides : status ≡ status_of answer.decision

-- a session answers the command
abbrev pub GoesOn : Setting → World → Step → World → Type 0
GoesOn by old s new = (reply : Reply) × Steps by old s.verb (string_bytes s.body) reply new

-- A session is given these commands.
abbrev pub GoesThrough : Setting → World → List Step → World → Type 0
GoesThrough by old steps new = (replies : List Reply) × Answers by old (map command_of steps) replies new

-- its text is too long, or a session in this world refuses it, and not for memory
abbrev pub IsStopped : Setting → World → Step → Type 0
IsStopped by world s =
    (FitsCommand s → ⊥) ⊎ ((new : World) × (r : Refusal) × (r ≢ Memory) × Steps by world s.verb (string_bytes s.body) (Refused r) new)

-- one of these commands isn't taken behind those before it
pub record StopsAmong (by : Setting) (old : World) (steps : List Step) : Type 0 where
  pub before : List Step
  pub step : Step
  pub after : List Step
  pub are : steps ≡ before ++ step ∷ after
  pub world : World
  pub goes : GoesThrough by old before world
  pub stops : IsStopped by world step

-- A session that was just made is given what stands before the line, and answers what is asked there, and that is told.
pub record TellsExplainedAt (by : Setting) (script : Script) (line status : ℕ) (told : Text) : Type 0 where
  pub before : List Step
  pub step : Step
  pub at : AsksAt line step
  pub behind : StandsBehind script before step
  pub world : World
  pub goes : GoesThrough by new_world before world
  pub answers : TellsAnswer by world step status told

-- No command that asks or tells begins at the line, or one of those up to there isn't taken.
pub data IsUnasked (by : Setting) (script : Script) (line : ℕ) : Type 0 where
  nothing_asked : ((s : Step) → HasStep script s → AsksAt line s → ⊥) → IsUnasked by script line
  one_stops : (before : List Step) (step : Step) → AsksAt line step → StandsBehind script before step
      → StopsAmong by new_world (before ++ step ∷ []) → IsUnasked by script line
