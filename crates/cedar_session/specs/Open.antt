-- What a session keeps of its open question.
use Rattle.std.specs.Prelude.{◌≡◌, Option, Some, None}
use Rattle.std.specs.Option.{unwrap_or}
use Rattle.cedar_language.specs.Tree.{Tree}
use Rattle.cedar_language.specs.Uid.{Text}
use Rattle.cedar_world.specs.Asking.{Question, Missing, NoContext}
use Rattle.cedar_world.specs.Bodies.{ask_body}
use Rattle.cedar_world.specs.Setting.{Setting, IsBody}
use Rattle.cedar_world.specs.World.{World, Policies, Entities}
use Rattle.cedar_asking.specs.Keeping.{KeepsQuestion}
use Rattle.cedar_replies.specs.Replies.{answer_of}
use Rattle.cedar_world.specs.OrdinaryReplies.{AnswersToldOrdinarily}
use Rattle.cedar_session.specs.Asking.{body_tree}
use Rattle.cedar_session.specs.declared.asked.Asked.{Asked}

-- a question of which nothing is given
abbrev pub nothing_given : Question
nothing_given = record { principal = Missing None; action = Missing None; resource = Missing None; context = NoContext }

-- the question that a body states; each body that a session keeps states one
abbrev pub question_in : Tree → Question
question_in tree = unwrap_or (ask_body tree) nothing_given

-- the policies and entities that are held, with no open question
abbrev pub bare : Policies → Entities → World
bare policies entities = record { policies = policies; entities = entities; asked = None }

-- The body was read from a text, and states a question, whose first response, told values and last answer are those for these
-- policies and entities; and the last answer names no errors but those that it may once more is told.
pub record KeepsAsked (by : Setting) (policies : Policies) (entities : Entities) (asked : Asked) : Type 0 where
  pub states : ask_body (body_tree asked.body) ≡ Some (question_in (body_tree asked.body))
  pub read : (text : Text) × IsBody by text (body_tree asked.body)
  pub keeps : KeepsQuestion by (bare policies entities) (question_in (body_tree asked.body)) asked.first asked.told.entries (answer_of asked.answer)
  pub ordinary : AnswersToldOrdinarily by (bare policies entities) (answer_of asked.answer)

abbrev pub KeepsOpen : Setting → Policies → Entities → Option Asked → Type 0
KeepsOpen by policies entities None = Unit {0}
KeepsOpen by policies entities (Some asked) = KeepsAsked by policies entities asked
