-- What a check tells of a text: the policies under which a session loads it, or why none does.
use Rattle.std.specs.Prelude.{◌≡◌, ◌≢◌, ◌⊎◌, ◌<◌, List, [], ◌∷◌, ◌++◌, codes, length, Option, Some, None, Err, IsUtf8}
use Rattle.std.specs.Str.Lossy.{utf8_valid_len}
use Rattle.cedar_language.specs.Uid.{Text}
use Rattle.cedar_grammar.specs.Functions.{policy_names}
use Rattle.cedar_grammar.specs.LooseReading.{read_policies}
use Rattle.cedar_frames.specs.Heads.{body_limit}
use Rattle.cedar_policy_conversion.specs.Shows.{policies_show}
use Rattle.cedar_parser.specs.Errors.{cause_of, out_of_memory}
use Rattle.cedar_parser.specs.ErrorsLeft.{errors_of}
use Rattle.cedar_parser.specs.Faults.{TellOnly, text_shows}
use Rattle.cedar_parser.specs.Strict.{ReadsSet}
use Rattle.cedar_parser.specs.declared.errors.ParseErrors.{ParseErrors}
use Rattle.cedar_world.specs.Commands.{Load, Named}
use Rattle.cedar_world.specs.Setting.{Setting}
use Rattle.cedar_world.specs.Step.{Step}
use Rattle.cedar_world.specs.World.{World, new_world}
use Rattle.cedar_messages.specs.declared.places.Position.{Position}
use Rattle.cedar_messages.specs.Faults.{TellsFault}
use Rattle.cedar_messages.specs.Places.{position_at}
use Rattle.cedar_messages.specs.Telling.{line_of, IsLine, TellsOf, TellsEach}

-- Both read policies alike: the same names may be called, and the limit of depth is the same.
abbrev pub ReadsAlike : Setting → Setting → Type 0
ReadsAlike by other =
    ((policy_names by.functions).functions ≡ (policy_names other.functions).functions)
    × ((policy_names by.functions).methods ≡ (policy_names other.functions).methods)
    × (by.depth ≡ other.depth)

-- a line that says under which id a policy stands
abbrev pub TellsPolicy : Text → Text → Text → Type 0
TellsPolicy name id told = (place : Option Position) × (more : Text) × IsLine more × (told ≡ line_of name place ((id ++ codes " ") ++ more))

-- a line tells of each policy, in order, or that there is none
abbrev pub TellsPolicies : Text → List Text → Text → Type 0
TellsPolicies name [] told = told ≡ line_of name None (codes "no policies")
TellsPolicies name (id ∷ ids) told = TellsEach (TellsPolicy name) (id ∷ ids) told

-- A session answers the load of the bytes by ids, and its policies are told.
pub record TellsLoaded (by : Setting) (old new : World) (name bytes told : Text) : Type 0 where
  pub ids : List Text
  pub loads : Step by old Load bytes (Named ids) new
  pub lines : TellsPolicies name ids told

-- A session that was just made loads the bytes, and its policies are told.
abbrev pub TellsFine : Setting → Text → Text → Text → Type 0
TellsFine by name bytes told = (new : World) × TellsLoaded by new_world new name bytes told

-- no session loads the text, whatever it holds
abbrev pub IsUnloaded : Setting → Text → Type 0
IsUnloaded by text = (old new : World) (ids : List Text) → Step by old Load text (Named ids) new → ⊥

-- the text isn't read as policies, by these errors, each of a kind that the text shows
pub record IsUnread (by : Setting) (text : Text) (errors : ParseErrors) : Type 0 where
  pub refused : ReadsSet (policy_names by.functions) by.depth text (Err errors)
  pub kinds : TellOnly errors (text_shows read_policies by.depth text (policies_show (policy_names by.functions)))

-- No session loads the text, and lines tell of each error by which it isn't read, in order: want of memory is none.
pub record TellsFaults (by : Setting) (name text told : Text) : Type 0 where
  pub unloaded : IsUnloaded by text
  pub errors : ParseErrors
  pub unread : IsUnread by text errors
  pub fed : cause_of errors.0.head ≢ out_of_memory
  pub lines : TellsEach (TellsFault name text) (errors_of errors) told

-- a text that is longer than a command's may be, or one with faults
abbrev pub TellsUnloaded : Setting → Text → Text → Text → Type 0
TellsUnloaded by name text told = ((body_limit < length text) × TellsOf name None told) ⊎ TellsFaults by name text told

-- Bytes that are no text, where the first that shows it is told, or a text that isn't loaded.
abbrev pub TellsRefused : Setting → Text → Text → Text → Type 0
TellsRefused by name bytes told =
    ((IsUtf8 bytes → ⊥) × TellsOf name (Some (position_at bytes (utf8_valid_len bytes))) told)
    ⊎ (IsUtf8 bytes × TellsUnloaded by name bytes told)

-- a session has loaded the bytes, or holds what it held
abbrev pub HasLoaded : Setting → World → World → Text → Type 0
HasLoaded by old new bytes = ((ids : List Text) × Step by old Load bytes (Named ids) new) ⊎ (new ≡ old)
