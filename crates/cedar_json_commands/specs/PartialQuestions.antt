-- What a text of JSON asks where parts may be left open.
use Rattle.std.specs.Prelude.{Bool, false, ◌&&◌, Option, Some, None, option_map, codes, if◌then◌else◌}
use Rattle.json.specs.Find.{as_str}
use Rattle.json.specs.Json.{Json, string, object, Members, no_members, member, document}
use Rattle.json.specs.Strict.{keys}
use Rattle.cedar_language.specs.Uid.{Text}
use Rattle.cedar_grammar.specs.Names.{is_text, are_distinct}
use Rattle.cedar_world.specs.Asking.{Part, Given, Missing, Entries, Question}
use Rattle.cedar_world.specs.Bodies.{and_then, name_spelled, question_with}
use Rattle.cedar_json.specs.Entities.{under, only_under, if_there}
use Rattle.cedar_json.specs.Questions.{asked_in, context_in, or_empty, question_keys}

-- ---- parts

-- the type of an object that says no more: `{"type": "User"}`
abbrev pub type_alone : Json → Option Text
type_alone (object (member k j no_members)) = if is_text k (codes "type") then as_str j else None
type_alone _ = None

-- missing, with its type stated, or else given
abbrev pub typed_or_given : Option Text → Json → Option Part
typed_or_given (Some s) j = option_map (λ type. Missing (Some type)) (name_spelled s)
typed_or_given None j = option_map Given (asked_in j)

-- a principal or a resource; what is left out is missing
abbrev pub open_part : Option Json → Option Part
open_part None = Some (Missing None)
open_part (Some j) = typed_or_given (type_alone j) j

-- an action, of which no type is stated
abbrev pub open_action : Option Json → Option Part
open_action None = Some (Missing None)
open_action (Some j) = option_map Given (asked_in j)

-- ---- the context

-- the string `unknown` stands there
abbrev pub is_unknown : Option Json → Bool
is_unknown (Some (string s)) = is_text s (codes "unknown")
is_unknown _ = false

-- unknown where that is said, and empty where nothing is
abbrev pub open_context : Option Json → Option (Option Entries)
open_context o = if is_unknown o then Some None else option_map or_empty (if_there context_in o)

-- ---- questions

abbrev pub open_of : Members → Option Question
open_of ms = question_with (open_part (under (codes "principal") ms)) (open_action (under (codes "action") ms)) (open_part (under (codes "resource") ms))
    (open_context (under (codes "context") ms))

-- a question, each part of which may be left out; no other key, and none twice
abbrev pub partial_question_in : Json → Option Question
partial_question_in (object ms) = if only_under question_keys ms && are_distinct (keys ms) then open_of ms else None
partial_question_in _ = None

-- the question that a text of JSON asks, parts of it perhaps left open
abbrev pub partial_question_of : Text → Option Question
partial_question_of json_text = and_then (document json_text) partial_question_in
