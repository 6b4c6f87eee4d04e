-- How questions with open parts are written as Cedar text, by its characters: what is missing isn't written.
use Rattle.std.specs.Prelude.{ℕ, cond, Option, Some, None, List, [], ◌∷◌, ◌++◌, codes}
use Rattle.json.specs.Json.{Json, object, Members}
use Rattle.cedar_language.specs.Uid.{Text}
use Rattle.cedar_json.specs.Entities.{under}
use Rattle.cedar_json.specs.EntitiesWritten.{fields_written}
use Rattle.cedar_json.specs.Parts.{part_written}
use Rattle.cedar_json.specs.QuestionsWritten.{asked_written}
use Rattle.cedar_json.specs.Written.{quoted}
use Rattle.cedar_json_commands.specs.PartialQuestions.{type_alone, is_unknown}

-- an entity under a key, where one stands
abbrev pub given_written : Text → Option Json → List ℕ
given_written key None = []
given_written key (Some j) = part_written key (asked_written j)

-- a type under a key of its own, or else the entity
abbrev pub typed_written : Text → Text → Option Text → Json → List ℕ
typed_written key type_key (Some s) j = part_written type_key (quoted s)
typed_written key type_key None j = part_written key (asked_written j)

abbrev pub open_written : Text → Text → Option Json → List ℕ
open_written key type_key None = []
open_written key type_key (Some j) = typed_written key type_key (type_alone j) j

abbrev pub context_written : Option Json → List ℕ
context_written o = cond (is_unknown o) [] (part_written (codes "context") (fields_written o))

-- four parts between braces
abbrev pub braced : List ℕ → List ℕ → List ℕ → List ℕ → List ℕ
braced first second third fourth = 123 ∷ (first ++ (second ++ (third ++ (fourth ++ 125 ∷ []))))

abbrev pub open_question_written : Members → List ℕ
open_question_written ms =
    braced (open_written (codes "principal") (codes "principal_type") (under (codes "principal") ms)) (given_written (codes "action") (under (codes "action") ms))
    (open_written (codes "resource") (codes "resource_type") (under (codes "resource") ms)) (context_written (under (codes "context") ms))

abbrev pub partial_question_written : Json → List ℕ
partial_question_written (object ms) = open_question_written ms
partial_question_written _ = []
