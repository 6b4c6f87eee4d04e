-- What a text of JSON tells, and which ids and entities it names.
use Rattle.std.specs.Prelude.{ℕ, Option, List, []}
use Rattle.json.specs.Find.{as_str}
use Rattle.json.specs.Json.{Json, string, document}
use Rattle.cedar_language.specs.Uid.{Text, Uid}
use Rattle.cedar_world.specs.Bodies.{and_then, Fields}
use Rattle.cedar_json.specs.Entities.{fields_in, parents_in}
use Rattle.cedar_json.specs.Written.{quoted}

-- the values that an object tells, by their names
abbrev pub tell_of : Text → Option Fields
tell_of json = and_then (document json) fields_in

-- the id of a policy, a template or a link: a string
abbrev pub id_of : Text → Option Text
id_of json = and_then (document json) as_str

abbrev pub string_written : Json → List ℕ
string_written (string s) = quoted s
string_written _ = []

-- the entities that a list names
abbrev pub named_entities_of : Text → Option (List Uid)
named_entities_of json = and_then (document json) parents_in
