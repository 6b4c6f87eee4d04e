-- What a text of JSON asks. (Cedar, "Requests: JSON".)
use Rattle.std.specs.Prelude.{ℕ, ◌&&◌, Option, Some, None, option_map, List, [], ◌∷◌, codes, if◌then◌else◌}
use Rattle.std.specs.Str.{chars}
use Rattle.json.specs.Json.{Json, null, boolean, number, string, array, object, Members, document}
use Rattle.json.specs.Strict.{keys}
use Rattle.cedar_language.specs.Uid.{Text, Name, Uid}
use Rattle.cedar_language.specs.Tree.{no_trees}
use Rattle.cedar_grammar.specs.Escape.{string_of}
use Rattle.cedar_grammar.specs.Names.{are_distinct}
use Rattle.cedar_grammar.specs.Steps.{is_mark}
use Rattle.cedar_grammar.specs.Token.{ColonColon, Token, word, text, id_of}
use Rattle.cedar_grammar.specs.Tokens.{tokens_of}
use Rattle.cedar_world.specs.Asking.{Part, Given, Entries, WithEntries, Question}
use Rattle.cedar_world.specs.Bodies.{and_then, entries_of, question_with}
use Rattle.cedar_json.specs.Entities.{entity_in, under, only_under, if_there}
use Rattle.cedar_json.specs.Values.{datum}

-- ---- entities as Cedar writes them

abbrev pub longer : Option Text → Option (Name × List ℕ) → Option (Name × List ℕ)
longer (Some s) (Some x) = Some (s ∷ x.0, x.1)
longer _ _ = None

-- a string alone, as it is written
abbrev pub string_alone : List Token → Option (Name × List ℕ)
string_alone (text raw ∷ []) = Some ([], raw)
string_alone _ = None

abbrev pub or_else : {A : Type 0} → Option A → Option A → Option A
or_else (Some a) other = Some a
or_else None other = other

-- identifiers with `::` behind each, and then a string alone
abbrev pub path_in : List Token → Option (Name × List ℕ)
path_in [] = None
path_in (t ∷ []) = None
path_in (word w ∷ t ∷ ts) = if is_mark ColonColon t then longer (id_of w) (or_else (string_alone ts) (path_in ts)) else None
path_in (s ∷ t ∷ ts) = None

abbrev pub uid_told : Option (Name × List ℕ) → Option Uid
uid_told None = None
uid_told (Some x) = option_map (λ s. record { type_name = x.0; id = s }) (string_of x.1)

-- the entity that a text is, as `A::B::"x"`
abbrev pub uid_read : Text → Option Uid
uid_read s = and_then (tokens_of (chars s)) (λ ts. uid_told (path_in ts))

-- ---- parts

-- in a question an entity may also stand in a string
abbrev pub asked_in : Json → Option Uid
asked_in (string s) = uid_read s
asked_in null = None
asked_in (boolean b) = None
asked_in (number s) = None
asked_in (array js) = None
asked_in (object ms) = entity_in (object ms)

abbrev pub part_in : Option Json → Option Part
part_in o = option_map Given (and_then o asked_in)

-- an object of values
abbrev pub context_in : Json → Option Entries
context_in j = and_then (datum j) entries_of

-- no context is an empty one
abbrev pub or_empty : Option Entries → Option Entries
or_empty None = Some (WithEntries [] no_trees)
or_empty (Some e) = Some e

-- ---- questions

abbrev pub question_keys : List Text
question_keys = codes "principal" ∷ codes "action" ∷ codes "resource" ∷ codes "context" ∷ []

abbrev pub asked_of : Members → Option Question
asked_of ms = question_with (part_in (under (codes "principal") ms)) (part_in (under (codes "action") ms)) (part_in (under (codes "resource") ms))
    (option_map or_empty (if_there context_in (under (codes "context") ms)))

-- a question: principal, action and resource, and perhaps a context; no other key, and none twice
abbrev pub question_in : Json → Option Question
question_in (object ms) = if only_under question_keys ms && are_distinct (keys ms) then asked_of ms else None
question_in _ = None

-- the question that a text of JSON asks
abbrev pub question_of : Text → Option Question
question_of json_text = and_then (document json_text) question_in
