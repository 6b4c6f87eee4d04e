-- How questions of JSON are written as Cedar text, by its characters: each with all of its parts.
use Rattle.std.specs.Prelude.{ℕ, Option, Some, None, List, [], ◌∷◌, ◌++◌, codes}
use Rattle.std.specs.Str.{chars}
use Rattle.json.specs.Json.{Json, null, boolean, number, string, array, object, Members}
use Rattle.cedar_language.specs.Uid.{Name}
use Rattle.cedar_grammar.specs.Token.{Token}
use Rattle.cedar_grammar.specs.Tokens.{quote, colon, tokens_of}
use Rattle.cedar_json.specs.Entities.{under}
use Rattle.cedar_json.specs.EntitiesWritten.{entity_written, fields_written}
use Rattle.cedar_json.specs.Questions.{path_in}
use Rattle.cedar_json.specs.Written.{path, entry_written}

-- a name, and a string as it stood
abbrev pub told_written : Option (Name × List ℕ) → List ℕ
told_written None = []
told_written (Some x) = path x.0 ++ colon ∷ colon ∷ quote ∷ (x.1 ++ quote ∷ [])

abbrev pub read_written : Option (List Token) → List ℕ
read_written None = []
read_written (Some ts) = told_written (path_in ts)

abbrev pub asked_written : Json → List ℕ
asked_written (string s) = read_written (tokens_of (chars s))
asked_written null = []
asked_written (boolean b) = []
asked_written (number s) = []
asked_written (array js) = []
asked_written (object ms) = entity_written (object ms)

abbrev pub part_written : Option Json → List ℕ
part_written None = []
part_written (Some j) = asked_written j

abbrev pub question_written : Members → List ℕ
question_written ms =
    123 ∷ entry_written (codes "principal") (part_written (under (codes "principal") ms)) (entry_written (codes "action") (part_written (under (codes "action") ms))
    (entry_written (codes "resource") (part_written (under (codes "resource") ms)) (entry_written (codes "context") (fields_written (under (codes "context") ms)) (125 ∷ []))))

abbrev pub asks_written : Json → List ℕ
asks_written (object ms) = question_written ms
asks_written _ = []
