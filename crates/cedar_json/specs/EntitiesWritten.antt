-- How entities of JSON are written as Cedar text, by its characters: each with all of its parts.
use Rattle.std.specs.Prelude.{ℕ, Option, Some, None, List, [], ◌∷◌, ◌++◌, codes}
use Rattle.json.specs.Json.{Json, array, object, Items, no_items, item, Members, no_members, member}
use Rattle.cedar_json.specs.Entities.{under}
use Rattle.cedar_json.specs.Written.{uid_written, entry_written, written}

abbrev pub entity_written : Json → List ℕ
entity_written (object (member k j no_members)) = uid_written j
entity_written j = uid_written j

abbrev pub each_written : Items → List ℕ
each_written no_items = 93 ∷ []
each_written (item j js) = entity_written j ++ 44 ∷ each_written js

abbrev pub parents_written : Option Json → List ℕ
parents_written (Some (array js)) = 91 ∷ each_written js
parents_written _ = 91 ∷ 93 ∷ []

abbrev pub uid_part : Option Json → List ℕ
uid_part None = []
uid_part (Some j) = entity_written j

abbrev pub fields_written : Option Json → List ℕ
fields_written None = 123 ∷ 125 ∷ []
fields_written (Some j) = written j

abbrev pub body_written : Members → List ℕ
body_written ms =
    123 ∷ entry_written (codes "uid") (uid_part (under (codes "uid") ms)) (entry_written (codes "parents") (parents_written (under (codes "parents") ms))
    (entry_written (codes "attrs") (fields_written (under (codes "attrs") ms)) (entry_written (codes "tags") (fields_written (under (codes "tags") ms)) (125 ∷ []))))

abbrev pub one_written : Json → List ℕ
one_written (object ms) = body_written ms
one_written _ = []

abbrev pub bodies_written : Items → List ℕ
bodies_written no_items = 93 ∷ []
bodies_written (item j js) = one_written j ++ 44 ∷ bodies_written js

abbrev pub entities_written : Json → List ℕ
entities_written (array js) = 91 ∷ bodies_written js
entities_written _ = []
