-- Parts of what is read and written, as the code takes them apart.
use Rattle.std.specs.Prelude.{◌≡◌, ℕ, List, [], ◌∷◌, ◌++◌, None}
use Rattle.json.specs.Json.{Json, string, object, no_members, member}
use Rattle.cedar_language.specs.Uid.{Text}
use Rattle.cedar_grammar.specs.Tokens.{colon}
use Rattle.cedar_json.specs.declared.writing.TwoStrings.{TwoStrings}
use Rattle.cedar_json.specs.Values.{uid_in}
use Rattle.cedar_json.specs.Written.{quoted, uid_written, written, list_written, arguments_written}

-- a key and its colon
abbrev pub key_written : Text → List ℕ
key_written key = quoted key ++ colon ∷ 32 ∷ []

-- an object of two strings
abbrev pub pair_of : TwoStrings → Json
pair_of p = object (member p.first.0.now (string p.first.1.now) (member p.second.0.now (string p.second.1.now) no_members))

-- no entity, and nothing is written for one
abbrev pub IsNoPair : Json → Type 0
IsNoPair j = (uid_in j ≡ None) × (uid_written j ≡ [])

-- the arguments of a call, by the key under which they stand
abbrev pub arguments_in : Text → Json → List ℕ
arguments_in key j = arguments_written key (written j) (list_written j)

-- a key, its value and a comma
abbrev pub part_written : Text → List ℕ → List ℕ
part_written key value = key_written key ++ (value ++ 44 ∷ [])
