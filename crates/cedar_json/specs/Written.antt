-- How a value of JSON is written as Cedar text, by its characters. Where it says no value this means nothing.
use Rattle.std.specs.Prelude.{ℕ, ◌==◌, ◌||◌, ◌&&◌, not, Bool, cond, List, [], ◌∷◌, ◌++◌, codes, IsUtf8, ⊤}
use Rattle.std.specs.Str.{chars}
use Rattle.json.specs.Json.{Json, null, boolean, number, string, array, object, Items, no_items, item, Members, no_members, member}
use Rattle.cedar_language.specs.Uid.{Text}
use Rattle.cedar_grammar.specs.Names.{is_text}
use Rattle.cedar_grammar.specs.Tokens.{quote, backslash, carriage_return, colon}

-- ---- strings

-- a character as it stands between quotes
abbrev pub escaped_char : ℕ → List ℕ
escaped_char c = cond (c == quote || c == backslash) (backslash ∷ c ∷ []) (cond (c == carriage_return) (backslash ∷ 114 ∷ []) (c ∷ []))

abbrev pub escaped : List ℕ → List ℕ
escaped [] = []
escaped (c ∷ cs) = escaped_char c ++ escaped cs

-- a character stands between quotes as it is
abbrev pub is_plain : ℕ → Bool
is_plain c = not (c == quote) && not (c == backslash) && not (c == carriage_return)

abbrev pub quoted : Text → List ℕ
quoted s = quote ∷ (escaped (chars s) ++ quote ∷ [])

-- ---- entities

-- the words of a name, with `::` between each two
abbrev pub path : List Text → Text
path [] = []
path (w ∷ []) = w
path (w ∷ v ∷ vs) = w ++ colon ∷ colon ∷ path (v ∷ vs)

abbrev pub uid_text : Text → Text → List ℕ
uid_text type id = chars type ++ colon ∷ colon ∷ quoted id

abbrev pub uid_written : Json → List ℕ
uid_written (object (member k (string s) (member l (string t) no_members))) = cond (is_text k (codes "type")) (uid_text s t) (uid_text t s)
uid_written _ = []

abbrev pub name_written : Json → List ℕ
name_written (string s) = chars s
name_written _ = []

-- ---- values

-- behind each item and each entry stands a comma
abbrev pub arguments_written : Text → List ℕ → List ℕ → List ℕ
arguments_written key one some = 40 ∷ cond (is_text key (codes "arg")) (one ++ 41 ∷ []) some

abbrev pub entry_written : Text → List ℕ → List ℕ → List ℕ
entry_written key value rest = quoted key ++ colon ∷ 32 ∷ (value ++ 44 ∷ rest)

abbrev pub single_written : Text → List ℕ → List ℕ → List ℕ → List ℕ
single_written key uid call value = cond (is_text key (codes "__entity")) uid (cond (is_text key (codes "__extn")) call (123 ∷ entry_written key value (125 ∷ [])))

abbrev mutual
  pub written : Json → List ℕ
  written null = []
  written (boolean b) = cond b (codes "true") (codes "false")
  written (number s) = chars s
  written (string s) = quoted s
  written (array js) = 91 ∷ items_written 93 js
  written (object no_members) = 123 ∷ 125 ∷ []
  written (object (member k j no_members)) = single_written k (uid_written j) (call_written j) (written j)
  written (object (member k j (member l i ms))) = 123 ∷ entry_written k (written j) (entry_written l (written i) (members_written ms))

  -- the items up to what closes them
  pub items_written : ℕ → Items → List ℕ
  items_written close no_items = close ∷ []
  items_written close (item j js) = written j ++ 44 ∷ items_written close js

  pub members_written : Members → List ℕ
  members_written no_members = 125 ∷ []
  members_written (member k j ms) = entry_written k (written j) (members_written ms)

  pub call_written : Json → List ℕ
  call_written (object (member k a (member l b no_members))) =
      cond (is_text k (codes "fn")) (name_written a ++ arguments_written l (written b) (list_written b)) (name_written b ++ arguments_written k (written a) (list_written a))
  call_written _ = []

  pub list_written : Json → List ℕ
  list_written (array js) = items_written 41 js
  list_written _ = []

-- each string is a text, each key and each number
abbrev mutual
  pub AreTexts : Json → Type 0
  AreTexts null = ⊤
  AreTexts (boolean b) = ⊤
  AreTexts (number s) = IsUtf8 s
  AreTexts (string s) = IsUtf8 s
  AreTexts (array js) = ItemsAreTexts js
  AreTexts (object ms) = MembersAreTexts ms

  pub ItemsAreTexts : Items → Type 0
  ItemsAreTexts no_items = ⊤
  ItemsAreTexts (item j js) = AreTexts j × ItemsAreTexts js

  pub MembersAreTexts : Members → Type 0
  MembersAreTexts no_members = ⊤
  MembersAreTexts (member k j ms) = IsUtf8 k × AreTexts j × MembersAreTexts ms
