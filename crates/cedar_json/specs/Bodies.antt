-- Entities in several bodies, each within a limit.
use Rattle.std.specs.Prelude.{◌≡◌, ℕ, ◌<◌, ◌≤◌, zero, true, Option, Some, None, is_some, List, [], ◌∷◌, ◌++◌, length, IsUtf8, encode_utf8_all, ⊤}
use Rattle.json.specs.Find.{get_item}
use Rattle.json.specs.Json.{Json, array, Items, no_items, item, document}
use Rattle.cedar_language.specs.Uid.{Text}
use Rattle.cedar_language.specs.Tree.{Tree}
use Rattle.cedar_world.specs.Bodies.{EntityBody, entity_bodies}
use Rattle.cedar_json.specs.declared.bodies.SplitError.{SplitError}
use Rattle.cedar_json.specs.declared.bodies.SplitError.TheVariants as split
use Rattle.cedar_json.specs.Entities.{entities_of}
use Rattle.cedar_json.specs.EntitiesWritten.{entities_written}
use Rattle.cedar_json.specs.Values.{IsTextOf}

-- ---- what the texts say

-- the Cedar text is a body of just these entities
abbrev pub IsBodyOf : Text → List EntityBody → Type 0
IsBodyOf text es = (t : Tree) × IsTextOf text t × (entity_bodies t ≡ Some es)

-- one text for each list of entities
abbrev pub AreBodiesOf : List Text → List (List EntityBody) → Type 0
AreBodiesOf [] [] = ⊤
AreBodiesOf (text ∷ texts) (es ∷ parts) = IsBodyOf text es × AreBodiesOf texts parts
AreBodiesOf [] (es ∷ parts) = ⊥
AreBodiesOf (text ∷ texts) [] = ⊥

abbrev pub joined : List (List EntityBody) → List EntityBody
joined [] = []
joined (es ∷ parts) = es ++ joined parts

-- the Cedar texts are bodies of the entities that the JSON says, in its order, none of them split
abbrev pub SaysBodies : Text → List Text → Type 0
SaysBodies json texts = (parts : List (List EntityBody)) × (entities_of json ≡ Some (joined parts)) × AreBodiesOf texts parts

-- ---- how they are written

-- what stands in a list, and nothing in what is none
abbrev pub items_of : Json → Items
items_of (array js) = js
items_of _ = no_items

abbrev pub before : Items → Items → Items
before no_items rest = rest
before (item j js) rest = item j (before js rest)

abbrev pub all_of : List Items → Items
all_of [] = no_items
all_of (js ∷ parts) = before js (all_of parts)

-- a text of these entities within the limit
pub record IsWithin (limit : ℕ) (js : Items) (text : Text) : Type 0 where
  pub utf8 : IsUtf8 text
  pub bytes : encode_utf8_all (entities_written (array js)) ≡ text
  pub fits : length text ≤ limit

abbrev pub AreWithin : ℕ → List Text → List Items → Type 0
AreWithin limit [] [] = ⊤
AreWithin limit (text ∷ texts) (js ∷ parts) = IsWithin limit js text × AreWithin limit texts parts
AreWithin limit [] (js ∷ parts) = ⊥
AreWithin limit (text ∷ texts) [] = ⊥

-- a text of some of the items, and the others behind them
abbrev pub IsNext : ℕ → Items → Items → Text → Type 0
IsNext limit all others text = (js : Items) × (all ≡ before js others) × IsWithin limit js text

-- texts of all items, in order
abbrev pub IsSplit : ℕ → List Text → Items → Type 0
IsSplit limit texts all = (parts : List Items) × (all ≡ all_of parts) × AreWithin limit texts parts

-- ---- what fits into none

-- the body of this item alone is too long
abbrev pub IsLong : ℕ → Option Json → Type 0
IsLong limit o = (j : Json) × (o ≡ Some j) × (limit < length (encode_utf8_all (entities_written (array (item j no_items)))))

abbrev pub is_memory : SplitError → Type 0
is_memory split.Memory = ⊤
is_memory split.Unsaid = ⊥
is_memory (split.TooLong index) = ⊥

-- too long is the first of these items, which stands at this index
abbrev pub IsTooLongBehind : ℕ → ℕ → Items → SplitError → Type 0
IsTooLongBehind limit from js split.Memory = ⊤
IsTooLongBehind limit from js split.Unsaid = ⊥
IsTooLongBehind limit from js (split.TooLong index) = (index ≡ from) × IsLong limit (get_item zero js)

abbrev pub IsTooLong : ℕ → Items → SplitError → Type 0
IsTooLong limit js split.Memory = ⊤
IsTooLong limit js split.Unsaid = ⊥
IsTooLong limit js (split.TooLong index) = IsLong limit (get_item index js)

-- why a text of JSON isn't split: it says no entities, or the body of one of them alone is too long
abbrev pub IsUnsplit : Text → ℕ → SplitError → Type 0
IsUnsplit json limit split.Memory = ⊤
IsUnsplit json limit split.Unsaid = entities_of json ≡ None
IsUnsplit json limit (split.TooLong index) =
    (is_some (entities_of json) ≡ true) × (js : Items) × (document json ≡ Some (array js)) × IsLong limit (get_item index js)
