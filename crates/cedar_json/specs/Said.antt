-- What the calls answer: the Cedar text of what a text of JSON says, or why it says nothing.
use Rattle.std.specs.Prelude.{◌≡◌, true, Option, Some, None, is_some, Result, Ok, Err, List, ⊤}
use Rattle.json.specs.Json.{Json, document}
use Rattle.json.specs.Strict.{HasUniqueKeys}
use Rattle.cedar_language.specs.Uid.{Text}
use Rattle.cedar_language.specs.Tree.{Tree}
use Rattle.cedar_world.specs.Asking.{Question}
use Rattle.cedar_world.specs.Bodies.{EntityBody, entity_bodies, ask_body}
use Rattle.cedar_json.specs.declared.reading.Unread.{Unread}
use Rattle.cedar_json.specs.declared.reading.Unread.TheVariants as unread
use Rattle.cedar_json.specs.Entities.{entities_of}
use Rattle.cedar_json.specs.Questions.{question_of}
use Rattle.cedar_json.specs.Values.{IsTextOf}

-- the Cedar text is a body of just the entities that the JSON says
abbrev pub SaysEntities : Text → Text → Type 0
SaysEntities json text = (es : List EntityBody) × (entities_of json ≡ Some es) × (t : Tree) × IsTextOf text t × (entity_bodies t ≡ Some es)

-- the Cedar text is a body of just the question that the JSON asks
abbrev pub SaysQuestion : Text → Text → Type 0
SaysQuestion json text = (question : Question) × (question_of json ≡ Some question) × (t : Tree) × IsTextOf text t × (ask_body t ≡ Some question)

-- nothing is said; of memory nothing is claimed
abbrev pub IsUnsaid : {B : Type 0} → Option B → Unread → Type 0
IsUnsaid said unread.Memory = ⊤
IsUnsaid said unread.Unsaid = said ≡ None

-- on success something is said, and else nothing
abbrev pub Tells : {A B : Type 0} → Result A Unread → Option B → Type 0
Tells (Ok a) said = is_some said ≡ true
Tells (Err e) said = IsUnsaid said e

-- the text is no JSON, or an object of it has a key twice
abbrev pub IsUnparsed : Text → Unread → Type 0
IsUnparsed json unread.Memory = ⊤
IsUnparsed json unread.Unsaid = (j : Json) → document json ≡ Some j → ¬ HasUniqueKeys j

-- what is so of each text of a value
abbrev pub OfEachText : Json → (Text → Type 0) → Type 0
OfEachText j Is = (json : Text) → document json ≡ Some j → Is json
