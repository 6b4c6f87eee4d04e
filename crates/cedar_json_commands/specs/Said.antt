-- What the calls answer: a Cedar text that is a body of just what a text of JSON says.
use Rattle.std.specs.Prelude.{◌≡◌, Option, Some}
use Rattle.cedar_language.specs.Uid.{Text}
use Rattle.cedar_language.specs.Tree.{Tree}
use Rattle.cedar_json.specs.Values.{IsTextOf}

-- the Cedar text is read as just what the JSON says
abbrev pub SaysBody : {B : Type 0} → (Text → Option B) → (Tree → Option B) → Text → Text → Type 0
SaysBody {B} of read json text = (b : B) × (of json ≡ Some b) × (t : Tree) × IsTextOf text t × (read t ≡ Some b)
