-- What an answer is as JSON. (Cedar, `isAuthorized`: the response.)
use Rattle.std.specs.Prelude.{Option, Some, None, List, [], ◌∷◌, codes}
use Rattle.std.specs.FinMap as finite
use Rattle.json.specs.Json.{Json, null, string, array, object, Items, no_items, item, no_members, member}
use Rattle.cedar_language.specs.Answering.{Decision}
use Rattle.cedar_language.specs.Uid.{Text}
use Rattle.cedar_language.specs.Value.{Kind}
use Rattle.cedar_world.specs.Answer.{Answer}
use Rattle.cedar_world.specs.Lines.{kind_name, decision_name}
use Rattle.cedar_replies.specs.declared.error_kind.ErrorKind.{ErrorKind}
use Rattle.cedar_replies.specs.Kinds.{error_name}

-- an object of two members
abbrev pub pair : Text → Json → Text → Json → Json
pair k j l i = object (member k j (member l i no_members))

-- what is open has no decision
abbrev pub decision_json : Option Decision → Json
decision_json None = null
decision_json (Some d) = string (decision_name (Some d))

abbrev pub strings : List Text → Items
strings [] = no_items
strings (s ∷ ss) = item (string s) (strings ss)

-- a policy that errs, and the name of the kind of its error
abbrev pub error_told : Text → Text → Json
error_told id name = pair (codes "policyId") (string id) (codes "error") (pair (codes "message") (string name) (codes "code") (string name))

abbrev pub errors : List (Text × Kind) → Items
errors [] = no_items
errors (e ∷ es) = item (error_told e.0 (kind_name e.1)) (errors es)

-- the policies that are a reason whatever is unknown, and those that err, by their ids' bytes
abbrev pub diagnostics_json : Answer → Json
diagnostics_json a = pair (codes "reason") (array (strings (finite.keys a.must))) (codes "errors") (array (errors (finite.entries a.erring)))

abbrev pub answer_json : Answer → Json
answer_json a = pair (codes "decision") (decision_json a.decision) (codes "diagnostics") (diagnostics_json a)

-- the same of errors as the code has them
abbrev pub errors_told : List (Text × ErrorKind) → Items
errors_told [] = no_items
errors_told (e ∷ es) = item (error_told e.0 (error_name e.1)) (errors_told es)
