-- Which link a text of JSON says, in either spelling that Cedar has for it. (Cedar, "Template-linked policies: JSON".)
use Rattle.std.specs.Prelude.{◌&&◌, Option, Some, None, List, [], ◌∷◌, codes, if◌then◌else◌}
use Rattle.json.specs.Find.{as_str}
use Rattle.json.specs.Json.{Json, object, Members, document}
use Rattle.json.specs.Strict.{keys}
use Rattle.cedar_language.specs.Uid.{Text}
use Rattle.cedar_grammar.specs.Names.{are_distinct}
use Rattle.cedar_world.specs.Bodies.{and_then, LinkBody, link_with}
use Rattle.cedar_json.specs.Entities.{under, only_under, if_there}
use Rattle.cedar_json.specs.Questions.{asked_in}

abbrev pub slot_keys : List Text
slot_keys = codes "?principal" ∷ codes "?resource" ∷ []

-- a link by its template, its id and the entities of its slots
abbrev pub link_by : Option Text → Option Text → Members → Option LinkBody
link_by template id slots = link_with template id (if_there asked_in (under (codes "?principal") slots)) (if_there asked_in (under (codes "?resource") slots))

-- the slots are an object, with no other key and none twice
abbrev pub with_slots : Option Text → Option Text → Option Json → Option LinkBody
with_slots template id (Some (object slots)) = if only_under slot_keys slots && are_distinct (keys slots) then link_by template id slots else None
with_slots _ _ _ = None

-- a link whose parts stand under these keys
abbrev pub link_under : Text → Text → Text → Members → Option LinkBody
link_under template id slots ms = with_slots (and_then (under template ms) as_str) (and_then (under id ms) as_str) (under slots ms)

-- the keys of Cedar's links file, and those of its `isAuthorized`
abbrev pub file_keys : List Text
file_keys = codes "template_id" ∷ codes "link_id" ∷ codes "args" ∷ []

abbrev pub call_keys : List Text
call_keys = codes "templateId" ∷ codes "newId" ∷ codes "values" ∷ []

-- a link in one of the two spellings: no other key, and none twice
abbrev pub link_of_members : Members → Option LinkBody
link_of_members ms =
    if only_under file_keys ms then link_under (codes "template_id") (codes "link_id") (codes "args") ms
    else if only_under call_keys ms then link_under (codes "templateId") (codes "newId") (codes "values") ms else None

abbrev pub link_in : Json → Option LinkBody
link_in (object ms) = if are_distinct (keys ms) then link_of_members ms else None
link_in _ = None

-- the link that a text of JSON says
abbrev pub link_of : Text → Option LinkBody
link_of json_text = and_then (document json_text) link_in
