-- Links by the entities of their slots.
use Rattle.std.specs.Prelude.{◌≡◌, Option, Some, codes}
use Rattle.json.specs.Json.{Json, string, object, no_members, member, document}
use Rattle.cedar_json.specs.Values.{IsTextOf}
use Rattle.cedar_json_commands.specs.Links.{with_slots}
use Rattle.cedar_language.specs.Tree.{Tree}
use Rattle.cedar_language.specs.Uid.{Text}
use Rattle.cedar_world.specs.Bodies.{LinkBody, and_then, link_body}

-- the link of this template under this id, by the entities of its slots that the JSON says
abbrev pub link_by_slots : Text → Text → Text → Option LinkBody
link_by_slots template id json = and_then (document json) (λ slots. with_slots (Some template) (Some id) (Some slots))

-- the object whose members are the template, the id and the slots
abbrev pub link_json : Text → Text → Json → Json
link_json template id slots =
    object (member (codes "templateId") (string template) (member (codes "newId") (string id) (member (codes "values") slots no_members)))

-- the text is a body of that link
abbrev pub IsLinkText : Text → Text → Text → Text → Type 0
IsLinkText template id json text = (b : LinkBody) × (t : Tree) × (link_by_slots template id json ≡ Some b) × IsTextOf text t × (link_body t ≡ Some b)
