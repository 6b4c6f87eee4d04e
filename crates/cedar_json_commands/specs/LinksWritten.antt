-- How links are written as Cedar text, by its characters.
use Rattle.std.specs.Prelude.{ℕ, cond, Option, Some, None, List, [], codes}
use Rattle.json.specs.Json.{Json, object, Members, no_members}
use Rattle.cedar_language.specs.Uid.{Text}
use Rattle.cedar_json.specs.Entities.{under, only_under}
use Rattle.cedar_json.specs.Parts.{part_written}
use Rattle.cedar_json_commands.specs.Links.{file_keys}
use Rattle.cedar_json_commands.specs.Others.{string_written}
use Rattle.cedar_json_commands.specs.PartialQuestionsWritten.{given_written, braced}

abbrev pub string_part : Option Json → List ℕ
string_part None = []
string_part (Some j) = string_written j

-- the members of the object that stands there
abbrev pub members_of : Option Json → Members
members_of (Some (object ms)) = ms
members_of _ = no_members

abbrev pub link_by_written : Option Json → Option Json → Members → List ℕ
link_by_written template id slots =
    braced (part_written (codes "template") (string_part template)) (part_written (codes "id") (string_part id))
    (given_written (codes "principal") (under (codes "?principal") slots)) (given_written (codes "resource") (under (codes "?resource") slots))

abbrev pub link_under_written : Text → Text → Text → Members → List ℕ
link_under_written template id slots ms = link_by_written (under template ms) (under id ms) (members_of (under slots ms))

abbrev pub link_of_members_written : Members → List ℕ
link_of_members_written ms =
    cond (only_under file_keys ms) (link_under_written (codes "template_id") (codes "link_id") (codes "args") ms)
    (link_under_written (codes "templateId") (codes "newId") (codes "values") ms)

abbrev pub link_written : Json → List ℕ
link_written (object ms) = link_of_members_written ms
link_written _ = []
