-- Edit by edit, or all at once: what is held answers the same.
use Rattle.std.specs.Prelude.{◌≡◌, None, Some, List}
use Rattle.std.specs.FinMap as map
use Rattle.cedar_language.specs.Uid.{Text, Uid}
use Rattle.cedar_language.specs.Tree.{Tree}
use Rattle.cedar_world.specs.Bodies.{EntityBody, entity_bodies}
use Rattle.cedar_world.specs.Commands.{Put, Done}
use Rattle.cedar_world.specs.EditLaws.{last_version}
use Rattle.cedar_world.specs.EntityEdits.{Version}
use Rattle.cedar_world.specs.Setting.{Setting, IsBody}
use Rattle.cedar_world.specs.InForce.{AnswerAlike}
use Rattle.cedar_world.specs.Step.{Step}
use Rattle.cedar_world.specs.Values.{versions}
use Rattle.cedar_world.specs.World.{World, Entities, in_force_at}

-- the text lists these entities and no others, with their attributes, tags and direct parents
abbrev pub Lists : Setting → Text → Entities → Type 0
Lists by text entities = (tree : Tree) (bs : List EntityBody) (vs : List Version) → IsBody by text tree → entity_bodies tree ≡ Some bs → versions by bs ≡ Some vs
    → (uid : Uid) → last_version vs uid None ≡ map.get entities uid

-- A world whose entities came about by any edits, and one that held none and was put a list of them, have the same answers.
abbrev pub OnePutAnswersAlike : Type 0
OnePutAnswersAlike =
    (by : Setting) (world before after : World) (text : Text)
    → before.entities ≡ map.empty → ((id : Text) → in_force_at before.policies id ≡ in_force_at world.policies id)
    → Lists by text world.entities → Step by before Put text Done after
    → AnswerAlike by world after
