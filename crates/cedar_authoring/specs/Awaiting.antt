-- The names for which what is left of a policy waits.
use Rattle.std.specs.Prelude.{Bool, not, ◌&&◌, ◌||◌, List, codes, Option, Some, None}
use Rattle.cedar_language.specs.Tree.{Tree, Unknown, Var}
use Rattle.cedar_language.specs.Uid.{Text}
use Rattle.cedar_literals.specs.Variables.{variable_text}
use Rattle.cedar_world.specs.Bodies.{is_one_of}
use Rattle.cedar_world.specs.Values.{variable_names}
use Rattle.cedar_refusals.specs.Naming.{stands}

-- the name of an unknown, and of a variable as it is written
abbrev pub name_standing : Tree → Option Text
name_standing (Unknown n ty) = Some n
name_standing (Var v) = Some (variable_text v)
name_standing t = None

-- Where these names stand: one of them, and an unknown of the context where that stands there whole.
abbrev pub awaits : List Text → Text → Bool
awaits standing n = stands standing n || (not (is_one_of variable_names n) && stands standing (codes "context"))
