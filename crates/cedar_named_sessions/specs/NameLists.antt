-- Names of policies, templates and links beside the ids under which a session holds them: a list of the names that were given, kept
-- beside the world, since a name that a caller gives stands in no policy.
use Rattle.std.specs.Prelude.{Bool, true, false, Option, Some, None, is_some, unwrap_or, List, map}
use Rattle.std.specs.Map.{lookup, remove_entry}
use Rattle.cedar_language.specs.Uid.{Text}
use Rattle.cedar_language.specs.Order.{same_text}

-- the names that were given, each behind the id of what has it, in the order in which they were given
abbrev pub Names : Type 0
Names = List (Text × Text)

-- the name that was given to what has this id
abbrev pub given_to : Names → Text → Option Text
given_to names id = lookup (same_text id) names

-- what was given no name has its id for one
abbrev pub name_of : Names → Text → Text
name_of names id = unwrap_or (given_to names id) id

-- each id behind the name that it was given
abbrev pub swapped : Names → Names
swapped names = map (λ e. (e.1, e.0)) names

-- the id of what was given this name
abbrev pub id_given : Names → Text → Option Text
id_given names name = given_to (swapped names) name

abbrev pub id_or : Option Text → Bool → Text → Option Text
id_or (Some id) is_renamed name = Some id
id_or None true name = None
id_or None false name = Some name

-- The id that a name stands for: that of what was given the name; else the name itself, unless what has that id was given another one.
abbrev pub id_of : Names → Text → Option Text
id_of names name = id_or (id_given names name) (is_some (given_to names name)) name

-- what has this id has no given name any more
abbrev pub without : Text → Names → Names
without id names = remove_entry (same_text id) names
