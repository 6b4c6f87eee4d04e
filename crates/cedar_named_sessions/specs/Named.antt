-- Which names the policies of a text take, and which they can't.
use Rattle.std.specs.Prelude.{Bool, true, false, not, ◌&&◌, ◌||◌, Option, Some, None, is_some, Result, Ok, Err, List, [], ◌∷◌, ◌++◌, map, take, drop, codes, if◌then◌else◌}
use Rattle.std.specs.FinMap as finite
use Rattle.std.specs.Map.{lookup}
use Rattle.cedar_language.specs.Uid.{Text}
use Rattle.cedar_language.specs.Order.{same_text}
use Rattle.cedar_grammar.specs.Syntax.{PolicySyntax}
use Rattle.cedar_json.specs.Values.{are_digits}
use Rattle.cedar_world.specs.World.{Policies}
use Rattle.cedar_named_sessions.specs.NameLists.{Names, given_to, id_given}

-- what the annotation `@id` of a policy says. (Cedar language reference, "Annotations".)
abbrev pub annotated : PolicySyntax → Option Text
annotated s = lookup (same_text (codes "id")) s.annotations

-- `policy` and digits: the shape of the ids that a load gives
abbrev pub is_number : Text → Bool
is_number name = same_text (take 6 name) (codes "policy") && are_digits (drop 6 name)

-- the name was given, or something is held under it as its id
abbrev pub is_taken : Policies → Names → Text → Bool
is_taken policies names name = is_some (id_given names name) || is_some (finite.get policies name)

-- something is held under the id, or comes to be, and was given a name
abbrev pub is_held : Policies → Names → Text → Bool
is_held policies names id = is_some (finite.get policies id) || is_some (given_to names id)

-- What comes under the id can't be given the name: it is taken, or in the shape of a number that isn't this id; or what comes is held already.
abbrev pub clashes : Policies → Names → Text → Text → Bool
clashes policies names id name = is_taken policies names name || ((is_number name && not (same_text id name)) || is_held policies names id)

-- the policies of a text: the ids under which they come, each with the name that it is to be given, where it is
abbrev pub Placed : Type 0
Placed = List (Text × Option Text)

abbrev pub placed : (PolicySyntax → Option Text) → List Text → List PolicySyntax → Placed
placed given (id ∷ ids) (s ∷ ss) = (id, given s) ∷ placed given ids ss
placed given _ _ = []

-- They are given their names one after the other: the names then, or the first one that can't be given.
abbrev pub named : Policies → Names → Placed → Result Names Text
named policies names [] = Ok names
named policies names ((id, None) ∷ ps) = named policies names ps
named policies names ((id, Some name) ∷ ps) = if clashes policies names id name then Err name else named policies (names ++ (id, name) ∷ []) ps
