-- What readers ask of a bare tree.
use Rattle.std.specs.Prelude.{Bool, true, false, ◌&&◌, Option, Some, None}
use Rattle.cedar_language.specs.Tree.{Tree, Trees, Lit, Slot, Apply, Boolean, Entity, MakeSet, no_trees, a_tree}

-- a literal entity
abbrev pub is_entity : Tree → Bool
is_entity (Lit (Entity u)) = true
is_entity t = false

abbrev pub are_entities : Trees → Bool
are_entities no_trees = true
are_entities (a_tree t ts) = is_entity t && are_entities ts

-- a set of literal entities alone
abbrev pub is_set_of_entities : Tree → Bool
is_set_of_entities (Apply MakeSet ts) = are_entities ts
is_set_of_entities t = false

-- a slot of a template
abbrev pub is_slot_tree : Tree → Bool
is_slot_tree (Slot s) = true
is_slot_tree t = false

-- the Boolean of a literal
abbrev pub literal_boolean : Tree → Option Bool
literal_boolean (Lit (Boolean b)) = Some b
literal_boolean t = None
