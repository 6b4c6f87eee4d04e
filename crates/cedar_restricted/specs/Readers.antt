-- What is read of a restricted tree.
use Rattle.std.specs.Prelude.{ℤ, List, [], ◌∷◌, Option, Some, None}
use Rattle.std.specs.List.{zip}
use Rattle.cedar_language.specs.Uid.{Text, Name, Uid}
use Rattle.cedar_language.specs.Tree.{Long, String, Entity, ValueType, MakeSet, MakeRecord, Call, Tree, Lit, Unknown, Apply, Trees, no_trees, a_tree}
pub use Rattle.cedar_trees.specs.Shapes.{literal_boolean}

abbrev pub tree_list : Trees → List Tree
tree_list no_trees = []
tree_list (a_tree t ts) = t ∷ tree_list ts

abbrev pub literal_long : Tree → Option ℤ
literal_long (Lit (Long n)) = Some n
literal_long t = None

abbrev pub literal_string : Tree → Option Text
literal_string (Lit (String s)) = Some s
literal_string t = None

abbrev pub literal_entity : Tree → Option Uid
literal_entity (Lit (Entity u)) = Some u
literal_entity t = None

-- an unknown, by its name, and its type where one is stated
abbrev pub unknown_here : Tree → Option (Text × Option ValueType)
unknown_here (Unknown n ty) = Some (n, ty)
unknown_here t = None

abbrev pub set_elements : Tree → Option (List Tree)
set_elements (Apply MakeSet ts) = Some (tree_list ts)
set_elements t = None

abbrev pub record_pairs : Tree → Option (List (Text × Tree))
record_pairs (Apply (MakeRecord ks) ts) = Some (zip ks (tree_list ts))
record_pairs t = None

-- the function that is called, and the arguments
abbrev pub called : Tree → Option (Name × List Tree)
called (Apply (Call f) ts) = Some (f, tree_list ts)
called t = None
