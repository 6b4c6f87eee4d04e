-- Slots, unknowns and projectable trees.
use Rattle.std.specs.Prelude.{List, Bool, true, false, Option, Some, None}
use Rattle.std.specs.List.{filter_map, list_any}
use Rattle.cedar_language.specs.Uid.{Text}
use Rattle.cedar_language.specs.Tree.{SlotId, ValueType, Operator, Tree, Lit, Var, Slot, Unknown, Apply, MakeSet, MakeRecord}
pub use Rattle.cedar_language.specs.Restricted.{is_projectable, are_projectable}
use Rattle.cedar_shapes.specs.Positions.{positions}

abbrev pub slot_in : Tree → Option SlotId
slot_in (Slot s) = Some s
slot_in t = None

-- the slots among these trees
abbrev pub slots_among : List Tree → List SlotId
slots_among ts = filter_map slot_in ts

-- an unknown, by its name, and its type where one is stated
abbrev pub unknown_in : Tree → Option (Text × Option ValueType)
unknown_in (Unknown n ty) = Some (n, ty)
unknown_in t = None

-- the unknowns among these trees
abbrev pub unknowns_among : List Tree → List (Text × Option ValueType)
unknowns_among ts = filter_map unknown_in ts

abbrev pub is_unknown_tree : Tree → Bool
is_unknown_tree (Unknown n ty) = true
is_unknown_tree t = false

-- whether an unknown stands at one of its positions
abbrev pub holds_unknown : Tree → Bool
holds_unknown t = list_any is_unknown_tree (positions t)

-- whether a construct may stand in a projectable tree, whatever its parts are
abbrev pub is_list_operator : Operator → Bool
is_list_operator MakeSet = true
is_list_operator (MakeRecord ks) = true
is_list_operator op = false

abbrev pub is_projectable_kind : Tree → Bool
is_projectable_kind (Lit l) = true
is_projectable_kind (Unknown n ty) = true
is_projectable_kind (Var v) = true
is_projectable_kind (Apply op ts) = is_list_operator op
is_projectable_kind t = false
