-- What a tree feeds a hasher: how many parts, which construct, and the parts, the first one last.
use Rattle.std.specs.Prelude.{[], ◌++◌, length}
use Rattle.std.specs.List.{flat_map}
use Rattle.std.specs.Hash as fed
use Rattle.std.specs.Hash.{HashWrites}
use Rattle.cedar_language.specs.Tree.{Operator, GetAttr, HasAttr, HasPath, Like, Is, MakeSet, MakeRecord, Call, Tree, Lit, Var, Slot, Unknown, If, And, Or, Apply, Trees, no_trees, a_tree}
use Rattle.cedar_names.specs.Names.{name_hash}
use Rattle.cedar_literals.specs.Literals.{literal_hash}
use Rattle.cedar_literals.specs.Types.{type_hash}
use Rattle.cedar_literals.specs.Patterns.{pattern_hash}
use Rattle.cedar_shapes.specs.Parts.{listed}
use Rattle.cedar_shapes.specs.ShapeOrder.{variable_number, slot_number, operator_number, kind_number}

abbrev pub operator_hash : Operator → HashWrites
operator_hash (Call f) = name_hash f
operator_hash (GetAttr a) = fed.str a
operator_hash (HasAttr a) = fed.str a
operator_hash (HasPath a as_) = fed.str a ++ fed.slice fed.str as_
operator_hash (Like p) = pattern_hash p
operator_hash (Is n) = name_hash n
operator_hash MakeSet = []
operator_hash (MakeRecord ks) = flat_map fed.str ks
operator_hash op = fed.u8 (operator_number op)

-- what a construct holds beside its parts
abbrev pub held_hash : Tree → HashWrites
held_hash (Lit l) = literal_hash l
held_hash (Var v) = fed.u8 (variable_number v)
held_hash (Slot s) = fed.u8 (slot_number s)
held_hash (Unknown n ty) = fed.str n ++ fed.option type_hash ty
held_hash (If t y n) = []
held_hash (And l r) = []
held_hash (Or l r) = []
held_hash (Apply op ts) = operator_hash op

abbrev pub mark_hash : Tree → HashWrites
mark_hash t = fed.u8 (kind_number t) ++ held_hash t

abbrev mutual
  pub shape_hash : Tree → HashWrites
  shape_hash (Lit l) = fed.usize 0 ++ mark_hash (Lit l)
  shape_hash (Var v) = fed.usize 0 ++ mark_hash (Var v)
  shape_hash (Slot s) = fed.usize 0 ++ mark_hash (Slot s)
  shape_hash (Unknown n ty) = fed.usize 0 ++ mark_hash (Unknown n ty)
  shape_hash (If t y n) = fed.usize 3 ++ mark_hash (If t y n) ++ shape_hash y ++ shape_hash n ++ shape_hash t
  shape_hash (And l r) = fed.usize 2 ++ mark_hash (And l r) ++ shape_hash r ++ shape_hash l
  shape_hash (Or l r) = fed.usize 2 ++ mark_hash (Or l r) ++ shape_hash r ++ shape_hash l
  shape_hash (Apply op ts) = fed.usize (length (listed ts)) ++ mark_hash (Apply op ts) ++ first_last_hash ts

  pub shapes_hash : Trees → HashWrites
  shapes_hash no_trees = []
  shapes_hash (a_tree t ts) = shape_hash t ++ shapes_hash ts

  pub first_last_hash : Trees → HashWrites
  first_last_hash no_trees = []
  first_last_hash (a_tree t ts) = shapes_hash ts ++ shape_hash t
