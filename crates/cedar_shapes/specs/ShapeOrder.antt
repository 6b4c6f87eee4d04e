-- An order of trees: each tree as a node, and the nodes compared. First how many parts, then which
-- construct, then the parts: those after the first from the left, and the first one last.
use Rattle.std.specs.Prelude.{ℕ, pos, List, [], ◌∷◌, Option, None, Some, length}
use Rattle.std.specs.declared.cmp.Ordering.{Ordering}
use Rattle.cedar_language.specs.Tree.{Variable, Principal, Action, Resource, Context, SlotId, PrincipalSlot, ResourceSlot, ValueType, PatternElem, Operator, Not, Neg, IsEmpty, Equal, Less, LessEq, Add, Sub, Mul, In, Contains, ContainsAll, ContainsAny, GetTag, HasTag, GetAttr, HasAttr, HasPath, Like, Is, MakeSet, MakeRecord, Call, Tree, Lit, Var, Slot, Unknown, If, And, Or, Apply, Trees, no_trees, a_tree}
use Rattle.cedar_language.specs.Order.{Head, head, Node, node, Nodes, no_nodes, a_node, literal_head, node_cmp}
use Rattle.cedar_literals.specs.Types.{type_head}
use Rattle.cedar_literals.specs.Patterns.{elem_head}
use Rattle.cedar_shapes.specs.Parts.{listed}

-- a node with nothing below it
abbrev pub leaf : Head → Node
leaf h = node h no_nodes

-- the node of a number alone
abbrev pub numbered : ℕ → ℕ → Node
numbered kind n = leaf (head kind (pos n) [] [])

abbrev pub variable_number : Variable → ℕ
variable_number Principal = 0
variable_number Action = 1
variable_number Resource = 2
variable_number Context = 3

abbrev pub slot_number : SlotId → ℕ
slot_number PrincipalSlot = 0
slot_number ResourceSlot = 1

abbrev pub type_node : Option ValueType → Nodes
type_node None = no_nodes
type_node (Some ty) = a_node (leaf (type_head ty)) no_nodes

abbrev pub elem_nodes : List PatternElem → Nodes
elem_nodes [] = no_nodes
elem_nodes (p ∷ ps) = a_node (leaf (elem_head p)) (elem_nodes ps)

-- which operator it is
abbrev pub operator_mark : Operator → Node
operator_mark Not = numbered 7 0
operator_mark Neg = numbered 7 1
operator_mark IsEmpty = numbered 7 2
operator_mark Equal = numbered 8 0
operator_mark Less = numbered 8 1
operator_mark LessEq = numbered 8 2
operator_mark Add = numbered 8 3
operator_mark Sub = numbered 8 4
operator_mark Mul = numbered 8 5
operator_mark In = numbered 8 6
operator_mark Contains = numbered 8 7
operator_mark ContainsAll = numbered 8 8
operator_mark ContainsAny = numbered 8 9
operator_mark GetTag = numbered 8 10
operator_mark HasTag = numbered 8 11
operator_mark (Call f) = leaf (head 9 (pos 0) (f ∷ []) [])
operator_mark (GetAttr a) = leaf (head 10 (pos 0) [] (a ∷ []))
operator_mark (HasAttr a) = leaf (head 11 (pos 0) [] (a ∷ []))
operator_mark (HasPath a as_) = leaf (head 12 (pos 0) [] (a ∷ as_))
operator_mark (Like p) = node (head 13 (pos 0) [] []) (elem_nodes p)
operator_mark (Is n) = leaf (head 14 (pos 0) (n ∷ []) [])
operator_mark MakeSet = numbered 15 0
operator_mark (MakeRecord ks) = leaf (head 16 (pos 0) [] ks)

-- which construct it is, and what it holds beside its parts
abbrev pub mark : Tree → Node
mark (Lit l) = node (head 0 (pos 0) [] []) (a_node (leaf (literal_head l)) no_nodes)
mark (Var v) = numbered 1 (variable_number v)
mark (Slot s) = numbered 2 (slot_number s)
mark (Unknown n ty) = node (head 3 (pos 0) [] (n ∷ [])) (type_node ty)
mark (If t y n) = numbered 4 0
mark (And l r) = numbered 5 0
mark (Or l r) = numbered 6 0
mark (Apply op ts) = operator_mark op

-- the number of an operator among those of as many operands
abbrev pub operator_number : Operator → ℕ
operator_number Neg = 1
operator_number IsEmpty = 2
operator_number Less = 1
operator_number LessEq = 2
operator_number Add = 3
operator_number Sub = 4
operator_number Mul = 5
operator_number In = 6
operator_number Contains = 7
operator_number ContainsAll = 8
operator_number ContainsAny = 9
operator_number GetTag = 10
operator_number HasTag = 11
operator_number op = 0

-- the number of a tree's kind
abbrev pub kind_at : Node → ℕ
kind_at (node h ns) = h.kind

abbrev pub kind_number : Tree → ℕ
kind_number t = kind_at (mark t)

-- one more node after these
abbrev pub followed : Nodes → Node → Nodes
followed no_nodes n = a_node n no_nodes
followed (a_node m ms) n = a_node m (followed ms n)

-- the node of a tree: the number of its parts, its mark and its parts
abbrev pub marked : ℕ → Node → Nodes → Node
marked n m ns = node (head n (pos 0) [] []) (a_node m ns)

abbrev mutual
  pub shape : Tree → Node
  shape (Lit l) = marked 0 (mark (Lit l)) no_nodes
  shape (Var v) = marked 0 (mark (Var v)) no_nodes
  shape (Slot s) = marked 0 (mark (Slot s)) no_nodes
  shape (Unknown n ty) = marked 0 (mark (Unknown n ty)) no_nodes
  shape (If t y n) = marked 3 (mark (If t y n)) (a_node (shape y) (a_node (shape n) (a_node (shape t) no_nodes)))
  shape (And l r) = marked 2 (mark (And l r)) (a_node (shape r) (a_node (shape l) no_nodes))
  shape (Or l r) = marked 2 (mark (Or l r)) (a_node (shape r) (a_node (shape l) no_nodes))
  shape (Apply op ts) = marked (length (listed ts)) (operator_mark op) (first_last ts)

  pub shapes : Trees → Nodes
  shapes no_trees = no_nodes
  shapes (a_tree t ts) = a_node (shape t) (shapes ts)

  pub first_last : Trees → Nodes
  first_last no_trees = no_nodes
  first_last (a_tree t ts) = followed (shapes ts) (shape t)

-- the order of trees
abbrev pub tree_cmp : Tree → Tree → Ordering
tree_cmp s t = node_cmp (shape s) (shape t)
