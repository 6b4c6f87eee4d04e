-- The order of trees is total, and ties equal trees alone.
use Rattle.std.proofs.Common.{◌≡◌, ℕ, zero, suc, ℤ, pos, List, [], ◌∷◌, refl, sym, ap, ◌∙◌}
use Rattle.std.specs.Prelude.{Bool, true, false, Option, None, Some}
use Rattle.std.specs.Cmp.{IsTotalOrder}
use Rattle.std.specs.FinMap.{IsAntisymmetric}
use Rattle.std.proofs.lemmas.Cmp.{on_total}
use Rattle.cedar_language.specs.Uid.{Text, Name}
use Rattle.cedar_language.specs.Tree.{Literal, Boolean, Long, String, Entity, Variable, Principal, Action, Resource, Context, SlotId, PrincipalSlot, ResourceSlot, ValueType, BooleanType, LongType, StringType, SetType, RecordType, EntityType, ExtensionType, PatternElem, Char, Wildcard, Operator, Not, Neg, IsEmpty, Equal, Less, LessEq, Add, Sub, Mul, In, Contains, ContainsAll, ContainsAny, GetTag, HasTag, GetAttr, HasAttr, HasPath, Like, Is, MakeSet, MakeRecord, Call, Tree, Lit, Var, Slot, Unknown, If, And, Or, Apply, Trees, no_trees, a_tree}
use Rattle.cedar_language.specs.Order.{Head, head, Node, node, Nodes, no_nodes, a_node, literal_head}
use Rattle.cedar_language.specs.OrderLaws.{node_cmp_total, node_same}
use Rattle.cedar_literals.specs.Types.{type_head}
use Rattle.cedar_literals.specs.Patterns.{elem_head}
use Rattle.cedar_shapes.specs.ShapeOrder.{leaf, variable_number, slot_number, type_node, elem_nodes, operator_mark, followed, shape, shapes, first_last, tree_cmp}

pub tree_cmp_total : IsTotalOrder tree_cmp
tree_cmp_total = on_total shape node_cmp_total

-- ---- what nodes stand for, read back

abbrev first_text : List Text → Text
first_text [] = []
first_text (t ∷ ts) = t

abbrev later_texts : List Text → List Text
later_texts [] = []
later_texts (t ∷ ts) = ts

abbrev first_name : List Name → Name
first_name [] = []
first_name (n ∷ ns) = n

abbrev natural : ℤ → ℕ
natural (pos n) = n
natural _ = 0

abbrev truth_at : ℕ → Bool
truth_at zero = false
truth_at _ = true

abbrev literal_at : ℕ → Head → Literal
literal_at zero h = Boolean (truth_at (natural h.number))
literal_at (suc zero) h = Long h.number
literal_at (suc (suc zero)) h = String (first_text h.texts)
literal_at _ h = Entity (record { type_name = first_name h.names; id = first_text h.texts })

abbrev literal_from : Node → Literal
literal_from (node h ns) = literal_at h.kind h

abbrev first_literal : Nodes → Literal
first_literal no_nodes = Long (pos 0)
first_literal (a_node n ns) = literal_from n

abbrev variable_at : ℕ → Variable
variable_at zero = Principal
variable_at (suc zero) = Action
variable_at (suc (suc zero)) = Resource
variable_at _ = Context

abbrev slot_at : ℕ → SlotId
slot_at zero = PrincipalSlot
slot_at _ = ResourceSlot

abbrev type_at : ℕ → List Name → ValueType
type_at zero ns = BooleanType
type_at (suc zero) ns = LongType
type_at (suc (suc zero)) ns = StringType
type_at (suc (suc (suc zero))) ns = SetType
type_at (suc (suc (suc (suc zero)))) ns = RecordType
type_at (suc (suc (suc (suc (suc zero))))) ns = EntityType (first_name ns)
type_at _ ns = ExtensionType (first_name ns)

abbrev type_from : Node → ValueType
type_from (node h ns) = type_at h.kind h.names

abbrev first_type : Nodes → Option ValueType
first_type no_nodes = None
first_type (a_node n ns) = Some (type_from n)

abbrev elem_at : ℕ → ℕ → PatternElem
elem_at zero c = Char c
elem_at _ c = Wildcard

abbrev elem_from : Node → PatternElem
elem_from (node h ns) = elem_at h.kind (natural h.number)

abbrev elems_from : Nodes → List PatternElem
elems_from no_nodes = []
elems_from (a_node n ns) = elem_from n ∷ elems_from ns

abbrev unary_at : ℕ → Operator
unary_at zero = Not
unary_at (suc zero) = Neg
unary_at _ = IsEmpty

abbrev binary_at : ℕ → Operator
binary_at zero = Equal
binary_at (suc zero) = Less
binary_at (suc (suc zero)) = LessEq
binary_at (suc (suc (suc zero))) = Add
binary_at (suc (suc (suc (suc zero)))) = Sub
binary_at (suc (suc (suc (suc (suc zero))))) = Mul
binary_at (suc (suc (suc (suc (suc (suc zero)))))) = In
binary_at (suc (suc (suc (suc (suc (suc (suc zero))))))) = Contains
binary_at (suc (suc (suc (suc (suc (suc (suc (suc zero)))))))) = ContainsAll
binary_at (suc (suc (suc (suc (suc (suc (suc (suc (suc zero))))))))) = ContainsAny
binary_at (suc (suc (suc (suc (suc (suc (suc (suc (suc (suc zero)))))))))) = GetTag
binary_at _ = HasTag

-- the operator of this kind from 7 on, counted from there
abbrev operator_at : ℕ → Head → Nodes → Operator
operator_at zero h ns = unary_at (natural h.number)
operator_at (suc zero) h ns = binary_at (natural h.number)
operator_at (suc (suc zero)) h ns = Call (first_name h.names)
operator_at (suc (suc (suc zero))) h ns = GetAttr (first_text h.texts)
operator_at (suc (suc (suc (suc zero)))) h ns = HasAttr (first_text h.texts)
operator_at (suc (suc (suc (suc (suc zero))))) h ns = HasPath (first_text h.texts) (later_texts h.texts)
operator_at (suc (suc (suc (suc (suc (suc zero)))))) h ns = Like (elems_from ns)
operator_at (suc (suc (suc (suc (suc (suc (suc zero))))))) h ns = Is (first_name h.names)
operator_at (suc (suc (suc (suc (suc (suc (suc (suc zero)))))))) h ns = MakeSet
operator_at _ h ns = MakeRecord h.texts

-- the last of these trees, and those before it
abbrev last_tree : Tree → Trees → Tree
last_tree t no_trees = t
last_tree t (a_tree u us) = last_tree u us

abbrev earlier_trees : Tree → Trees → Trees
earlier_trees t no_trees = no_trees
earlier_trees t (a_tree u us) = a_tree t (earlier_trees u us)

-- the last tree put first
abbrev last_first : Trees → Trees
last_first no_trees = no_trees
last_first (a_tree t ts) = a_tree (last_tree t ts) (earlier_trees t ts)

abbrev first_tree : Trees → Tree
first_tree no_trees = Var Principal
first_tree (a_tree t ts) = t

abbrev later_trees : Trees → Trees
later_trees no_trees = no_trees
later_trees (a_tree t ts) = ts

-- what a mark of this kind makes of parts in their order
abbrev made_at : ℕ → Head → Nodes → Trees → Tree
made_at zero h ns ts = Lit (first_literal ns)
made_at (suc zero) h ns ts = Var (variable_at (natural h.number))
made_at (suc (suc zero)) h ns ts = Slot (slot_at (natural h.number))
made_at (suc (suc (suc zero))) h ns ts = Unknown (first_text h.texts) (first_type ns)
made_at (suc (suc (suc (suc zero)))) h ns ts = If (first_tree ts) (first_tree (later_trees ts)) (first_tree (later_trees (later_trees ts)))
made_at (suc (suc (suc (suc (suc zero))))) h ns ts = And (first_tree ts) (first_tree (later_trees ts))
made_at (suc (suc (suc (suc (suc (suc zero)))))) h ns ts = Or (first_tree ts) (first_tree (later_trees ts))
made_at (suc (suc (suc (suc (suc (suc (suc k))))))) h ns ts = Apply (operator_at k h ns) ts

abbrev made : Node → Trees → Tree
made (node h ns) ts = made_at h.kind h ns ts

abbrev first_mark : Nodes → Node
first_mark no_nodes = leaf (head 0 (pos 0) [] [])
first_mark (a_node n ns) = n

abbrev mutual
  unshape : Node → Tree
  unshape (node h ns) = unmark ns

  unmark : Nodes → Tree
  unmark no_nodes = Var Principal
  unmark (a_node n ns) = made n (last_first (unshapes ns))

  unshapes : Nodes → Trees
  unshapes no_nodes = no_trees
  unshapes (a_node n ns) = a_tree (unshape n) (unshapes ns)

literal_back : (l : Literal) → literal_from (leaf (literal_head l)) ≡ l
literal_back (Boolean true) = refl
literal_back (Boolean false) = refl
literal_back (Long n) = refl
literal_back (String s) = refl
literal_back (Entity u) = refl

variable_back : (v : Variable) → variable_at (variable_number v) ≡ v
variable_back Principal = refl
variable_back Action = refl
variable_back Resource = refl
variable_back Context = refl

slot_back : (s : SlotId) → slot_at (slot_number s) ≡ s
slot_back PrincipalSlot = refl
slot_back ResourceSlot = refl

value_type_back : (ty : ValueType) → type_from (leaf (type_head ty)) ≡ ty
value_type_back BooleanType = refl
value_type_back LongType = refl
value_type_back StringType = refl
value_type_back SetType = refl
value_type_back RecordType = refl
value_type_back (EntityType n) = refl
value_type_back (ExtensionType n) = refl

type_back : (ty : Option ValueType) → first_type (type_node ty) ≡ ty
type_back None = refl
type_back (Some ty) = ap Some (value_type_back ty)

elem_back : (p : PatternElem) → elem_from (leaf (elem_head p)) ≡ p
elem_back (Char c) = refl
elem_back Wildcard = refl

elems_back : (ps : List PatternElem) → elems_from (elem_nodes ps) ≡ ps
elems_back [] = refl
elems_back (p ∷ ps) = rw (elem_back p, elems_back ps) refl

operator_back : (op : Operator) (ts : Trees) → made (operator_mark op) ts ≡ Apply op ts
operator_back Not ts = refl
operator_back Neg ts = refl
operator_back IsEmpty ts = refl
operator_back Equal ts = refl
operator_back Less ts = refl
operator_back LessEq ts = refl
operator_back Add ts = refl
operator_back Sub ts = refl
operator_back Mul ts = refl
operator_back In ts = refl
operator_back Contains ts = refl
operator_back ContainsAll ts = refl
operator_back ContainsAny ts = refl
operator_back GetTag ts = refl
operator_back HasTag ts = refl
operator_back (Call f) ts = refl
operator_back (GetAttr a) ts = refl
operator_back (HasAttr a) ts = refl
operator_back (HasPath a as_) ts = refl
operator_back (Like p) ts = ap (λ q. Apply (Like q) ts) (elems_back p)
operator_back (Is n) ts = refl
operator_back MakeSet ts = refl
operator_back (MakeRecord ks) ts = refl

-- a tree put after these
abbrev followed_by : Trees → Tree → Trees
followed_by no_trees t = a_tree t no_trees
followed_by (a_tree u us) t = a_tree u (followed_by us t)

unshapes_followed : (ns : Nodes) (n : Node) → unshapes (followed ns n) ≡ followed_by (unshapes ns) (unshape n)
unshapes_followed no_nodes n = refl
unshapes_followed (a_node m ms) n = ap (a_tree (unshape m)) (unshapes_followed ms n)

last_is : (u : Tree) (us : Trees) (t : Tree) → last_tree u (followed_by us t) ≡ t
last_is u no_trees t = refl
last_is u (a_tree v vs) t = last_is v vs t

earlier_are : (u : Tree) (us : Trees) (t : Tree) → earlier_trees u (followed_by us t) ≡ a_tree u us
earlier_are u no_trees t = refl
earlier_are u (a_tree v vs) t = ap (a_tree u) (earlier_are v vs t)

last_first_is : (us : Trees) (t : Tree) → last_first (followed_by us t) ≡ a_tree t us
last_first_is no_trees t = refl
last_first_is (a_tree u us) t = rw (last_is u us t, earlier_are u us t) refl

mutual
  back : (t : Tree) → unshape (shape t) ≡ t
  back (Lit l) = ap Lit (literal_back l)
  back (Var v) = ap Var (variable_back v)
  back (Slot s) = ap Slot (slot_back s)
  back (Unknown n ty) = ap (Unknown n) (type_back ty)
  back (If t y n) = rw (back t, back y, back n) refl
  back (And l r) = rw (back l, back r) refl
  back (Or l r) = rw (back l, back r) refl
  back (Apply op ts) = operator_back op (last_first (unshapes (first_last ts))) ∙ ap (Apply op) (turned_back ts)

  all_back : (ts : Trees) → unshapes (shapes ts) ≡ ts
  all_back no_trees = refl
  all_back (a_tree t ts) = rw (back t, all_back ts) refl

  turned_back : (ts : Trees) → last_first (unshapes (first_last ts)) ≡ ts
  turned_back no_trees = refl
  turned_back (a_tree t ts) = ap last_first (unshapes_followed (shapes ts) (shape t)) ∙ last_first_is (unshapes (shapes ts)) (unshape (shape t)) ∙ rw (back t, all_back ts) refl

shape_inj : (s t : Tree) → shape s ≡ shape t → s ≡ t
shape_inj s t e = sym (back s) ∙ ap unshape e ∙ back t

-- trees that tie are equal
pub tree_cmp_same : IsAntisymmetric tree_cmp
tree_cmp_same s t e = shape_inj s t (node_same (shape s) (shape t) e)
