-- What a construct holds beside its parts, as a node.
use Rattle.std.specs.Prelude.{ℕ, zero, suc, pos, List, [], ◌∷◌, map, Option}
use Rattle.std.specs.Rc.{rc_str_bytes}
use Rattle.cedar_language.specs.Uid.{Text}
use Rattle.cedar_language.specs.Tree.{ValueType}
use Rattle.cedar_language.specs.Order.{head, Node, node, no_nodes, a_node, literal_head}
use Rattle.cedar_grammar.specs.Build.{keys}
use Rattle.cedar_literals.specs.Literals.{literal_of}
use Rattle.cedar_trees.specs.Bare.{bare_entries}
use Rattle.cedar_trees.specs.Unknowns.{unknown_name, unknown_type}
use Rattle.cedar_shapes.specs.ShapeOrder.{leaf, numbered, type_node, elem_nodes}
use Rattle.cedar_shapes.specs.declared.marks.Held.{Held}
use Rattle.cedar_shapes.specs.declared.marks.Held.TheVariants.{Nothing, Literal, Number, Unknown, Name, Text as AText, Path, Pattern, Keys}

abbrev pub unknown_node : Text → Option ValueType → Node
unknown_node n ty = node (head 0 (pos 0) [] (n ∷ [])) (type_node ty)

abbrev pub held_node : {T : Type 0} → Held T → Node
held_node Nothing = numbered 0 0
held_node (Literal l) = node (head 0 (pos 0) [] []) (a_node (leaf (literal_head (literal_of l.now))) no_nodes)
held_node (Number n) = numbered 0 n
held_node (Unknown u) = unknown_node (unknown_name u.now) (unknown_type u.now)
held_node (Name n) = leaf (head 0 (pos 0) (n.now ∷ []) [])
held_node (AText s) = leaf (head 0 (pos 0) [] (rc_str_bytes s.now ∷ []))
held_node (Path p) = leaf (head 0 (pos 0) [] (rc_str_bytes p.now.head ∷ map rc_str_bytes p.now.tail.items))
held_node (Pattern p) = node (head 0 (pos 0) [] []) (elem_nodes p.now)
held_node (Keys m) = leaf (head 0 (pos 0) [] (keys (bare_entries m.now.entries)))

-- the same node, of a construct of this kind
abbrev pub as_kind : ℕ → Node → Node
as_kind k (node h ns) = node (head k h.number h.names h.texts) ns

-- which of the forms above it has
abbrev pub held_sort : {T : Type 0} → Held T → ℕ
held_sort Nothing = 0
held_sort (Literal l) = 1
held_sort (Number n) = 2
held_sort (Unknown u) = 3
held_sort (Name n) = 4
held_sort (AText s) = 5
held_sort (Path p) = 6
held_sort (Pattern p) = 7
held_sort (Keys m) = 8

abbrev sort_among : ℕ → List ℕ → ℕ
sort_among n [] = 0
sort_among zero (s ∷ ss) = s
sort_among (suc n) (s ∷ ss) = sort_among n ss

-- the form that constructs of this kind have
abbrev pub sort_of_kind : ℕ → ℕ
sort_of_kind n = sort_among n (1 ∷ 2 ∷ 2 ∷ 3 ∷ 0 ∷ 0 ∷ 0 ∷ 2 ∷ 2 ∷ 4 ∷ 5 ∷ 5 ∷ 6 ∷ 7 ∷ 4 ∷ 0 ∷ 8 ∷ [])
