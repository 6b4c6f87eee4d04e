-- How trees are typed, by their constructs.
use Rattle.std.specs.Prelude.{◌≡◌, map}
use Rattle.std.specs.Rc.{rc_str_bytes}
use Rattle.cedar_language.specs.Tree as tree
use Rattle.cedar_language.specs.Tree.{Operator, Tree, Lit, Var, Slot, Unknown, Apply, Trees}
use Rattle.cedar_grammar.specs.Build.{trees, unary, binary, keys}
use Rattle.cedar_literals.specs.Literals.{literal_of}
use Rattle.cedar_literals.specs.Variables.{variable_of}
use Rattle.cedar_literals.specs.Operators.{unary_operator_of, binary_operator_of}
use Rattle.cedar_trees.specs.Bare.{bare, bare_entries}
use Rattle.cedar_trees.specs.Unknowns.{unknown_name, unknown_type}
use Rattle.cedar_typechecker.specs.declared.operands.UnaryOperator.{UnaryOperator}
use Rattle.cedar_typechecker.specs.declared.operands.UnaryOperator.TheVariants as on
use Rattle.cedar_typechecker.specs.declared.operands.ListOperator.{ListOperator}
use Rattle.cedar_typechecker.specs.declared.operands.ListOperator.TheVariants as made_by
use Rattle.cedar_typechecker.specs.declared.forms.Leaf.{Leaf}
use Rattle.cedar_typechecker.specs.declared.forms.Leaf.TheVariants as leaf
use Rattle.cedar_typechecker.specs.declared.forms.Form.{Form}
use Rattle.cedar_typechecker.specs.declared.forms.Form.TheVariants as form

abbrev pub leaf_tree : Leaf → Tree
leaf_tree (leaf.Literal l) = Lit (literal_of l.now)
leaf_tree (leaf.Variable v) = Var (variable_of v)
leaf_tree (leaf.Slot s) = Slot s
leaf_tree (leaf.Unknown u) = Unknown (unknown_name u.now) (unknown_type u.now)

-- the operator of one operand, with what it names besides
abbrev pub unary_operator : UnaryOperator → Operator
unary_operator (on.Applied op) = unary_operator_of op
unary_operator (on.Get a) = tree.GetAttr (rc_str_bytes a.now)
unary_operator (on.Has a) = tree.HasAttr (rc_str_bytes a.now)
unary_operator (on.HasPath p) = tree.HasPath (rc_str_bytes p.now.head) (map rc_str_bytes p.now.tail.items)
unary_operator (on.Like p) = tree.Like p.now
unary_operator (on.Is n) = tree.Is n.now

-- the operator of any number of parts, and these
abbrev pub list_operator : ListOperator → Operator
list_operator (made_by.Set items) = tree.MakeSet
list_operator (made_by.Record m) = tree.MakeRecord (keys (bare_entries m.now.entries))
list_operator (made_by.Call f args) = tree.Call f.now

abbrev pub list_parts : ListOperator → Trees
list_parts (made_by.Set items) = trees (map bare items.now)
list_parts (made_by.Record m) = trees (map (λ e. e.1) (bare_entries m.now.entries))
list_parts (made_by.Call f args) = trees (map bare args.now)

abbrev pub IsForm : Tree → Form → Type 0
IsForm t (form.Leaf l) = t ≡ leaf_tree l
IsForm t (form.If a b c) = t ≡ tree.If (bare a.now) (bare b.now) (bare c.now)
IsForm t (form.And l r) = t ≡ tree.And (bare l.now) (bare r.now)
IsForm t (form.Or l r) = t ≡ tree.Or (bare l.now) (bare r.now)
IsForm t (form.One o x) = t ≡ unary (unary_operator o) (bare x.now.value)
IsForm t (form.Two op l r) = t ≡ binary (binary_operator_of op) (bare l.now.value) (bare r.now.value)
IsForm t (form.List o) = t ≡ Apply (list_operator o) (list_parts o)
