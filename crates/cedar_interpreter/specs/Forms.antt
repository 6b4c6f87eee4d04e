-- How trees are evaluated, by their constructs.
use Rattle.std.specs.Prelude.{◌≡◌, Bool, true, false, map}
use Rattle.std.specs.Rc.{rc_str_bytes}
use Rattle.cedar_language.specs.Tree as tree
use Rattle.cedar_language.specs.Tree.{Operator, Tree, Lit, Var, Slot, Unknown, Apply}
use Rattle.cedar_grammar.specs.Build.{unary, binary}
use Rattle.cedar_literals.specs.Operators.{unary_operator_of, binary_operator_of}
use Rattle.cedar_trees.specs.Bare.{bare}
use Rattle.cedar_interpreter.specs.declared.operands.UnaryOperator.{UnaryOperator}
use Rattle.cedar_interpreter.specs.declared.operands.UnaryOperator.TheVariants as on
use Rattle.cedar_interpreter.specs.declared.operands.Operands.{Operands}
use Rattle.cedar_interpreter.specs.declared.operands.Operands.TheVariants as parts
use Rattle.cedar_interpreter.specs.declared.forms.Form.{Form}
use Rattle.cedar_interpreter.specs.declared.forms.Form.TheVariants as form

abbrev pub is_leaf : Tree → Bool
is_leaf (Lit l) = true
is_leaf (Var v) = true
is_leaf (Slot s) = true
is_leaf (Unknown n ty) = true
is_leaf t = false

-- the operator of one operand, with what it names besides
abbrev pub unary_operator : UnaryOperator → Operator
unary_operator (on.Applied op) = unary_operator_of op
unary_operator (on.Has a) = tree.HasAttr (rc_str_bytes a.now)
unary_operator (on.HasPath p) = tree.HasPath (rc_str_bytes p.now.head) (map rc_str_bytes p.now.tail.items)
unary_operator (on.Like p) = tree.Like p.now
unary_operator (on.Is ty) = tree.Is ty.now

-- a call, a set or a record: it has as many parts as it is given
abbrev pub is_of_list : Tree → Bool
is_of_list (Apply (tree.Call f) ts) = true
is_of_list (Apply tree.MakeSet ts) = true
is_of_list (Apply (tree.MakeRecord ks) ts) = true
is_of_list t = false

-- all parts are evaluated, from the left, and what is left of them is evaluated no further
abbrev pub IsOperands : Tree → Operands → Type 0
IsOperands t (parts.One op e) = t ≡ unary (unary_operator op) (bare e.now)
IsOperands t (parts.Two op l r) = t ≡ binary (binary_operator_of op) (bare l.now) (bare r.now)
IsOperands t parts.List = is_of_list t ≡ true

abbrev pub IsForm : Tree → Form → Type 0
IsForm t form.Leaf = is_leaf t ≡ true
IsForm t (form.If a b c) = t ≡ tree.If (bare a.now) (bare b.now.value) (bare c.now.value)
IsForm t (form.And l r) = t ≡ tree.And (bare l.now) (bare r.now.value)
IsForm t (form.Or l r) = t ≡ tree.Or (bare l.now) (bare r.now.value)
IsForm t (form.GetAttr e a) = t ≡ unary (tree.GetAttr (rc_str_bytes a.now)) (bare e.now)
IsForm t (form.Strict operands) = IsOperands t operands
