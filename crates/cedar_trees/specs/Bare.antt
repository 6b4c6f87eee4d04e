-- The bare tree of an expression: without place, data and sharing.
use Rattle.std.specs.Prelude.{List, map}
use Rattle.std.specs.Rc.{rc_str_bytes}
use Rattle.std.specs.declared.rc.RcStr.{RcStr}
use Rattle.std.specs.declared.alloc.Global.{Global}
use Rattle.cedar_language.specs.Tree as tree
use Rattle.cedar_language.specs.Tree.{Tree, Apply}
use Rattle.cedar_grammar.specs.Build.{trees, unary, binary, Keyed, keys}
use Rattle.cedar_literals.specs.Literals.{literal_of}
use Rattle.cedar_literals.specs.Variables.{variable_of}
use Rattle.cedar_literals.specs.Operators.{unary_operator_of, binary_operator_of}
use Rattle.cedar_trees.specs.Unknowns.{unknown_name, unknown_type}
use Rattle.cedar_trees.specs.declared.expr.Expr.{Expr, Expr-F, fold-Expr}
use Rattle.cedar_trees.specs.declared.expr.ExprKind.{ExprKind, ExprKind-F, fold-ExprKind}

-- a record of these entries, in this order
abbrev pub record_tree : List (Keyed Tree) → Tree
record_tree es = Apply (tree.MakeRecord (keys es)) (trees (map (λ e. e.1) es))

-- the entries of a map, by their keys' texts
abbrev pub keyed : {A : Type 0} → List (RcStr Global × A) → List (Keyed A)
keyed es = map (λ e. (rc_str_bytes e.0, e.1)) es

-- one construct, whose parts are trees already
abbrev pub kind_step : {T : Type 0} → ExprKind-F T Tree Tree → Tree
kind_step (ExprKind-F.Lit l) = tree.Lit (literal_of l)
kind_step (ExprKind-F.Var v) = tree.Var (variable_of v)
kind_step (ExprKind-F.Slot s) = tree.Slot s
kind_step (ExprKind-F.Unknown u) = tree.Unknown (unknown_name u) (unknown_type u)
kind_step (ExprKind-F.If a b c) = tree.If a.value b.value c.value
kind_step (ExprKind-F.And a b) = tree.And a.value b.value
kind_step (ExprKind-F.Or a b) = tree.Or a.value b.value
kind_step (ExprKind-F.UnaryApp op a) = unary (unary_operator_of op) a.value
kind_step (ExprKind-F.BinaryApp op a b) = binary (binary_operator_of op) a.value b.value
kind_step (ExprKind-F.ExtensionFunctionApp f es) = Apply (tree.Call f) (trees es.value.items)
kind_step (ExprKind-F.GetAttr e a) = unary (tree.GetAttr (rc_str_bytes a)) e.value
kind_step (ExprKind-F.HasAttr e a) = unary (tree.HasAttr (rc_str_bytes a)) e.value
kind_step (ExprKind-F.ExtHasAttr e as_) = unary (tree.HasPath (rc_str_bytes as_.head) (map rc_str_bytes as_.tail.items)) e.value
kind_step (ExprKind-F.Like e p) = unary (tree.Like p) e.value
kind_step (ExprKind-F.Is e n) = unary (tree.Is n) e.value
kind_step (ExprKind-F.Set es) = Apply tree.MakeSet (trees es.value.items)
kind_step (ExprKind-F.Record m) = record_tree (keyed m.value.entries)

-- place and data are passed over
abbrev pub expr_step : {T : Type 0} → Expr-F T Tree Tree → Tree
expr_step e = e.expr_kind

-- the bare tree of an expression
abbrev pub bare : {T : Type 0} → Expr T → Tree
bare {T} = fold-Expr T Tree Tree kind_step expr_step

-- the bare tree of an expression of this kind
abbrev pub bare_kind : {T : Type 0} → ExprKind T → Tree
bare_kind {T} = fold-ExprKind T Tree Tree kind_step expr_step

-- the entries, with the bare trees of their expressions
abbrev pub bare_entries : {T : Type 0} → List (RcStr Global × Expr T) → List (Keyed Tree)
bare_entries es = map (λ e. (rc_str_bytes e.0, bare e.1)) es
