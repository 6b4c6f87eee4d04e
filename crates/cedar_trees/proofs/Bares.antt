-- The bare tree of each kind of expression.
use Rattle.std.proofs.Common.{◌≡◌, refl, ap, ◌∙◌, List, [], ◌∷◌, map, rules, Vec, BTreeMap, Global}
use Rattle.std.specs.declared.rc.Rc.{Rc}
use Rattle.std.specs.declared.rc.RcStr.{RcStr}
use Rattle.std.specs.Rc.{rc_str_bytes}
use Rattle.cedar_language.specs.Uid.{Name}
use Rattle.cedar_language.specs.Tree as tree
use Rattle.cedar_grammar.specs.Build.{trees, unary, binary}
use Rattle.cedar_literals.specs.Literals.{literal_of}
use Rattle.cedar_literals.specs.Operators.{unary_operator_of, binary_operator_of}
use Rattle.cedar_literals.specs.Variables.{variable_of}
use Rattle.cedar_literals.specs.declared.literals.Literal.{Literal}
use Rattle.cedar_literals.specs.declared.operators.UnaryOp.{UnaryOp}
use Rattle.cedar_literals.specs.declared.operators.BinaryOp.{BinaryOp}
use Rattle.cedar_literals.specs.declared.variables.Var.{Var}
use Rattle.cedar_trees.specs.Bare.{bare, bare_kind, bare_entries, keyed, record_tree}
use Rattle.cedar_trees.specs.Unknowns.{unknown_name, unknown_type}
use Rattle.cedar_trees.specs.declared.expr.Expr.{Expr}
use Rattle.cedar_trees.specs.declared.expr.ExprKind.{the_lemmas}
use Rattle.cedar_trees.specs.declared.expr.ExprKind.TheVariants as kind
use Rattle.cedar_trees.specs.declared.unknowns.Unknown.{Unknown}
use Rattle.cedar_trees.specs.declared.unknowns.NonEmpty.{NonEmpty}

module _ (T : Type 0) where
  pub bare_is : (e : Expr T) → bare e ≡ bare_kind e.expr_kind
  bare_is e = search (rules, the_lemmas)

  pub bare-Lit : (l : Literal) → bare_kind {T = T} (kind.Lit l) ≡ tree.Lit (literal_of l)
  bare-Lit l = search (rules, the_lemmas)

  pub bare-Var : (v : Var) → bare_kind {T = T} (kind.Var v) ≡ tree.Var (variable_of v)
  bare-Var v = search (rules, the_lemmas)

  pub bare-Slot : (s : tree.SlotId) → bare_kind {T = T} (kind.Slot s) ≡ tree.Slot s
  bare-Slot s = search (rules, the_lemmas)

  pub bare-Unknown : (u : Unknown) → bare_kind {T = T} (kind.Unknown u) ≡ tree.Unknown (unknown_name u) (unknown_type u)
  bare-Unknown u = search (rules, the_lemmas)

  pub bare-If : (a : Rc (Expr T) Global) (b : Rc (Expr T) Global) (d : Rc (Expr T) Global) → bare_kind {T = T} (kind.If a b d) ≡ tree.If (bare a.value) (bare b.value) (bare d.value)
  bare-If a b d = search (rules, the_lemmas)

  pub bare-And : (a : Rc (Expr T) Global) (b : Rc (Expr T) Global) → bare_kind {T = T} (kind.And a b) ≡ tree.And (bare a.value) (bare b.value)
  bare-And a b = search (rules, the_lemmas)

  pub bare-Or : (a : Rc (Expr T) Global) (b : Rc (Expr T) Global) → bare_kind {T = T} (kind.Or a b) ≡ tree.Or (bare a.value) (bare b.value)
  bare-Or a b = search (rules, the_lemmas)

  pub bare-UnaryApp : (op : UnaryOp) (a : Rc (Expr T) Global) → bare_kind {T = T} (kind.UnaryApp op a) ≡ unary (unary_operator_of op) (bare a.value)
  bare-UnaryApp op a = search (rules, the_lemmas)

  pub bare-BinaryApp : (op : BinaryOp) (a : Rc (Expr T) Global) (b : Rc (Expr T) Global) → bare_kind {T = T} (kind.BinaryApp op a b) ≡ binary (binary_operator_of op) (bare a.value) (bare b.value)
  bare-BinaryApp op a b = search (rules, the_lemmas)

  pub bare-ExtensionFunctionApp : (n : Name) (v : Rc (Vec (Expr T) Global) Global) → bare_kind {T = T} (kind.ExtensionFunctionApp n v) ≡ tree.Apply (tree.Call n) (trees (map bare v.value.items))
  bare-ExtensionFunctionApp n v = search (rules, the_lemmas)

  pub bare-GetAttr : (a : Rc (Expr T) Global) (t : RcStr Global) → bare_kind {T = T} (kind.GetAttr a t) ≡ unary (tree.GetAttr (rc_str_bytes t)) (bare a.value)
  bare-GetAttr a t = search (rules, the_lemmas)

  pub bare-HasAttr : (a : Rc (Expr T) Global) (t : RcStr Global) → bare_kind {T = T} (kind.HasAttr a t) ≡ unary (tree.HasAttr (rc_str_bytes t)) (bare a.value)
  bare-HasAttr a t = search (rules, the_lemmas)

  pub bare-ExtHasAttr : (a : Rc (Expr T) Global) (p : NonEmpty (RcStr Global)) → bare_kind {T = T} (kind.ExtHasAttr a p) ≡ unary (tree.HasPath (rc_str_bytes p.head) (map rc_str_bytes p.tail.items)) (bare a.value)
  bare-ExtHasAttr a p = search (rules, the_lemmas)

  pub bare-Like : (a : Rc (Expr T) Global) (p : List tree.PatternElem) → bare_kind {T = T} (kind.Like a p) ≡ unary (tree.Like p) (bare a.value)
  bare-Like a p = search (rules, the_lemmas)

  pub bare-Is : (a : Rc (Expr T) Global) (n : Name) → bare_kind {T = T} (kind.Is a n) ≡ unary (tree.Is n) (bare a.value)
  bare-Is a n = search (rules, the_lemmas)

  pub bare-Set : (v : Rc (Vec (Expr T) Global) Global) → bare_kind {T = T} (kind.Set v) ≡ tree.Apply tree.MakeSet (trees (map bare v.value.items))
  bare-Set v = search (rules, the_lemmas)

  bare_map : (es : List (RcStr Global × Expr T)) → keyed (map (λ e. (e.0, bare e.1)) es) ≡ bare_entries es
  bare_map [] = refl
  bare_map (e ∷ es) = ap (λ rest. (rc_str_bytes e.0, bare e.1) ∷ rest) (bare_map es)

  pub bare-Record : (m : Rc (BTreeMap (RcStr Global) (Expr T)) Global) → bare_kind {T = T} (kind.Record m) ≡ record_tree (bare_entries m.value.entries)
  bare-Record m =
      let folded : bare_kind {T = T} (kind.Record m) ≡ record_tree (keyed (map (λ e. (e.0, bare e.1)) m.value.entries)) = search (rules, the_lemmas) in
      folded ∙ ap record_tree (bare_map m.value.entries)

pub ruleset bares = (bare_is, bare-Lit, bare-Var, bare-Slot, bare-Unknown, bare-If, bare-And, bare-Or, bare-UnaryApp, bare-BinaryApp, bare-ExtensionFunctionApp, bare-GetAttr, bare-HasAttr, bare-ExtHasAttr, bare-Like, bare-Is, bare-Set, bare-Record)
