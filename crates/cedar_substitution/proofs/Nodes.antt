-- What is made of each kind of expression.
use Rattle.std.proofs.Common.{◌≡◌, ◌∙◌, ap, sym, refl, List, [], ◌∷◌, map, Vec, BTreeMap, Global}
use Rattle.std.specs.Prelude.{cond, Option, None, Some, Result, Ok, Err, false}
use Rattle.std.specs.List.{zip}
use Rattle.std.specs.declared.rc.Rc.{Rc}
use Rattle.std.specs.declared.rc.RcStr.{RcStr}
use Rattle.std.specs.Rc.{rc_str_bytes}
use Rattle.cedar_language.specs.Uid.{Text, Name}
use Rattle.cedar_language.specs.Tree as tree
use Rattle.cedar_language.specs.Tree.{ValueType}
use Rattle.cedar_grammar.specs.Build.{trees, keys}
use Rattle.cedar_literals.specs.Literals.{literal_of}
use Rattle.cedar_literals.specs.Operators.{unary_operator_of, binary_operator_of}
use Rattle.cedar_literals.specs.Variables.{variable_of}
use Rattle.cedar_literals.specs.declared.literals.Literal.{Literal}
use Rattle.cedar_literals.specs.declared.operators.UnaryOp.{UnaryOp}
use Rattle.cedar_literals.specs.declared.operators.UnaryOp.TheVariants as unary_op
use Rattle.cedar_literals.specs.declared.operators.BinaryOp.{BinaryOp}
use Rattle.cedar_literals.specs.declared.operators.BinaryOp.TheVariants as binary_op
use Rattle.cedar_literals.specs.declared.variables.Var.{Var}
use Rattle.cedar_trees.specs.Bare.{bare, bare_kind, bare_entries}
use Rattle.cedar_trees.specs.Unknowns.{unknown_name, unknown_type}
use Rattle.cedar_trees.specs.declared.expr.Expr.{Expr}
use Rattle.cedar_trees.specs.declared.expr.ExprKind.TheVariants as kind
use Rattle.cedar_trees.specs.declared.unknowns.Unknown.{Unknown}
use Rattle.cedar_trees.specs.declared.unknowns.NonEmpty.{NonEmpty}
use Rattle.cedar_trees.proofs.Bares.{bare_is, bare-Lit, bare-Var, bare-Slot, bare-Unknown, bare-If, bare-And, bare-Or, bare-UnaryApp, bare-BinaryApp, bare-ExtensionFunctionApp, bare-GetAttr, bare-HasAttr, bare-ExtHasAttr, bare-Like, bare-Is, bare-Set, bare-Record}
use Rattle.cedar_builders.specs.Operations.{Operations, ◌>>=◌, operated, made, made_all}
use Rattle.cedar_substitution.specs.Chains.{takes_list, first_of, refilled}

one_operand : {M R : Type 0} (o : Operations M R) (op : UnaryOp) (xs : List M) → operated o (unary_operator_of op) xs ≡ Ok (o.apply (unary_operator_of op) xs)
one_operand o unary_op.Not xs = refl
one_operand o unary_op.Neg xs = refl
one_operand o unary_op.IsEmpty xs = refl

two_operands : {M R : Type 0} (o : Operations M R) (op : BinaryOp) (xs : List M) → operated o (binary_operator_of op) xs ≡ Ok (o.apply (binary_operator_of op) xs)
two_operands o binary_op.Eq xs = refl
two_operands o binary_op.Less xs = refl
two_operands o binary_op.LessEq xs = refl
two_operands o binary_op.Add xs = refl
two_operands o binary_op.Sub xs = refl
two_operands o binary_op.Mul xs = refl
two_operands o binary_op.In xs = refl
two_operands o binary_op.Contains xs = refl
two_operands o binary_op.ContainsAll xs = refl
two_operands o binary_op.ContainsAny xs = refl
two_operands o binary_op.GetTag xs = refl
two_operands o binary_op.HasTag xs = refl

no_list_one : (op : UnaryOp) → takes_list (unary_operator_of op) ≡ false
no_list_one unary_op.Not = refl
no_list_one unary_op.Neg = refl
no_list_one unary_op.IsEmpty = refl

no_list_two : (op : BinaryOp) → takes_list (binary_operator_of op) ≡ false
no_list_two binary_op.Eq = refl
no_list_two binary_op.Less = refl
no_list_two binary_op.LessEq = refl
no_list_two binary_op.Add = refl
no_list_two binary_op.Sub = refl
no_list_two binary_op.Mul = refl
no_list_two binary_op.In = refl
no_list_two binary_op.Contains = refl
no_list_two binary_op.ContainsAll = refl
no_list_two binary_op.ContainsAny = refl
no_list_two binary_op.GetTag = refl
no_list_two binary_op.HasTag = refl

binary_filled : {M R : Type 0} (o : Operations M R) (op : BinaryOp) (x : M) (q : Result M R) → ((q >>= λ y. let none : Result (List M) R = Ok [] in none >>= λ ys. Ok (y ∷ ys)) >>= λ xs. operated o (binary_operator_of op) (x ∷ xs)) ≡ (q >>= λ y. Ok (o.apply (binary_operator_of op) (x ∷ y ∷ [])))
unfolding ◌>>=◌
binary_filled o op x (Ok y) = two_operands o op (x ∷ y ∷ [])
binary_filled o op x (Err r) = refl

module _ {T M R : Type 0} (o : Operations M R) (u : Text → Option ValueType → Result M R) where
  pub node-Lit : (e : Expr T) (l : Literal) → e.expr_kind ≡ kind.Lit l → made o u (bare e) ≡ Ok (o.val (literal_of l))
  unfolding made
  node-Lit e l is = ap (made o u) (bare_is T e ∙ ap bare_kind is ∙ bare-Lit T l)

  pub node-Var : (e : Expr T) (v : Var) → e.expr_kind ≡ kind.Var v → made o u (bare e) ≡ Ok (o.var (variable_of v))
  unfolding made
  node-Var e v is = ap (made o u) (bare_is T e ∙ ap bare_kind is ∙ bare-Var T v)

  pub node-Slot : (e : Expr T) (s : tree.SlotId) → e.expr_kind ≡ kind.Slot s → made o u (bare e) ≡ Ok (o.slot s)
  unfolding made
  node-Slot e s is = ap (made o u) (bare_is T e ∙ ap bare_kind is ∙ bare-Slot T s)

  pub node-Unknown : (e : Expr T) (n : Unknown) → e.expr_kind ≡ kind.Unknown n → made o u (bare e) ≡ u (unknown_name n) (unknown_type n)
  unfolding made
  node-Unknown e n is = ap (made o u) (bare_is T e ∙ ap bare_kind is ∙ bare-Unknown T n)

  pub node-ExtensionFunctionApp : (e : Expr T) (n : Name) (v : Rc (Vec (Expr T) Global) Global) (items : List (Expr T)) → e.expr_kind ≡ kind.ExtensionFunctionApp n v → items ≡ v.value.items → made o u (bare e) ≡ (made_all o u (trees (map bare items)) >>= o.call n)
  unfolding made
  node-ExtensionFunctionApp e n v items is same = ap (made o u) (bare_is T e ∙ ap bare_kind is ∙ bare-ExtensionFunctionApp T n v) ∙ ap (λ items. (made_all o u (trees (map bare items)) >>= o.call n)) (sym same)

  pub node-Set : (e : Expr T) (v : Rc (Vec (Expr T) Global) Global) (items : List (Expr T)) → e.expr_kind ≡ kind.Set v → items ≡ v.value.items → made o u (bare e) ≡ (made_all o u (trees (map bare items)) >>= λ xs. Ok (o.apply tree.MakeSet xs))
  unfolding made
  node-Set e v items is same = ap (made o u) (bare_is T e ∙ ap bare_kind is ∙ bare-Set T v) ∙ ap (λ items. (made_all o u (trees (map bare items)) >>= λ xs. Ok (o.apply tree.MakeSet xs))) (sym same)

  pub node-Record : (e : Expr T) (m : Rc (BTreeMap (RcStr Global) (Expr T)) Global) (items : List (RcStr Global × Expr T)) → e.expr_kind ≡ kind.Record m → items ≡ m.value.entries → made o u (bare e) ≡ (made_all o u (trees (map (λ e. e.1) (bare_entries items))) >>= λ xs. o.record_of (zip (keys (bare_entries items)) xs))
  unfolding made
  node-Record e m items is same = ap (made o u) (bare_is T e ∙ ap bare_kind is ∙ bare-Record T m) ∙ ap (λ items. (made_all o u (trees (map (λ e. e.1) (bare_entries items))) >>= λ xs. o.record_of (zip (keys (bare_entries items)) xs))) (sym same)

  pub fill-If : (e : Expr T) (a : Rc (Expr T) Global) (b : Rc (Expr T) Global) (d : Rc (Expr T) Global) (b' : Expr T) (d' : Expr T) → e.expr_kind ≡ kind.If a b d → b' ≡ b.value → d' ≡ d.value → (x : M) → refilled o u (bare e) x ≡ (made o u (bare b') >>= λ y. made o u (bare d') >>= λ z. Ok (o.ite x y z))
  unfolding made ◌>>=◌
  fill-If e a b d b' d' is same_b same_d x = ap (λ t. refilled o u t x) (bare_is T e ∙ ap bare_kind is ∙ bare-If T a b d) ∙ ap (λ w. (made o u (bare w) >>= λ y. made o u (bare d.value) >>= λ z. Ok (o.ite x y z))) (sym same_b) ∙ ap (λ w. (made o u (bare b') >>= λ y. made o u (bare w) >>= λ z. Ok (o.ite x y z))) (sym same_d)

  pub fill-And : (e : Expr T) (a : Rc (Expr T) Global) (b : Rc (Expr T) Global) (b' : Expr T) → e.expr_kind ≡ kind.And a b → b' ≡ b.value → (x : M) → refilled o u (bare e) x ≡ (made o u (bare b') >>= λ y. Ok (o.and x y))
  unfolding made ◌>>=◌
  fill-And e a b b' is same_b x = ap (λ t. refilled o u t x) (bare_is T e ∙ ap bare_kind is ∙ bare-And T a b) ∙ ap (λ w. (made o u (bare w) >>= λ y. Ok (o.and x y))) (sym same_b)

  pub fill-Or : (e : Expr T) (a : Rc (Expr T) Global) (b : Rc (Expr T) Global) (b' : Expr T) → e.expr_kind ≡ kind.Or a b → b' ≡ b.value → (x : M) → refilled o u (bare e) x ≡ (made o u (bare b') >>= λ y. Ok (o.or x y))
  unfolding made ◌>>=◌
  fill-Or e a b b' is same_b x = ap (λ t. refilled o u t x) (bare_is T e ∙ ap bare_kind is ∙ bare-Or T a b) ∙ ap (λ w. (made o u (bare w) >>= λ y. Ok (o.or x y))) (sym same_b)

  pub fill-UnaryApp : (e : Expr T) (op : UnaryOp) (a : Rc (Expr T) Global) → e.expr_kind ≡ kind.UnaryApp op a → (x : M) → refilled o u (bare e) x ≡ Ok (o.apply (unary_operator_of op) (x ∷ []))
  unfolding made ◌>>=◌
  fill-UnaryApp e op a is x = ap (λ t. refilled o u t x) (bare_is T e ∙ ap bare_kind is ∙ bare-UnaryApp T op a) ∙ one_operand o op (x ∷ [])

  pub fill-BinaryApp : (e : Expr T) (op : BinaryOp) (a : Rc (Expr T) Global) (b : Rc (Expr T) Global) (b' : Expr T) → e.expr_kind ≡ kind.BinaryApp op a b → b' ≡ b.value → (x : M) → refilled o u (bare e) x ≡ (made o u (bare b') >>= λ y. Ok (o.apply (binary_operator_of op) (x ∷ y ∷ [])))
  unfolding made ◌>>=◌
  fill-BinaryApp e op a b b' is same_b x = ap (λ t. refilled o u t x) (bare_is T e ∙ ap bare_kind is ∙ bare-BinaryApp T op a b) ∙ binary_filled o op x (made o u (bare b.value)) ∙ ap (λ w. (made o u (bare w) >>= λ y. Ok (o.apply (binary_operator_of op) (x ∷ y ∷ [])))) (sym same_b)

  pub fill-GetAttr : (e : Expr T) (a : Rc (Expr T) Global) (t : RcStr Global) → e.expr_kind ≡ kind.GetAttr a t → (x : M) → refilled o u (bare e) x ≡ Ok (o.apply (tree.GetAttr (rc_str_bytes t)) (x ∷ []))
  unfolding made ◌>>=◌
  fill-GetAttr e a t is x = ap (λ t. refilled o u t x) (bare_is T e ∙ ap bare_kind is ∙ bare-GetAttr T a t)

  pub fill-HasAttr : (e : Expr T) (a : Rc (Expr T) Global) (t : RcStr Global) → e.expr_kind ≡ kind.HasAttr a t → (x : M) → refilled o u (bare e) x ≡ Ok (o.apply (tree.HasAttr (rc_str_bytes t)) (x ∷ []))
  unfolding made ◌>>=◌
  fill-HasAttr e a t is x = ap (λ t. refilled o u t x) (bare_is T e ∙ ap bare_kind is ∙ bare-HasAttr T a t)

  pub fill-ExtHasAttr : (e : Expr T) (a : Rc (Expr T) Global) (p : NonEmpty (RcStr Global)) → e.expr_kind ≡ kind.ExtHasAttr a p → (x : M) → refilled o u (bare e) x ≡ Ok (o.apply (tree.HasPath (rc_str_bytes p.head) (map rc_str_bytes p.tail.items)) (x ∷ []))
  unfolding made ◌>>=◌
  fill-ExtHasAttr e a p is x = ap (λ t. refilled o u t x) (bare_is T e ∙ ap bare_kind is ∙ bare-ExtHasAttr T a p)

  pub fill-Like : (e : Expr T) (a : Rc (Expr T) Global) (p : List tree.PatternElem) → e.expr_kind ≡ kind.Like a p → (x : M) → refilled o u (bare e) x ≡ Ok (o.apply (tree.Like p) (x ∷ []))
  unfolding made ◌>>=◌
  fill-Like e a p is x = ap (λ t. refilled o u t x) (bare_is T e ∙ ap bare_kind is ∙ bare-Like T a p)

  pub fill-Is : (e : Expr T) (a : Rc (Expr T) Global) (n : Name) → e.expr_kind ≡ kind.Is a n → (x : M) → refilled o u (bare e) x ≡ Ok (o.apply (tree.Is n) (x ∷ []))
  unfolding made ◌>>=◌
  fill-Is e a n is x = ap (λ t. refilled o u t x) (bare_is T e ∙ ap bare_kind is ∙ bare-Is T a n)

-- a construct with a first part is no end of a chain
module _ {T : Type 0} (e : Expr T) where
  pub goes_on-If : (a : Rc (Expr T) Global) (b : Rc (Expr T) Global) (d : Rc (Expr T) Global) → e.expr_kind ≡ kind.If a b d → first_of (bare e) ≡ Some (bare a.value)
  goes_on-If a b d is = ap first_of (bare_is T e ∙ ap bare_kind is ∙ bare-If T a b d)

  pub goes_on-And : (a : Rc (Expr T) Global) (b : Rc (Expr T) Global) → e.expr_kind ≡ kind.And a b → first_of (bare e) ≡ Some (bare a.value)
  goes_on-And a b is = ap first_of (bare_is T e ∙ ap bare_kind is ∙ bare-And T a b)

  pub goes_on-Or : (a : Rc (Expr T) Global) (b : Rc (Expr T) Global) → e.expr_kind ≡ kind.Or a b → first_of (bare e) ≡ Some (bare a.value)
  goes_on-Or a b is = ap first_of (bare_is T e ∙ ap bare_kind is ∙ bare-Or T a b)

  pub goes_on-UnaryApp : (op : UnaryOp) (a : Rc (Expr T) Global) → e.expr_kind ≡ kind.UnaryApp op a → first_of (bare e) ≡ Some (bare a.value)
  goes_on-UnaryApp op a is = ap first_of (bare_is T e ∙ ap bare_kind is ∙ bare-UnaryApp T op a) ∙ ap (λ z. cond z None (Some (bare a.value))) (no_list_one op)

  pub goes_on-BinaryApp : (op : BinaryOp) (a : Rc (Expr T) Global) (b : Rc (Expr T) Global) → e.expr_kind ≡ kind.BinaryApp op a b → first_of (bare e) ≡ Some (bare a.value)
  goes_on-BinaryApp op a b is = ap first_of (bare_is T e ∙ ap bare_kind is ∙ bare-BinaryApp T op a b) ∙ ap (λ z. cond z None (Some (bare a.value))) (no_list_two op)

  pub goes_on-GetAttr : (a : Rc (Expr T) Global) (t : RcStr Global) → e.expr_kind ≡ kind.GetAttr a t → first_of (bare e) ≡ Some (bare a.value)
  goes_on-GetAttr a t is = ap first_of (bare_is T e ∙ ap bare_kind is ∙ bare-GetAttr T a t)

  pub goes_on-HasAttr : (a : Rc (Expr T) Global) (t : RcStr Global) → e.expr_kind ≡ kind.HasAttr a t → first_of (bare e) ≡ Some (bare a.value)
  goes_on-HasAttr a t is = ap first_of (bare_is T e ∙ ap bare_kind is ∙ bare-HasAttr T a t)

  pub goes_on-ExtHasAttr : (a : Rc (Expr T) Global) (p : NonEmpty (RcStr Global)) → e.expr_kind ≡ kind.ExtHasAttr a p → first_of (bare e) ≡ Some (bare a.value)
  goes_on-ExtHasAttr a p is = ap first_of (bare_is T e ∙ ap bare_kind is ∙ bare-ExtHasAttr T a p)

  pub goes_on-Like : (a : Rc (Expr T) Global) (p : List tree.PatternElem) → e.expr_kind ≡ kind.Like a p → first_of (bare e) ≡ Some (bare a.value)
  goes_on-Like a p is = ap first_of (bare_is T e ∙ ap bare_kind is ∙ bare-Like T a p)

  pub goes_on-Is : (a : Rc (Expr T) Global) (n : Name) → e.expr_kind ≡ kind.Is a n → first_of (bare e) ≡ Some (bare a.value)
  goes_on-Is a n is = ap first_of (bare_is T e ∙ ap bare_kind is ∙ bare-Is T a n)
