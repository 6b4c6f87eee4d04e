-- What is left of constructs of which some parts wait.
use Rattle.std.proofs.Common.{◌≡◌, ◌∙◌, refl, ap, sym, subst, ℕ, suc, List, [], ◌∷◌, map, length, Bool, true, false, BTreeMap, Global}
use Rattle.std.specs.Prelude.{Option, Some, None, cond, is_some, IfOk, Result}
use Rattle.std.specs.Map.{lookup}
use Rattle.std.specs.declared.rc.Rc.{Rc}
use Rattle.std.specs.declared.rc.RcStr.{RcStr}
use Rattle.cedar_language.specs.Uid.{Text, Name}
use Rattle.cedar_language.specs.Tree.{Boolean, HasAttr, Is, MakeRecord, Operator, Tree, Lit, Var, Slot, Unknown, If, And, Or, Apply, Trees, no_trees, a_tree, ValueType, EntityType}
use Rattle.cedar_language.specs.Facts.{Facts}
use Rattle.cedar_language.specs.Restricted.{is_projectable, are_projectable}
use Rattle.cedar_language.specs.Value.{Plain}
use Rattle.cedar_partial_evaluation.specs.Partial.{Answer, Evaluated, ResidualTree, LeafAnswers, found_tree, has_entry_answer, has_answer, is_answer, stated_type, types_differ, equal_answer, residual_answer}
use Rattle.cedar_grammar.specs.Build.{trees, keys, binary}
use Rattle.cedar_literals.specs.Operators.{unary_operator_of, binary_operator_of}
use Rattle.cedar_literals.specs.declared.operators.UnaryOp.{UnaryOp}
use Rattle.cedar_literals.specs.declared.operators.UnaryOp.TheVariants as unary_op
use Rattle.cedar_literals.specs.declared.operators.BinaryOp.{BinaryOp}
use Rattle.cedar_literals.specs.declared.operators.BinaryOp.TheVariants as binary_op
use Rattle.cedar_shapes.specs.Parts.{listed, parts}
use Rattle.cedar_trees.specs.Bare.{bare, bare_kind, bare_entries, record_tree}
use Rattle.cedar_trees.specs.declared.expr.ExprKind.TheVariants as kind
use Rattle.cedar_trees.proofs.Bares.{bare_is, bare-Record}
use Rattle.cedar_trees.specs.declared.expr.Expr.{Expr}
use Rattle.cedar_restricted.proofs.Rising.{texts, keys_are}
use Rattle.cedar_restricted.specs.PartialValues.{partial_of}
use Rattle.cedar_restricted.specs.declared.partial_values.PartialValue.{PartialValue}
use Rattle.cedar_interpreter.specs.Meeting.{part_answer}
use Rattle.cedar_interpreter.specs.Operating.{left_in, is_decided, told_key, told_type}
use Rattle.cedar_interpreter.proofs.Projecting.{is_found, record_trees, is_name}

module _ (facts : Facts) (holds : LeafAnswers) where
  pub one_left : (op : UnaryOp) (us : Trees) → residual_answer facts holds (unary_operator_of op) us ≡ ResidualTree (Apply (unary_operator_of op) us)
  one_left unary_op.Not us = refl
  one_left unary_op.Neg us = refl
  one_left unary_op.IsEmpty us = refl

  -- false where it is decided
  abbrev pub of_two : BinaryOp → Tree → Tree → Bool → Answer
  of_two op l r true = Evaluated (Plain (Boolean false))
  of_two op l r false = ResidualTree (binary (binary_operator_of op) l r)

  equal_left : (b : Bool) (l r : Tree) → equal_answer b l r ≡ of_two binary_op.Eq l r b
  equal_left true l r = refl
  equal_left false l r = refl

  pub two_left : (op : BinaryOp) (l r : Tree) → residual_answer facts holds (binary_operator_of op) (a_tree l (a_tree r no_trees)) ≡ of_two op l r (is_decided op l r)
  two_left binary_op.Eq l r = equal_left (types_differ (stated_type l) (stated_type r)) l r
  two_left binary_op.Less l r = refl
  two_left binary_op.LessEq l r = refl
  two_left binary_op.Add l r = refl
  two_left binary_op.Sub l r = refl
  two_left binary_op.Mul l r = refl
  two_left binary_op.In l r = refl
  two_left binary_op.Contains l r = refl
  two_left binary_op.ContainsAll l r = refl
  two_left binary_op.ContainsAny l r = refl
  two_left binary_op.GetTag l r = refl
  two_left binary_op.HasTag l r = refl

-- a Boolean where it is told, and else the construct
abbrev pub told_or : Operator → Tree → Option Bool → Answer
told_or op t (Some b) = Evaluated (Plain (Boolean b))
told_or op t None = ResidualTree (Apply op (a_tree t no_trees))

entry_left : (a : Text) (r : Tree) (b : Bool) (o : Option Tree) → has_entry_answer a r b o ≡ told_or (HasAttr a) r (cond b (Some (is_some o)) None)
entry_left a r true (Some t) = refl
entry_left a r true None = refl
entry_left a r false o = refl

pub has_left : (a : Text) (t : Tree) → has_answer a t ≡ told_or (HasAttr a) t (told_key a t)
has_left a (Apply (MakeRecord ks) ts) = entry_left a (Apply (MakeRecord ks) ts) (are_projectable ts) (found_tree ks ts a)
has_left a (Apply _ ts) = refl
has_left a (Lit l) = refl
has_left a (Var v) = refl
has_left a (Slot s) = refl
has_left a (Unknown n ty) = refl
has_left a (If t y n) = refl
has_left a (And l r) = refl
has_left a (Or l r) = refl

unknown_left : (ty : Name) (m : Text) (o : Option ValueType) → is_answer ty (Unknown m o) ≡ told_or (Is ty) (Unknown m o) (told_type ty (Unknown m o))
unknown_left ty m None = refl
unknown_left ty m (Some (EntityType u)) = refl
unknown_left ty m (Some _) = refl

pub is_left : (ty : Name) (t : Tree) → is_answer ty t ≡ told_or (Is ty) t (told_type ty t)
is_left ty (Unknown m o) = unknown_left ty m o
is_left ty (Lit l) = refl
is_left ty (Var v) = refl
is_left ty (Slot s) = refl
is_left ty (If t y n) = refl
is_left ty (And l r) = refl
is_left ty (Or l r) = refl
is_left ty (Apply op ts) = refl

-- ---- records by their maps

abbrev Entries : Type 0
Entries = List (RcStr Global × Expr (Unit {0}))

bare_values : (es : Entries) → map (λ e. e.1) (bare_entries es) ≡ map bare (map (λ e. e.1) es)
bare_values [] = refl
bare_values (e ∷ es) = ap (λ ts. bare e.1 ∷ ts) (bare_values es)

pub keyed_record : (entries made : Entries) (items : List (Expr (Unit {0}))) → texts made ≡ texts entries → map (λ e. e.1) made ≡ items → record_tree (bare_entries made) ≡ Apply (MakeRecord (keys (bare_entries entries))) (trees (map bare items))
keyed_record entries made items ks is =
    ap (λ ks. Apply (MakeRecord ks) (trees (map (λ e. e.1) (bare_entries made)))) (keys_are made ∙ ks ∙ sym (keys_are entries))
    ∙ ap (λ ts. Apply (MakeRecord (keys (bare_entries entries))) (trees ts)) (bare_values made ∙ ap (map bare) is)

record_parts : (es : Entries) → length (listed (trees (map (λ e. e.1) (bare_entries es)))) ≡ length es
record_parts [] = refl
record_parts (e ∷ es) = ap suc (record_parts es)

module _ (e : Expr (Unit {0})) (m : Rc (BTreeMap (RcStr Global) (Expr (Unit {0}))) Global) (is : e.expr_kind ≡ kind.Record m) where
  pub record_is : bare e ≡ record_tree (bare_entries m.value.entries)
  record_is = bare_is (Unit {0}) e ∙ ap bare_kind is ∙ bare-Record (Unit {0}) m

  pub record_count : (n : ℕ) → n ≡ length (parts (bare e)) → n ≡ length m.value.entries
  record_count n h = h ∙ ap (λ t. length (parts t)) record_is ∙ record_parts m.value.entries

  pub key_here : is_projectable (bare e) ≡ true → (a : Text) (b : Bool) → b ≡ is_some (lookup (is_name a) m.value.entries) → Some b ≡ told_key a (bare e)
  key_here p a b h =
      let es = m.value.entries in
      let plain : are_projectable (record_trees es) ≡ true = sym (ap is_projectable record_is) ∙ p in
      ap Some (h ∙ sym (is_found es a))
      ∙ sym (ap (told_key a) record_is ∙ ap (λ c. cond c (Some (is_some (found_tree (keys (bare_entries es)) (record_trees es) a))) None) plain)

-- ---- what is left of the construct of an expression

abbrev pub Waits : {E : Type 0} → Operator → List (Expr (Unit {0})) → Result PartialValue E → Type 0
Waits op xs r = IfOk r (λ p. (facts : Facts) (holds : LeafAnswers) → residual_answer facts holds op (trees (map bare xs)) ≡ part_answer (partial_of p))

abbrev pub WaitsIn : {E : Type 0} → Tree → List (Expr (Unit {0})) → Result PartialValue E → Type 0
WaitsIn t xs r = IfOk r (λ p. (facts : Facts) (holds : LeafAnswers) → left_in facts holds t (trees (map bare xs)) ≡ part_answer (partial_of p))

pub wait_as : {E : Type 0} (t : Tree) (op : Operator) (ts : Trees) (xs ys : List (Expr (Unit {0}))) (r : Result PartialValue E) → t ≡ Apply op ts → xs ≡ ys → Waits op ys r → WaitsIn t xs r
wait_as t op ts xs ys r is same h = subst (λ u. WaitsIn u xs r) (sym is) (subst (λ zs. Waits op zs r) (sym same) h)
