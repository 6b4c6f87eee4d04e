-- Names of unknowns, in a context as it is written and with its calls named.
use Rattle.std.proofs.Common.{◌≡◌, ◌∙◌, refl, ap, sym, Bool, true, false, cond, ◌||◌, List, map, Global}
use Rattle.std.specs.declared.rc.Rc.{Rc}
use Rattle.std.specs.declared.rc.RcStr.{RcStr}
use Rattle.std.specs.BTreeMap.{BTreeMap}
use Rattle.cedar_language.specs.Uid.{Text, Name}
use Rattle.cedar_language.specs.Tree.{String, MakeSet, MakeRecord, Call, Tree, Lit, Unknown, Apply, Trees, no_trees, a_tree}
use Rattle.cedar_language.specs.Restricted.{is_restricted, are_restricted}
use Rattle.cedar_grammar.specs.Build.{trees}
use Rattle.cedar_literals.specs.Operators.{unary_operator_of, binary_operator_of}
use Rattle.cedar_literals.specs.declared.operators.UnaryOp.{UnaryOp}
use Rattle.cedar_literals.specs.declared.operators.UnaryOp.TheVariants as unary_op
use Rattle.cedar_literals.specs.declared.operators.BinaryOp.{BinaryOp}
use Rattle.cedar_literals.specs.declared.operators.BinaryOp.TheVariants as binary_op
use Rattle.cedar_trees.specs.Bare.{bare, bare_kind, bare_entries}
use Rattle.cedar_trees.specs.declared.expr.Expr.{Expr}
use Rattle.cedar_trees.specs.declared.expr.ExprKind.TheVariants as kind
use Rattle.cedar_trees.proofs.Bares.{bare_is, bare-Record}
use Rattle.cedar_grammar.specs.UnknownCalls.{unknown_or, named_call, named, all_named}
use Rattle.cedar_world.specs.Bodies.{some_name, some_name_of}
use Rattle.cedar_grammar.specs.Functions.{is_the_unknown}
use Rattle.cedar_telling.specs.Unknowns.{name_given}
use Rattle.cedar_telling.specs.UnknownNames.{passes_or, stands_in, stands_in_some}
use Rattle.cedar_telling.proofs.Named.{other_stays, named_no_text}
use Rattle.cedar_lemmas.proofs.Booleans.{and_first as and_left, and_second as and_right}

-- ---- as it is written

pub none_below_one : (test : Text → Bool) (op : UnaryOp) (ts : Trees) → stands_in test (Apply (unary_operator_of op) ts) ≡ false
none_below_one test unary_op.Not ts = refl
none_below_one test unary_op.Neg ts = refl
none_below_one test unary_op.IsEmpty ts = refl

pub none_below_two : (test : Text → Bool) (op : BinaryOp) (ts : Trees) → stands_in test (Apply (binary_operator_of op) ts) ≡ false
none_below_two test binary_op.Eq ts = refl
none_below_two test binary_op.Less ts = refl
none_below_two test binary_op.LessEq ts = refl
none_below_two test binary_op.Add ts = refl
none_below_two test binary_op.Sub ts = refl
none_below_two test binary_op.Mul ts = refl
none_below_two test binary_op.In ts = refl
none_below_two test binary_op.Contains ts = refl
none_below_two test binary_op.ContainsAll ts = refl
none_below_two test binary_op.ContainsAny ts = refl
none_below_two test binary_op.GetTag ts = refl
none_below_two test binary_op.HasTag ts = refl

pub ruleset below = (none_below_one, none_below_two)

pub record_stands : (test : Text → Bool) (e : Expr (Unit {0})) (m : Rc (BTreeMap (RcStr Global) (Expr (Unit {0}))) Global) (entries : List (RcStr Global × Expr (Unit {0}))) → e.expr_kind ≡ kind.Record m → entries ≡ m.value.entries
    → stands_in test (bare e) ≡ stands_in_some test (trees (map (λ f. f.1) (bare_entries entries)))
record_stands test e m entries is same = ap (stands_in test) (bare_is (Unit {0}) e ∙ ap bare_kind is ∙ bare-Record (Unit {0}) m) ∙ ap (λ es. stands_in_some test (trees (map (λ f. f.1) (bare_entries es)))) (sym same)

-- ---- with its calls named

module _ (test : Text → Bool) where
  other_argument : (b : Bool) (f : Name) (s : Tree) (ss : Trees) → ((n : Text) → s ≡ Lit (String n) → ⊥) → some_name test (unknown_or b f s ss) ≡ (some_name test s || some_name_of test ss)
  other_argument b f (Lit (String n)) ss none = absurd (none n refl)
  other_argument true f s ss none = refl
  other_argument false f s ss none = refl

  more_arguments : (b : Bool) (f : Name) (s t : Tree) (ts : Trees) → some_name test (unknown_or b f s (a_tree t ts)) ≡ (some_name test s || some_name_of test (a_tree t ts))
  more_arguments true f (Lit (String n)) t ts = refl
  more_arguments true f s t ts = refl
  more_arguments false f s t ts = refl

  call_named : (f : Name) (ts : Trees) → is_the_unknown f ≡ true → stands_in_some test ts ≡ some_name_of test (all_named ts) → passes_or test (name_given ts) (stands_in_some test ts) ≡ some_name test (named_call (Call f) (all_named ts))
  call_named f no_trees h same = refl
  call_named f (a_tree t (a_tree u us)) h same = same ∙ sym (more_arguments (is_the_unknown f) f (named t) (named u) (all_named us))
  call_named f (a_tree (Lit (String n)) no_trees) h same = sym (ap (λ b. some_name test (unknown_or b f (Lit (String n)) no_trees)) h)
  call_named f (a_tree (Apply op ts) no_trees) h same = same ∙ sym (other_argument (is_the_unknown f) f (named_call op (all_named ts)) no_trees (λ n e. named_no_text op (all_named ts) n e))
  call_named f (a_tree t no_trees) h same = same ∙ sym (other_argument (is_the_unknown f) f (named t) no_trees (λ n e. cc))

  by_name : (f : Name) (ts : Trees) (b : Bool) → is_the_unknown f ≡ b → stands_in_some test ts ≡ some_name_of test (all_named ts) → cond b (passes_or test (name_given ts) (stands_in_some test ts)) (stands_in_some test ts) ≡ some_name test (named_call (Call f) (all_named ts))
  by_name f ts true is h = call_named f ts is h
  by_name f ts false is h = h ∙ sym (ap (some_name test) (other_stays f (all_named ts) is))

  mutual
    pub stands_named : (t : Tree) → is_restricted t ≡ true → stands_in test t ≡ some_name test (named t)
    stands_named (Lit l) r = refl
    stands_named (Unknown n ty) r = refl
    stands_named (Apply MakeSet ts) r = all_stand_named ts r
    stands_named (Apply (MakeRecord ks) ts) r = all_stand_named ts r
    stands_named (Apply (Call f) ts) r = by_name f ts (is_the_unknown f) refl (all_stand_named ts r)
    stands_named t r = cc

    pub all_stand_named : (ts : Trees) → are_restricted ts ≡ true → stands_in_some test ts ≡ some_name_of test (all_named ts)
    all_stand_named no_trees r = refl
    all_stand_named (a_tree t ts) r = λ i. stands_named t (and_left _ _ r) i || all_stand_named ts (and_right _ _ r) i
