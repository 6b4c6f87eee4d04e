-- Unknowns that have no name of their own, in a context as it is written and with its calls named.
use Rattle.std.proofs.Common.{◌≡◌, ◌∙◌, refl, ap, sym, Bool, true, false, cond, ◌||◌, None, List, [], ◌∷◌, map, Global, length, get_or, arith}
use Rattle.std.specs.declared.rc.Rc.{Rc}
use Rattle.std.specs.declared.rc.RcStr.{RcStr}
use Rattle.std.specs.BTreeMap.{BTreeMap}
use Rattle.cedar_language.specs.Uid.{Text, Name}
use Rattle.cedar_language.specs.Tree.{String, Operator, MakeSet, MakeRecord, Call, Tree, Lit, Unknown, Apply, Trees, no_trees, a_tree}
use Rattle.cedar_language.specs.Restricted.{is_restricted, are_restricted}
use Rattle.cedar_grammar.specs.Build.{trees}
use Rattle.cedar_literals.specs.Operators.{unary_operator_of, binary_operator_of}
use Rattle.cedar_literals.specs.declared.operators.UnaryOp.{UnaryOp}
use Rattle.cedar_literals.specs.declared.operators.UnaryOp.TheVariants as unary_op
use Rattle.cedar_literals.specs.declared.operators.BinaryOp.{BinaryOp}
use Rattle.cedar_literals.specs.declared.operators.BinaryOp.TheVariants as binary_op
use Rattle.cedar_trees.specs.Bare.{bare, bare_kind, bare_entries}
use Rattle.cedar_trees.specs.declared.expr.Expr.{Expr}
use Rattle.cedar_trees.specs.declared.expr.ExprKind.TheVariants as kind
use Rattle.cedar_trees.proofs.Bares.{bare_is, bare-Record}
use Rattle.cedar_grammar.specs.UnknownCalls.{unknown_or, named_call, named, all_named, holds_call, hold_call}
use Rattle.cedar_world.specs.Bodies.{some_name, some_name_of, is_one_of, string_of}
use Rattle.cedar_grammar.specs.Functions.{is_the_unknown}
use Rattle.cedar_world.specs.Values.{variable_names}
use Rattle.cedar_telling.specs.Unknowns.{name_given, is_no_name, badly_named, some_badly_named}
use Rattle.cedar_lemmas.proofs.Booleans.{or_nothing as or_false, or_true, and_first as and_left, and_second as and_right}

-- ---- as it is written

pub no_name_below_one : (op : UnaryOp) (ts : Trees) → badly_named (Apply (unary_operator_of op) ts) ≡ false
no_name_below_one unary_op.Not ts = refl
no_name_below_one unary_op.Neg ts = refl
no_name_below_one unary_op.IsEmpty ts = refl

pub no_name_below_two : (op : BinaryOp) (ts : Trees) → badly_named (Apply (binary_operator_of op) ts) ≡ false
no_name_below_two binary_op.Eq ts = refl
no_name_below_two binary_op.Less ts = refl
no_name_below_two binary_op.LessEq ts = refl
no_name_below_two binary_op.Add ts = refl
no_name_below_two binary_op.Sub ts = refl
no_name_below_two binary_op.Mul ts = refl
no_name_below_two binary_op.In ts = refl
no_name_below_two binary_op.Contains ts = refl
no_name_below_two binary_op.ContainsAll ts = refl
no_name_below_two binary_op.ContainsAny ts = refl
no_name_below_two binary_op.GetTag ts = refl
no_name_below_two binary_op.HasTag ts = refl

pub ruleset below = (no_name_below_one, no_name_below_two)

pub record_names : (e : Expr (Unit {0})) (m : Rc (BTreeMap (RcStr Global) (Expr (Unit {0}))) Global) (entries : List (RcStr Global × Expr (Unit {0}))) → e.expr_kind ≡ kind.Record m → entries ≡ m.value.entries
    → badly_named (bare e) ≡ some_badly_named (trees (map (λ f. f.1) (bare_entries entries)))
record_names e m entries is same = ap badly_named (bare_is (Unit {0}) e ∙ ap bare_kind is ∙ bare-Record (Unit {0}) m) ∙ ap (λ es. some_badly_named (trees (map (λ f. f.1) (bare_entries es)))) (sym same)

-- one argument gives a name where it is a text, and other arguments give none
pub none_given : (es : List (Expr (Unit {0}))) → (length es ≡ 1 → ⊥) → None ≡ name_given (trees (map bare es))
none_given [] h = refl
none_given (e ∷ []) h = absurd (h refl)
none_given (e ∷ f ∷ es) h = refl

pub one_given : (es : List (Expr (Unit {0}))) (e : Expr (Unit {0})) → length es ≡ 1 → e ≡ get_or es 0 e → string_of (bare e) ≡ name_given (trees (map bare es))
one_given [] e h is = absurd (omega (arith, h))
one_given (f ∷ []) e h is = ap (λ (x : Expr (Unit {0})). string_of (bare x)) is
one_given (f ∷ g ∷ es) e h is = absurd (omega (arith, h))

-- ---- with its calls named

abbrev for_variable : Text → Bool
for_variable n = is_one_of variable_names n

abbrev bad : Tree → Bool
bad t = some_name for_variable t || holds_call t

abbrev some_bad : Trees → Bool
some_bad ts = some_name_of for_variable ts || hold_call ts

swap : (a b c d : Bool) → ((a || b) || (c || d)) ≡ ((a || c) || (b || d))
swap true b c d = refl
swap false true true d = refl
swap false true false d = refl
swap false false c d = refl

-- a call of another function stays one
pub other_stays : (f : Name) (ts : Trees) → is_the_unknown f ≡ false → named_call (Call f) ts ≡ Apply (Call f) ts
other_stays f no_trees h = refl
other_stays f (a_tree t ts) h = ap (λ b. unknown_or b f t ts) h

other_bad : (f : Name) (ts : Trees) → is_the_unknown f ≡ false → bad (Apply (Call f) ts) ≡ some_bad ts
other_bad f ts h = ap (λ b. some_name_of for_variable ts || (b || hold_call ts)) h

-- a call of `unknown` that stays one is bad
stays_bad : (f : Name) (ts : Trees) → is_the_unknown f ≡ true → bad (Apply (Call f) ts) ≡ true
stays_bad f ts h = ap (λ b. some_name_of for_variable ts || (b || hold_call ts)) h ∙ or_true (some_name_of for_variable ts)

no_text : (b : Bool) (f : Name) (t : Tree) (ts : Trees) (n : Text) → unknown_or b f t ts ≡ Lit (String n) → ⊥
no_text true f (Lit (String m)) no_trees n h = cc
no_text false f t ts n h = cc
no_text true f t ts n h = cc

pub named_no_text : (op : Operator) (ts : Trees) (n : Text) → named_call op ts ≡ Lit (String n) → ⊥
named_no_text (Call f) no_trees n h = cc
named_no_text (Call f) (a_tree t ts) n h = no_text (is_the_unknown f) f t ts n h
named_no_text op ts n h = cc

other_argument : (f : Name) (s : Tree) (ss : Trees) → ((n : Text) → s ≡ Lit (String n) → ⊥) → is_the_unknown f ≡ true → bad (unknown_or (is_the_unknown f) f s ss) ≡ true
other_argument f (Lit (String n)) ss none h = absurd (none n refl)
other_argument f s ss none h = ap (λ b. bad (unknown_or b f s ss)) h ∙ stays_bad f (a_tree s ss) h

more_arguments : (f : Name) (s t : Tree) (ts : Trees) → is_the_unknown f ≡ true → bad (unknown_or (is_the_unknown f) f s (a_tree t ts)) ≡ true
more_arguments f (Lit (String n)) t ts h = ap (λ b. bad (unknown_or b f (Lit (String n)) (a_tree t ts))) h ∙ stays_bad f (a_tree (Lit (String n)) (a_tree t ts)) h
more_arguments f s t ts h = ap (λ b. bad (unknown_or b f s (a_tree t ts))) h ∙ stays_bad f (a_tree s (a_tree t ts)) h

call_named : (f : Name) (ts : Trees) → is_the_unknown f ≡ true → is_no_name (name_given ts) ≡ bad (named_call (Call f) (all_named ts))
call_named f no_trees h = sym (stays_bad f no_trees h)
call_named f (a_tree t (a_tree u us)) h = sym (more_arguments f (named t) (named u) (all_named us) h)
call_named f (a_tree (Lit (String n)) no_trees) h = sym (ap (λ b. bad (unknown_or b f (Lit (String n)) no_trees)) h ∙ or_false (for_variable n))
call_named f (a_tree (Apply op ts) no_trees) h = sym (other_argument f (named_call op (all_named ts)) no_trees (λ n e. named_no_text op (all_named ts) n e) h)
call_named f (a_tree t no_trees) h = sym (other_argument f (named t) no_trees (λ n e. cc) h)

by_name : (f : Name) (ts : Trees) (b : Bool) → is_the_unknown f ≡ b → some_badly_named ts ≡ some_bad (all_named ts) → cond b (is_no_name (name_given ts)) (some_badly_named ts) ≡ bad (named_call (Call f) (all_named ts))
by_name f ts true is h = call_named f ts is
by_name f ts false is h = h ∙ sym (ap bad (other_stays f (all_named ts) is) ∙ other_bad f (all_named ts) is)

mutual
  pub bad_as_named : (t : Tree) → is_restricted t ≡ true → badly_named t ≡ bad (named t)
  bad_as_named (Lit l) r = refl
  bad_as_named (Unknown n ty) r = sym (or_false (for_variable n))
  bad_as_named (Apply MakeSet ts) r = all_bad_as_named ts r
  bad_as_named (Apply (MakeRecord ks) ts) r = all_bad_as_named ts r
  bad_as_named (Apply (Call f) ts) r = by_name f ts (is_the_unknown f) refl (all_bad_as_named ts r)
  bad_as_named t r = cc

  pub all_bad_as_named : (ts : Trees) → are_restricted ts ≡ true → some_badly_named ts ≡ some_bad (all_named ts)
  all_bad_as_named no_trees r = refl
  all_bad_as_named (a_tree t ts) r =
      (λ i. bad_as_named t (and_left _ _ r) i || all_bad_as_named ts (and_right _ _ r) i)
      ∙ swap (some_name for_variable (named t)) (holds_call (named t)) (some_name_of for_variable (all_named ts)) (hold_call (all_named ts))
