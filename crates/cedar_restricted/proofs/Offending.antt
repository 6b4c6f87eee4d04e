-- No part offends exactly where a tree is restricted.
use Rattle.std.proofs.Common.{◌≡◌, ◌∙◌, ◌↔◌, refl, ap, sym, Bool, true, false, List, map, BTreeMap, Global}
use Rattle.std.specs.declared.rc.Rc.{Rc}
use Rattle.std.specs.declared.rc.RcStr.{RcStr}
use Rattle.cedar_grammar.specs.Build.{trees}
use Rattle.cedar_trees.specs.Bare.{bare, bare_kind, bare_entries}
use Rattle.cedar_trees.specs.declared.expr.Expr.{Expr}
use Rattle.cedar_trees.specs.declared.expr.ExprKind.TheVariants as kind
use Rattle.cedar_trees.proofs.Bares.{bare_is, bare-Record}
use Rattle.std.specs.Prelude.{◌&&◌, Option, Some, None}
use Rattle.std.specs.Option.{option_or, option_map, is_some}
use Rattle.cedar_restricted.specs.declared.offences.Offence.{Offence}
use Rattle.cedar_language.specs.Uid.{Text}
use Rattle.cedar_language.specs.Tree.{MakeSet, MakeRecord, Call, Tree, Lit, Var, Slot, Unknown, If, And, Or, Apply, Trees, no_trees, a_tree}
use Rattle.cedar_language.specs.Restricted.{is_restricted, are_restricted}
use Rattle.cedar_literals.specs.Operators.{unary_operator_of, binary_operator_of}
use Rattle.cedar_literals.specs.declared.operators.UnaryOp.{UnaryOp}
use Rattle.cedar_literals.specs.declared.operators.UnaryOp.TheVariants as unary_op
use Rattle.cedar_literals.specs.declared.operators.BinaryOp.{BinaryOp}
use Rattle.cedar_literals.specs.declared.operators.BinaryOp.TheVariants as binary_op
use Rattle.cedar_restricted.specs.Offences.{unless_refused, construct_feature, offence, offence_below, offence_among, seen_offence}
use Rattle.cedar_lemmas.proofs.Booleans.{and_first as and_left, and_second as and_right}
use Rattle.std.proofs.lemmas.Bool.{false_from_ne_true as not_true}

none_first : (a b : Option (Text × Tree)) → option_or a b ≡ None → a ≡ None
none_first None b h = refl
none_first (Some x) b h = cc

none_second : (a b : Option (Text × Tree)) → option_or a b ≡ None → b ≡ None
none_second None b h = h
none_second (Some x) b h = cc

none_both : (a b : Option (Text × Tree)) → a ≡ None → b ≡ None → option_or a b ≡ None
none_both a b h k = rw (h, k) refl

mutual
  unoffended : (t : Tree) → offence t ≡ None → is_restricted t ≡ true
  unoffended (Lit l) h = refl
  unoffended (Unknown n ty) h = refl
  unoffended (Apply MakeSet ts) h = all_unoffended ts h
  unoffended (Apply (MakeRecord ks) ts) h = all_unoffended ts h
  unoffended (Apply (Call f) ts) h = all_unoffended ts h
  unoffended t h = cc

  all_unoffended : (ts : Trees) → offence_among ts ≡ None → are_restricted ts ≡ true
  all_unoffended no_trees h = refl
  all_unoffended (a_tree t ts) h = rw (unoffended t (none_first _ _ h)) (all_unoffended ts (none_second _ _ h))

mutual
  without_offence : (t : Tree) → is_restricted t ≡ true → offence t ≡ None
  without_offence (Lit l) h = refl
  without_offence (Unknown n ty) h = refl
  without_offence (Apply MakeSet ts) h = all_without ts h
  without_offence (Apply (MakeRecord ks) ts) h = all_without ts h
  without_offence (Apply (Call f) ts) h = all_without ts h
  without_offence t h = cc

  all_without : (ts : Trees) → are_restricted ts ≡ true → offence_among ts ≡ None
  all_without no_trees h = refl
  all_without (a_tree t ts) h = none_both _ _ (without_offence t (and_left _ _ h)) (all_without ts (and_right _ _ h))

pub no_offence : (t : Tree) → (offence t ≡ None) ↔ (is_restricted t ≡ true)
no_offence t = (unoffended t, without_offence t)

-- ---- what a construct and its parts make of it

pub offence_here : (t : Tree) (f : Text) → construct_feature t ≡ Some f → offence t ≡ Some (f, t)
offence_here (Apply op ts) f h = ap (λ o. unless_refused o (Apply op ts) (offence_among ts)) h
offence_here (Lit l) f h = cc
offence_here (Unknown n ty) f h = cc
offence_here (Var v) f h = ap (λ o. unless_refused o (Var v) None) h
offence_here (Slot s) f h = ap (λ o. unless_refused o (Slot s) None) h
offence_here (If a b c) f h = ap (λ o. unless_refused o (If a b c) None) h
offence_here (And l r) f h = ap (λ o. unless_refused o (And l r) None) h
offence_here (Or l r) f h = ap (λ o. unless_refused o (Or l r) None) h

pub offence_is_below : (t : Tree) → construct_feature t ≡ None → offence t ≡ offence_below t
offence_is_below (Apply MakeSet ts) h = refl
offence_is_below (Apply (MakeRecord ks) ts) h = refl
offence_is_below (Apply (Call f) ts) h = refl
offence_is_below (Lit l) h = refl
offence_is_below (Unknown n ty) h = refl
offence_is_below t h = cc

pub none_below_one : (op : UnaryOp) (ts : Trees) → offence_below (Apply (unary_operator_of op) ts) ≡ None
none_below_one unary_op.Not ts = refl
none_below_one unary_op.Neg ts = refl
none_below_one unary_op.IsEmpty ts = refl

pub none_below_two : (op : BinaryOp) (ts : Trees) → offence_below (Apply (binary_operator_of op) ts) ≡ None
none_below_two binary_op.Eq ts = refl
none_below_two binary_op.Less ts = refl
none_below_two binary_op.LessEq ts = refl
none_below_two binary_op.Add ts = refl
none_below_two binary_op.Sub ts = refl
none_below_two binary_op.Mul ts = refl
none_below_two binary_op.In ts = refl
none_below_two binary_op.Contains ts = refl
none_below_two binary_op.ContainsAll ts = refl
none_below_two binary_op.ContainsAny ts = refl
none_below_two binary_op.GetTag ts = refl
none_below_two binary_op.HasTag ts = refl

pub ruleset offences = (offence_here, offence_is_below, none_below_one, none_below_two)

-- a record offends as its expressions do
pub below_record : (e : Expr (Unit {0})) (m : Rc (BTreeMap (RcStr Global) (Expr (Unit {0}))) Global) (entries : List (RcStr Global × Expr (Unit {0}))) → e.expr_kind ≡ kind.Record m → entries ≡ m.value.entries → offence_below (bare e) ≡ offence_among (trees (map (λ f. f.1) (bare_entries entries)))
below_record e m entries is same = ap offence_below (bare_is (Unit {0}) e ∙ ap bare_kind is ∙ bare-Record (Unit {0}) m) ∙ ap (λ es. offence_among (trees (map (λ f. f.1) (bare_entries es)))) (sym same)

-- ---- what is seen to offend

pub seen_none : (o : Option Offence) (t : Tree) → option_map seen_offence o ≡ offence t → is_some o ≡ false → is_restricted t ≡ true
seen_none None t h k = unoffended t (sym h)
seen_none (Some x) t h k = cc

some_is_not : (o : Option (Text × Tree)) (x : Text × Tree) → Some x ≡ o → o ≡ None → ⊥
some_is_not o x h k = cc

pub seen_some : (o : Option Offence) (t : Tree) → option_map seen_offence o ≡ offence t → is_some o ≡ true → is_restricted t ≡ false
seen_some (Some x) t h k = not_true (is_restricted t) (λ r. some_is_not (offence t) (seen_offence x) h (without_offence t r))
seen_some None t h k = cc
