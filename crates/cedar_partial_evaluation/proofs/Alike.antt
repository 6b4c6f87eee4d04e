-- Answers that are the same stay so under every construct, and what is projected is evaluated again.
use Rattle.std.proofs.Common.{◌≡◌, true, false, refl, sym, ◌∙◌, ap, subst, List, [], ◌∷◌, Bool}
use Rattle.std.proofs.lemmas.Bool.{and_parts}
use Rattle.std.specs.Prelude.{Option, Some, None, cond}
use Rattle.cedar_language.specs.Uid.{Text, Name}
use Rattle.cedar_language.specs.Tree.{Variable, ValueType, Boolean, Operator, Equal, GetAttr, HasAttr, Is, MakeSet, MakeRecord, Call, Tree, Lit, Var, Unknown, If, And, Or, Apply, Trees, no_trees, a_tree}
use Rattle.cedar_language.specs.Value.{Value, Plain, Values, no_values, a_value}
use Rattle.cedar_language.specs.Facts.{Facts}
use Rattle.cedar_language.specs.Order.{same_text}
use Rattle.cedar_language.specs.Operators.{applied}
use Rattle.cedar_partial_evaluation.specs.MadeAgain.{tree_of, trees_of}
use Rattle.cedar_partial_evaluation.specs.Partial.{Answer, Evaluated, ResidualTree, Failed, Answers, AllEvaluated, SomeResiduals, SomeFailed, answer_of, best_effort, last_answer, and_answer, or_answer, if_answer, and_next, LeafAnswers, is_projectable, are_projectable, built_answer, projected_in, all_projected_in, found_tree, entry_answer, attribute_answer, has_entry_answer, has_answer, is_answer, stated_type, types_differ, equal_answer, residual_answer, apply_answer, partial_in, all_partial_in}
use Rattle.cedar_partial_evaluation.specs.Alike.{AlikeBut, itself, differing, if_alike, and_alike, or_alike, apply_alike, AllAlikeBut, none_alike, more_alike, SameBut, AllSameBut, ProjectingIsEvaluating, gathered, is_some_left, WriteEach, GatheredAlwaysSplits}
use Rattle.cedar_partial_evaluation.proofs.Passing.{plain_in}

-- a tree that partial evaluation doesn't look into
abbrev pub is_opaque : Tree → Bool
is_opaque (If t y n) = true
is_opaque (And l r) = true
is_opaque (Or l r) = true
is_opaque (Apply (Call f) ts) = true
is_opaque _ = false

opaque_plain : (t : Tree) → is_opaque t ≡ true → is_projectable t ≡ false
opaque_plain (If t y n) h = refl
opaque_plain (And l r) h = refl
opaque_plain (Or l r) h = refl
opaque_plain (Apply (Call f) ts) h = refl
opaque_plain _ h = cc

module _ (facts : Facts) (Differ : Tree → Tree → Type 0) (opaque : (s t : Tree) → Differ s t → (is_opaque s ≡ true) × (is_opaque t ≡ true)) where
  -- ---- trees

  pub all_alike : (ts : Trees) → AllAlikeBut Differ ts ts
  all_alike no_trees = none_alike
  all_alike (a_tree t ts) = more_alike itself (all_alike ts)

  apply_plain : (op : Operator) (ts us : Trees) → are_projectable ts ≡ are_projectable us → is_projectable (Apply op ts) ≡ is_projectable (Apply op us)
  apply_plain MakeSet ts us h = h
  apply_plain (MakeRecord ks) ts us h = h
  apply_plain _ ts us h = refl

  mutual
    pub plain_alike : {s t : Tree} → AlikeBut Differ s t → is_projectable s ≡ is_projectable t
    plain_alike itself = refl
    plain_alike (differing {s} {t} d) = opaque_plain s (opaque s t d).0 ∙ sym (opaque_plain t (opaque s t d).1)
    plain_alike (if_alike h i j) = refl
    plain_alike (and_alike h i) = refl
    plain_alike (or_alike h i) = refl
    plain_alike (apply_alike {op} {ts} {us} h) = apply_plain op ts us (all_plain_alike h)

    pub all_plain_alike : {ts us : Trees} → AllAlikeBut Differ ts us → are_projectable ts ≡ are_projectable us
    all_plain_alike none_alike = refl
    all_plain_alike (more_alike h i) = rw (plain_alike h, all_plain_alike i) refl

  mutual
    one_alike : {s t : Tree} → AlikeBut Differ s t → is_projectable s ≡ true → s ≡ t
    one_alike itself p = refl
    one_alike (differing {s} {t} d) p = let other : is_projectable s ≡ false = opaque_plain s (opaque s t d).0 in cc
    one_alike (if_alike h i j) p = cc
    one_alike (and_alike h i) p = cc
    one_alike (or_alike h i) p = cc
    one_alike (apply_alike {op} {ts} {us} h) p = ap (Apply op) (all_one_alike h (plain_in op ts p).0)

    all_one_alike : {ts us : Trees} → AllAlikeBut Differ ts us → are_projectable ts ≡ true → ts ≡ us
    all_one_alike none_alike p = refl
    all_one_alike (more_alike {t} {u} {ts} {us} h i) p =
        rw (one_alike h (and_parts (is_projectable t) (are_projectable ts) p).0, all_one_alike i (and_parts (is_projectable t) (are_projectable ts) p).1) refl

  -- ---- answers

  pub same_itself : (a : Answer) → SameBut Differ a a
  same_itself (Evaluated v) = refl
  same_itself (ResidualTree r) = (r, refl, itself)
  same_itself (Failed k) = refl

  next_value : (v : Value) (as_ bs : Answers) → AllSameBut Differ as_ bs → AllSameBut Differ (and_next facts (Evaluated v) as_) (and_next facts (Evaluated v) bs)
  next_value v (AllEvaluated vs) bs h = ap (and_next facts (Evaluated v)) h
  next_value v (SomeResiduals rs) bs h = (a_tree (tree_of facts v) h.0, ap (and_next facts (Evaluated v)) h.1, more_alike itself h.2)
  next_value v (SomeFailed k) bs h = ap (and_next facts (Evaluated v)) h

  next_residual : (r t : Tree) → AlikeBut Differ r t → (as_ bs : Answers) → AllSameBut Differ as_ bs → AllSameBut Differ (and_next facts (ResidualTree r) as_) (and_next facts (ResidualTree t) bs)
  next_residual r t l (AllEvaluated vs) bs h = (a_tree t (trees_of facts vs), ap (and_next facts (ResidualTree t)) h, more_alike l (all_alike (trees_of facts vs)))
  next_residual r t l (SomeResiduals rs) bs h = (a_tree t h.0, ap (and_next facts (ResidualTree t)) h.1, more_alike l h.2)
  next_residual r t l (SomeFailed k) bs h = ap (and_next facts (ResidualTree t)) h

  pub next_same : (a b : Answer) (as_ bs : Answers) → SameBut Differ a b → AllSameBut Differ as_ bs → AllSameBut Differ (and_next facts a as_) (and_next facts b bs)
  next_same (Evaluated v) b as_ bs h k = rw h (next_value v as_ bs k)
  next_same (ResidualTree r) b as_ bs h k = rw h.1 (next_residual r h.0 h.2 as_ bs k)
  next_same (Failed e) b as_ bs h k = ap (λ x. and_next facts x bs) h

  -- ---- operators of which some operands are residuals

  module _ (holds : LeafAnswers) where
    attribute_opaque : (a : Text) (t : Tree) → is_opaque t ≡ true → attribute_answer facts holds a t ≡ ResidualTree (Apply (GetAttr a) (a_tree t no_trees))
    attribute_opaque a (If t y n) h = refl
    attribute_opaque a (And l r) h = refl
    attribute_opaque a (Or l r) h = refl
    attribute_opaque a (Apply (Call f) ts) h = refl
    attribute_opaque a _ h = cc

    has_opaque : (a : Text) (t : Tree) → is_opaque t ≡ true → has_answer a t ≡ ResidualTree (Apply (HasAttr a) (a_tree t no_trees))
    has_opaque a (If t y n) h = refl
    has_opaque a (And l r) h = refl
    has_opaque a (Or l r) h = refl
    has_opaque a (Apply (Call f) ts) h = refl
    has_opaque a _ h = cc

    is_opaque_answer : (ty : Name) (t : Tree) → is_opaque t ≡ true → is_answer ty t ≡ ResidualTree (Apply (Is ty) (a_tree t no_trees))
    is_opaque_answer ty (If t y n) h = refl
    is_opaque_answer ty (And l r) h = refl
    is_opaque_answer ty (Or l r) h = refl
    is_opaque_answer ty (Apply (Call f) ts) h = refl
    is_opaque_answer ty _ h = cc

    stated_opaque : (t : Tree) → is_opaque t ≡ true → stated_type t ≡ None
    stated_opaque (If t y n) h = refl
    stated_opaque (And l r) h = refl
    stated_opaque (Or l r) h = refl
    stated_opaque (Apply (Call f) ts) h = refl
    stated_opaque _ h = cc

    abbrev is_there : Option Tree → Bool
    is_there None = false
    is_there (Some t) = true

    entry_open : (a : Text) (r t : Tree) (o p : Option Tree) → AlikeBut Differ r t → is_there o ≡ is_there p → SameBut Differ (entry_answer facts holds a r false o) (entry_answer facts holds a t false p)
    entry_open a r t None None l h = refl
    entry_open a r t None (Some q) l h = cc
    entry_open a r t (Some q) None l h = cc
    entry_open a r t (Some q) (Some u) l h = (Apply (GetAttr a) (a_tree t no_trees), refl, apply_alike (more_alike l none_alike))

    found_next : (b : Bool) (t u : Tree) (o p : Option Tree) → is_there o ≡ is_there p → is_there (cond b (Some t) o) ≡ is_there (cond b (Some u) p)
    found_next true t u o p h = refl
    found_next false t u o p h = h

    found_alike : (ks : List Text) {ts us : Trees} (a : Text) → AllAlikeBut Differ ts us → is_there (found_tree ks ts a) ≡ is_there (found_tree ks us a)
    found_alike [] a h = refl
    found_alike (k ∷ ks) a none_alike = refl
    found_alike (k ∷ ks) a (more_alike {t} {u} {ts} {us} h i) = found_next (same_text k a) t u (found_tree ks ts a) (found_tree ks us a) (found_alike ks a i)

    record_attribute : (a : Text) (ks : List Text) (ts us : Trees) → AllAlikeBut Differ ts us → (b : Bool) → are_projectable ts ≡ b → SameBut Differ (attribute_answer facts holds a (Apply (MakeRecord ks) ts)) (attribute_answer facts holds a (Apply (MakeRecord ks) us))
    record_attribute a ks ts us h true e = subst (λ xs. SameBut Differ (attribute_answer facts holds a (Apply (MakeRecord ks) ts)) (attribute_answer facts holds a (Apply (MakeRecord ks) xs))) (all_one_alike h e) (same_itself (attribute_answer facts holds a (Apply (MakeRecord ks) ts)))
    record_attribute a ks ts us h false e =
        subst (λ c. SameBut Differ (entry_answer facts holds a (Apply (MakeRecord ks) ts) c (found_tree ks ts a)) (entry_answer facts holds a (Apply (MakeRecord ks) us) (are_projectable us) (found_tree ks us a))) (sym e)
        (subst (λ c. SameBut Differ (entry_answer facts holds a (Apply (MakeRecord ks) ts) false (found_tree ks ts a)) (entry_answer facts holds a (Apply (MakeRecord ks) us) c (found_tree ks us a))) (sym e ∙ all_plain_alike h)
        (entry_open a (Apply (MakeRecord ks) ts) (Apply (MakeRecord ks) us) (found_tree ks ts a) (found_tree ks us a) (apply_alike h) (found_alike ks a h)))

    attribute_applied : (a : Text) (op : Operator) (ts us : Trees) → AllAlikeBut Differ ts us → SameBut Differ (attribute_answer facts holds a (Apply op ts)) (attribute_answer facts holds a (Apply op us))
    attribute_applied a (MakeRecord ks) ts us h = record_attribute a ks ts us h (are_projectable ts) refl
    attribute_applied a op ts us h = (Apply (GetAttr a) (a_tree (Apply op us) no_trees), refl, apply_alike (more_alike (apply_alike h) none_alike))

    attribute_same : (a : Text) {r t : Tree} → AlikeBut Differ r t → SameBut Differ (attribute_answer facts holds a r) (attribute_answer facts holds a t)
    attribute_same a (itself {t}) = same_itself (attribute_answer facts holds a t)
    attribute_same a (differing {s} {t} d) = rw (attribute_opaque a s (opaque s t d).0) (Apply (GetAttr a) (a_tree t no_trees), attribute_opaque a t (opaque s t d).1, apply_alike (more_alike (differing d) none_alike))
    attribute_same a (if_alike {t} {y} {n} {u} {z} {m} h i j) = (Apply (GetAttr a) (a_tree (If u z m) no_trees), refl, apply_alike (more_alike (if_alike h i j) none_alike))
    attribute_same a (and_alike {l} {r} {m} {s} h i) = (Apply (GetAttr a) (a_tree (And m s) no_trees), refl, apply_alike (more_alike (and_alike h i) none_alike))
    attribute_same a (or_alike {l} {r} {m} {s} h i) = (Apply (GetAttr a) (a_tree (Or m s) no_trees), refl, apply_alike (more_alike (or_alike h i) none_alike))
    attribute_same a (apply_alike {op} {ts} {us} h) = attribute_applied a op ts us h

    has_open : (a : Text) (r t : Tree) (o p : Option Tree) → AlikeBut Differ r t → SameBut Differ (has_entry_answer a r false o) (has_entry_answer a t false p)
    has_open a r t o p l = (Apply (HasAttr a) (a_tree t no_trees), refl, apply_alike (more_alike l none_alike))

    record_has : (a : Text) (ks : List Text) (ts us : Trees) → AllAlikeBut Differ ts us → (b : Bool) → are_projectable ts ≡ b → SameBut Differ (has_answer a (Apply (MakeRecord ks) ts)) (has_answer a (Apply (MakeRecord ks) us))
    record_has a ks ts us h true e = subst (λ xs. SameBut Differ (has_answer a (Apply (MakeRecord ks) ts)) (has_answer a (Apply (MakeRecord ks) xs))) (all_one_alike h e) (same_itself (has_answer a (Apply (MakeRecord ks) ts)))
    record_has a ks ts us h false e =
        subst (λ c. SameBut Differ (has_entry_answer a (Apply (MakeRecord ks) ts) c (found_tree ks ts a)) (has_entry_answer a (Apply (MakeRecord ks) us) (are_projectable us) (found_tree ks us a))) (sym e)
        (subst (λ c. SameBut Differ (has_entry_answer a (Apply (MakeRecord ks) ts) false (found_tree ks ts a)) (has_entry_answer a (Apply (MakeRecord ks) us) c (found_tree ks us a))) (sym e ∙ all_plain_alike h)
        (has_open a (Apply (MakeRecord ks) ts) (Apply (MakeRecord ks) us) (found_tree ks ts a) (found_tree ks us a) (apply_alike h)))

    has_applied : (a : Text) (op : Operator) (ts us : Trees) → AllAlikeBut Differ ts us → SameBut Differ (has_answer a (Apply op ts)) (has_answer a (Apply op us))
    has_applied a (MakeRecord ks) ts us h = record_has a ks ts us h (are_projectable ts) refl
    has_applied a op ts us h = (Apply (HasAttr a) (a_tree (Apply op us) no_trees), refl, apply_alike (more_alike (apply_alike h) none_alike))

    has_same : (a : Text) {r t : Tree} → AlikeBut Differ r t → SameBut Differ (has_answer a r) (has_answer a t)
    has_same a (itself {t}) = same_itself (has_answer a t)
    has_same a (differing {s} {t} d) = rw (has_opaque a s (opaque s t d).0) (Apply (HasAttr a) (a_tree t no_trees), has_opaque a t (opaque s t d).1, apply_alike (more_alike (differing d) none_alike))
    has_same a (if_alike {t} {y} {n} {u} {z} {m} h i j) = (Apply (HasAttr a) (a_tree (If u z m) no_trees), refl, apply_alike (more_alike (if_alike h i j) none_alike))
    has_same a (and_alike {l} {r} {m} {s} h i) = (Apply (HasAttr a) (a_tree (And m s) no_trees), refl, apply_alike (more_alike (and_alike h i) none_alike))
    has_same a (or_alike {l} {r} {m} {s} h i) = (Apply (HasAttr a) (a_tree (Or m s) no_trees), refl, apply_alike (more_alike (or_alike h i) none_alike))
    has_same a (apply_alike {op} {ts} {us} h) = has_applied a op ts us h

    is_same : (ty : Name) {r t : Tree} → AlikeBut Differ r t → SameBut Differ (is_answer ty r) (is_answer ty t)
    is_same ty (itself {t}) = same_itself (is_answer ty t)
    is_same ty (differing {s} {t} d) = rw (is_opaque_answer ty s (opaque s t d).0) (Apply (Is ty) (a_tree t no_trees), is_opaque_answer ty t (opaque s t d).1, apply_alike (more_alike (differing d) none_alike))
    is_same ty (if_alike {t} {y} {n} {u} {z} {m} h i j) = (Apply (Is ty) (a_tree (If u z m) no_trees), refl, apply_alike (more_alike (if_alike h i j) none_alike))
    is_same ty (and_alike {l} {r} {m} {s} h i) = (Apply (Is ty) (a_tree (And m s) no_trees), refl, apply_alike (more_alike (and_alike h i) none_alike))
    is_same ty (or_alike {l} {r} {m} {s} h i) = (Apply (Is ty) (a_tree (Or m s) no_trees), refl, apply_alike (more_alike (or_alike h i) none_alike))
    is_same ty (apply_alike {op} {ts} {us} h) = (Apply (Is ty) (a_tree (Apply op us) no_trees), refl, apply_alike (more_alike (apply_alike h) none_alike))

    stated_alike : {r t : Tree} → AlikeBut Differ r t → stated_type r ≡ stated_type t
    stated_alike itself = refl
    stated_alike (differing {s} {t} d) = stated_opaque s (opaque s t d).0 ∙ sym (stated_opaque t (opaque s t d).1)
    stated_alike (if_alike h i j) = refl
    stated_alike (and_alike h i) = refl
    stated_alike (or_alike h i) = refl
    stated_alike (apply_alike h) = refl

    equal_by : (b : Bool) (r s t u : Tree) → AlikeBut Differ r t → AlikeBut Differ s u → SameBut Differ (equal_answer b r s) (equal_answer b t u)
    equal_by true r s t u h i = refl
    equal_by false r s t u h i = (Apply Equal (a_tree t (a_tree u no_trees)), refl, apply_alike (more_alike h (more_alike i none_alike)))

    equal_same : {r s t u : Tree} → AlikeBut Differ r t → AlikeBut Differ s u → SameBut Differ (equal_answer (types_differ (stated_type r) (stated_type s)) r s) (equal_answer (types_differ (stated_type t) (stated_type u)) t u)
    equal_same {r} {s} {t} {u} h i =
        subst (λ o. SameBut Differ (equal_answer (types_differ (stated_type r) (stated_type s)) r s) (equal_answer (types_differ o (stated_type u)) t u)) (stated_alike h)
        (subst (λ o. SameBut Differ (equal_answer (types_differ (stated_type r) (stated_type s)) r s) (equal_answer (types_differ (stated_type r) o) t u)) (stated_alike i)
        (equal_by (types_differ (stated_type r) (stated_type s)) r s t u h i))

    residual_same : (op : Operator) {rs ts : Trees} → AllAlikeBut Differ rs ts → SameBut Differ (residual_answer facts holds op rs) (residual_answer facts holds op ts)
    residual_same (GetAttr a) (more_alike h none_alike) = attribute_same a h
    residual_same (HasAttr a) (more_alike h none_alike) = has_same a h
    residual_same (Is ty) (more_alike h none_alike) = is_same ty h
    residual_same Equal (more_alike h (more_alike i none_alike)) = equal_same h i
    residual_same op {rs} {ts} h = (Apply op ts, refl, apply_alike h)

    pub apply_same : (op : Operator) (as_ bs : Answers) → AllSameBut Differ as_ bs → SameBut Differ (apply_answer facts holds op as_) (apply_answer facts holds op bs)
    apply_same op (AllEvaluated vs) bs h = subst (λ x. SameBut Differ (answer_of (applied facts op vs)) (apply_answer facts holds op x)) (sym h) (same_itself (answer_of (applied facts op vs)))
    apply_same op (SomeResiduals rs) bs h = subst (λ x. SameBut Differ (residual_answer facts holds op rs) (apply_answer facts holds op x)) (sym h.1) (residual_same op h.2)
    apply_same op (SomeFailed k) bs h = ap (apply_answer facts holds op) h

  -- ---- lazy operators

  last_same : (f : Tree → Tree) → ((r s : Tree) → AlikeBut Differ r s → AlikeBut Differ (f r) (f s)) → (x y : Answer) → SameBut Differ x y →
      SameBut Differ (last_answer f x) (last_answer f y)
  last_same f kept (Evaluated (Plain (Boolean b))) y h = rw h refl
  last_same f kept (Evaluated _) y h = rw h refl
  last_same f kept (ResidualTree r) y h = rw h.1 (f h.0, refl, kept r h.0 h.2)
  last_same f kept (Failed k) y h = rw h refl

  -- by what keeps the residuals alike
  pub and_by : (a b x y : Answer) (t u : Tree) → SameBut Differ a b → SameBut Differ x y →
      ((l m : Tree) → AlikeBut Differ l m → AlikeBut Differ (And l (best_effort facts x t)) (And m (best_effort facts y u))) →
      ((r s : Tree) → AlikeBut Differ r s → AlikeBut Differ (And (Lit (Boolean true)) r) (And (Lit (Boolean true)) s)) →
      SameBut Differ (and_answer facts a x t) (and_answer facts b y u)
  and_by (ResidualTree r) b x y t u h i waits last = rw h.1 (And h.0 (best_effort facts y u), refl, waits r h.0 h.2)
  and_by (Evaluated (Plain (Boolean true))) b x y t u h i waits last = rw h (last_same (And (Lit (Boolean true))) last x y i)
  and_by (Evaluated (Plain (Boolean false))) b x y t u h i waits last = rw h refl
  and_by (Evaluated _) b x y t u h i waits last = rw h refl
  and_by (Failed k) b x y t u h i waits last = rw h refl

  pub or_by : (a b x y : Answer) (t u : Tree) → SameBut Differ a b → SameBut Differ x y →
      ((l m : Tree) → AlikeBut Differ l m → AlikeBut Differ (Or l (best_effort facts x t)) (Or m (best_effort facts y u))) →
      ((r s : Tree) → AlikeBut Differ r s → AlikeBut Differ (Or (Lit (Boolean false)) r) (Or (Lit (Boolean false)) s)) →
      SameBut Differ (or_answer facts a x t) (or_answer facts b y u)
  or_by (ResidualTree r) b x y t u h i waits last = rw h.1 (Or h.0 (best_effort facts y u), refl, waits r h.0 h.2)
  or_by (Evaluated (Plain (Boolean false))) b x y t u h i waits last = rw h (last_same (Or (Lit (Boolean false))) last x y i)
  or_by (Evaluated (Plain (Boolean true))) b x y t u h i waits last = rw h refl
  or_by (Evaluated _) b x y t u h i waits last = rw h refl
  or_by (Failed k) b x y t u h i waits last = rw h refl

  pub if_by : (a b x y z w : Answer) (t u n m : Tree) → SameBut Differ a b → SameBut Differ x y → SameBut Differ z w →
      ((r s : Tree) → AlikeBut Differ r s → AlikeBut Differ (If r (best_effort facts x t) (best_effort facts z n)) (If s (best_effort facts y u) (best_effort facts w m))) →
      SameBut Differ (if_answer facts a x z t n) (if_answer facts b y w u m)
  if_by (ResidualTree r) b x y z w t u n m h i j waits = rw h.1 (If h.0 (best_effort facts y u) (best_effort facts w m), refl, waits r h.0 h.2)
  if_by (Evaluated (Plain (Boolean true))) b x y z w t u n m h i j waits = rw h i
  if_by (Evaluated (Plain (Boolean false))) b x y z w t u n m h i j waits = rw h j
  if_by (Evaluated _) b x y z w t u n m h i j waits = rw h refl
  if_by (Failed k) b x y z w t u n m h i j waits = rw h refl

-- ---- what is projected is evaluated again

module _ (facts : Facts) where
  module _ (holds : LeafAnswers) where
    built_is : (op : Operator) (as_ : Answers) → ((rs : Trees) → residual_answer facts holds op rs ≡ ResidualTree (Apply op rs)) → built_answer facts op as_ ≡ apply_answer facts holds op as_
    built_is op (AllEvaluated vs) h = refl
    built_is op (SomeResiduals rs) h = sym (h rs)
    built_is op (SomeFailed k) h = refl

    mutual
      pub projected_is : (t : Tree) → is_projectable t ≡ true → projected_in facts holds t ≡ partial_in facts holds t
      projected_is (Lit l) h = refl
      projected_is (Unknown n ty) h = refl
      projected_is (Var v) h = refl
      projected_is (Apply op ts) h =
          let (hs, stays) = plain_in op ts h in
          ap (built_answer facts op) (all_projected_are ts hs) ∙ built_is op (all_partial_in facts holds ts) (stays facts holds)
      projected_is t h = cc

      all_projected_are : (ts : Trees) → are_projectable ts ≡ true → all_projected_in facts holds ts ≡ all_partial_in facts holds ts
      all_projected_are no_trees h = refl
      all_projected_are (a_tree t ts) h =
          ap (λ a. and_next facts a (all_projected_in facts holds ts)) (projected_is t (and_parts (is_projectable t) (are_projectable ts) h).0)
          ∙ ap (and_next facts (partial_in facts holds t)) (all_projected_are ts (and_parts (is_projectable t) (are_projectable ts) h).1)

-- ---- projecting has nothing to do with slots

module _ (facts : Facts) (a b : LeafAnswers) (variable : (v : Variable) → a.variable v ≡ b.variable v)
    (unknown : (n : Text) (ty : Option ValueType) → a.unknown n ty ≡ b.unknown n ty) where
  mutual
    projected_alike : (t : Tree) → projected_in facts a t ≡ projected_in facts b t
    projected_alike (Unknown n ty) = unknown n ty
    projected_alike (Var v) = variable v
    projected_alike (Apply op ts) = ap (built_answer facts op) (all_projected_alike ts)
    projected_alike (Lit l) = refl
    projected_alike _ = refl

    all_projected_alike : (ts : Trees) → all_projected_in facts a ts ≡ all_projected_in facts b ts
    all_projected_alike no_trees = refl
    all_projected_alike (a_tree t ts) = rw (projected_alike t, all_projected_alike ts) refl

  entry_alike : (n : Text) (r : Tree) (plain : Bool) (o : Option Tree) → entry_answer facts a n r plain o ≡ entry_answer facts b n r plain o
  entry_alike n r plain None = refl
  entry_alike n r true (Some t) = projected_alike t
  entry_alike n r false (Some t) = refl

  attribute_alike : (n : Text) (r : Tree) → attribute_answer facts a n r ≡ attribute_answer facts b n r
  attribute_alike n (Apply (MakeRecord ks) rs) = entry_alike n (Apply (MakeRecord ks) rs) (are_projectable rs) (found_tree ks rs n)
  attribute_alike n _ = refl

  pub residual_alike : (op : Operator) (rs : Trees) → residual_answer facts a op rs ≡ residual_answer facts b op rs
  residual_alike (GetAttr n) (a_tree r no_trees) = attribute_alike n r
  residual_alike _ _ = refl

  pub applied_alike : (op : Operator) (ys : Answers) → apply_answer facts a op ys ≡ apply_answer facts b op ys
  applied_alike op (AllEvaluated vs) = refl
  applied_alike op (SomeResiduals rs) = residual_alike op rs
  applied_alike op (SomeFailed k) = refl

-- ---- operands

module _ (facts : Facts) where
  -- what the operands after the first have been split into
  abbrev Splits : Bool → Trees → Answers → Type 0
  Splits true us ps = ps ≡ SomeResiduals us
  Splits false us ps = (vs : Values) × (ps ≡ AllEvaluated vs) × (us ≡ trees_of facts vs)

  value_splits : (b : Bool) (u : Tree) (us : Trees) (v : Value) (ps : Answers) → u ≡ tree_of facts v → Splits b us ps →
      Splits b (a_tree u us) (and_next facts (Evaluated v) ps)
  value_splits true u us v ps l h = rw (h, l) refl
  value_splits false u us v ps l h = rw (h.1, l, h.2) (a_value v h.0, refl, refl)

  residual_splits : (b : Bool) (u r : Tree) (us : Trees) (ps : Answers) → u ≡ r → Splits b us ps →
      Splits true (a_tree u us) (and_next facts (ResidualTree r) ps)
  residual_splits true u r us ps l h = rw (h, l) refl
  residual_splits false u r us ps l h = rw (h.1, l, h.2) refl

  splits : (us : Trees) (ps : List Answer) → WriteEach facts us ps → Splits (is_some_left ps) us (gathered facts ps)
  splits no_trees [] h = (no_values, refl, refl)
  splits (a_tree u us) (Evaluated v ∷ ps) h = value_splits (is_some_left ps) u us v (gathered facts ps) h.0 (splits us ps h.1)
  splits (a_tree u us) (ResidualTree r ∷ ps) h = residual_splits (is_some_left ps) u r us (gathered facts ps) h.0 (splits us ps h.1)
  splits (a_tree u us) (Failed k ∷ ps) h = absurd h.0
  splits no_trees (p ∷ ps) h = absurd h
  splits (a_tree u us) [] h = absurd h

pub projecting_is_evaluating : ProjectingIsEvaluating
projecting_is_evaluating facts holds t h = projected_is facts holds t h

pub gathered_splits : GatheredAlwaysSplits
gathered_splits facts = record {
  trees = λ us ps h some. subst (λ b. Splits facts b us (gathered facts ps)) some (splits facts us ps h);
  values = λ us ps h none. subst (λ b. Splits facts b us (gathered facts ps)) none (splits facts us ps h);
}
