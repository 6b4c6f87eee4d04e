-- What is refused: each construct of which a part is refused.
use Rattle.std.proofs.Common.{◌≡◌, ◌⊎◌, inl, inr, ℕ, zero, suc, ◌+◌, ◌-◌, ◌<◌, arith, Bool, true, false, List, [], ◌∷◌, ◌++◌, map, Option, Some, None, Result, Ok, Err, refl, sym, ap, ◌∙◌, subst}
use Rattle.std.proofs.lemmas.List.{map-append}
use Rattle.std.specs.Prelude.{cond, is_err, IsErr}
use Rattle.std.specs.Ordering.{nat_cmp, is_lt}
use Rattle.std.specs.Cmp.Lexicographic.{slice_cmp}
use Rattle.cedar_language.specs.Tree as tree
use Rattle.cedar_language.specs.Tree.{Tree, Operator, Lit, Boolean, And, Or, Apply, MakeRecord}
use Rattle.cedar_language.specs.Uid.{Text, Name}
use Rattle.cedar_grammar.specs.Names.{Names, is_among, is_function, are_distinct}
use Rattle.cedar_grammar.specs.Build as build
use Rattle.cedar_grammar.specs.Build.{Comparison, Keyed, keys, put, by_key, record_of, trees, unary, binary, conjunction, disjunction, compared, is_in, nots, negs, with_argument, without_argument, method}
use Rattle.cedar_grammar.specs.Loose as loose
use Rattle.cedar_grammar.specs.Converting as converting
use Rattle.cedar_grammar.specs.Converting.{head_tree, name_path, comparison_of, sum, product, record_tree}
use Rattle.cedar_cst.specs.LeafView.{view_rel_op, view_add_op, view_mult_op}
use Rattle.cedar_builders.specs.Operations.{Operations, ◌>>=◌, operated, made, built, built_all}
use Rattle.cedar_faults.specs.Converts.{and_then}
use Rattle.cedar_conversion.specs.declared.applying.Joint.{Joint}
use Rattle.cedar_conversion.specs.declared.applying.Joint.TheVariants as joint
use Rattle.cedar_conversion.specs.declared.signs.Sign.{Sign}
use Rattle.cedar_conversion.specs.declared.signs.Sign.TheVariants as sign
use Rattle.cedar_conversion.specs.Building.{IsRefused, AreRefused}
use Rattle.cedar_conversion.specs.Heads.{IsHeadRefused}
use Rattle.cedar_conversion.specs.Entries.{IsEntryRefused, AreEntriesRefused}
use Rattle.cedar_conversion.specs.Joints.{joined, repeated}
use Rattle.cedar_conversion.proofs.Made.{built_none, built_more, built_literal}

err_then : {A B R : Type 0} (r : Result A R) (f : A → Result B R) → IsErr r → IsErr (r >>= f)
unfolding ◌>>=◌
err_then (Ok x) f h = cc
err_then (Err e) f h = refl

then_err : {A B R : Type 0} (r : Result A R) (f : A → Result B R) → ((x : A) → IsErr (f x)) → IsErr (r >>= f)
unfolding ◌>>=◌
then_err (Ok x) f h = h x
then_err (Err e) f h = refl

made_not_refused : {A R : Type 0} (r : Result A R) (x : A) → r ≡ Ok x → IsErr r → ⊥
made_not_refused r x e h = let no : true ≡ false = sym h ∙ ap is_err e in cc

either_way : (P : Tree → Type 0) (b : Bool) (u v : Option Tree) (z : Tree) → (u ≡ Some z → P z) → (v ≡ Some z → P z) → cond b u v ≡ Some z → P z
either_way P true u v z f k e = f e
either_way P false u v z f k e = k e

module _ {M R : Type 0} (o : Operations M R) where
  -- ---- several

  pub refused_first : (x : Tree) (xs : List Tree) → IsRefused o x → AreRefused o (x ∷ xs)
  unfolding made
  refused_first x xs h = err_then (built o x) (λ p. built_all o (trees xs) >>= λ ys. let q : Result (List M) R = Ok (p ∷ ys) in q) h

  pub refused_more : (x : Tree) (xs : List Tree) → AreRefused o xs → AreRefused o (x ∷ xs)
  unfolding made
  refused_more x xs h = then_err (built o x) (λ p. built_all o (trees xs) >>= λ ys. let q : Result (List M) R = Ok (p ∷ ys) in q) (λ p. err_then (built_all o (trees xs)) (λ ys. let q : Result (List M) R = Ok (p ∷ ys) in q) h)

  -- the first is refused, or one of the others
  refused_cases : {P : Type 0} (x : Tree) (xs : List Tree) → AreRefused o (x ∷ xs) → (IsRefused o x → P) → (AreRefused o xs → P) → P
  refused_cases {P} x xs h f k = by (built o x) refl (built_all o (trees xs)) refl
    where
      by : (p : Result M R) → built o x ≡ p → (q : Result (List M) R) → built_all o (trees xs) ≡ q → P
      by (Err r) d q e = f (ap is_err d)
      by (Ok a) d (Err r) e = k (ap is_err e)
      by (Ok a) d (Ok bs) e = absurd (made_not_refused (built_all o (trees (x ∷ xs))) (a ∷ bs) (built_more o x xs a bs d e) h)

  pub refused_early : (xs ys : List Tree) → AreRefused o xs → AreRefused o (xs ++ ys)
  refused_early [] ys h = absurd (made_not_refused (built_all o (trees [])) [] (built_none o) h)
  refused_early (x ∷ xs) ys h = refused_cases x xs h (λ k. refused_first x (xs ++ ys) k) (λ k. refused_more x (xs ++ ys) (refused_early xs ys k))

  pub refused_last : (xs : List Tree) (x : Tree) → IsRefused o x → AreRefused o (xs ++ x ∷ [])
  refused_last [] x h = refused_first x [] h
  refused_last (y ∷ ys) x h = refused_more y (ys ++ x ∷ []) (refused_last ys x h)

  -- ---- constructs

  pub refused_apply : (op : Operator) (xs : List Tree) → AreRefused o xs → IsRefused o (Apply op (trees xs))
  unfolding made
  refused_apply op xs h = err_then (built_all o (trees xs)) (operated o op) h

  pub refused_unary : (op : Operator) (x : Tree) → IsRefused o x → IsRefused o (unary op x)
  refused_unary op x h = refused_apply op (x ∷ []) (refused_first x [] h)

  pub refused_left : (op : Operator) (x y : Tree) → IsRefused o x → IsRefused o (binary op x y)
  refused_left op x y h = refused_apply op (x ∷ y ∷ []) (refused_first x (y ∷ []) h)

  pub refused_right : (op : Operator) (x y : Tree) → IsRefused o y → IsRefused o (binary op x y)
  refused_right op x y h = refused_apply op (x ∷ y ∷ []) (refused_more x (y ∷ []) (refused_first y [] h))

  pub refused_test : (x y z : Tree) → IsRefused o x → IsRefused o (tree.If x y z)
  unfolding made
  refused_test x y z h = err_then (built o x) (λ p. built o y >>= λ q. built o z >>= λ r. let t : Result M R = Ok (o.ite p q r) in t) h

  -- one of the two branches
  pub refused_branch : (x y z : Tree) → IsRefused o y ⊎ IsRefused o z → IsRefused o (tree.If x y z)
  unfolding made
  refused_branch x y z (inl h) = then_err (built o x) (λ p. built o y >>= λ q. built o z >>= λ r. let t : Result M R = Ok (o.ite p q r) in t) (λ p. err_then (built o y) (λ q. built o z >>= λ r. let t : Result M R = Ok (o.ite p q r) in t) h)
  refused_branch x y z (inr h) = then_err (built o x) (λ p. built o y >>= λ q. built o z >>= λ r. let t : Result M R = Ok (o.ite p q r) in t) (λ p. then_err (built o y) (λ q. built o z >>= λ r. let t : Result M R = Ok (o.ite p q r) in t) (λ q. err_then (built o z) (λ r. let t : Result M R = Ok (o.ite p q r) in t) h))

  plain_or_left : (x y : Tree) → IsRefused o x → IsRefused o (Or x y)
  unfolding made
  plain_or_left x y h = err_then (built o x) (λ p. built o y >>= λ q. let t : Result M R = Ok (o.or p q) in t) h

  plain_or_right : (x y : Tree) → IsRefused o y → IsRefused o (Or x y)
  unfolding made
  plain_or_right x y h = then_err (built o x) (λ p. built o y >>= λ q. let t : Result M R = Ok (o.or p q) in t) (λ p. err_then (built o y) (λ q. let t : Result M R = Ok (o.or p q) in t) h)

  plain_and_left : (x y : Tree) → IsRefused o x → IsRefused o (And x y)
  unfolding made
  plain_and_left x y h = err_then (built o x) (λ p. built o y >>= λ q. let t : Result M R = Ok (o.and p q) in t) h

  plain_and_right : (x y : Tree) → IsRefused o y → IsRefused o (And x y)
  unfolding made
  plain_and_right x y h = then_err (built o x) (λ p. built o y >>= λ q. let t : Result M R = Ok (o.and p q) in t) (λ p. err_then (built o y) (λ q. let t : Result M R = Ok (o.and p q) in t) h)

  -- a literal isn't refused
  literal_built : (l : tree.Literal) → IsRefused o (Lit l) → ⊥
  literal_built l h = made_not_refused (built o (Lit l)) (o.val l) (built_literal o l) h

  refused_or_left : (x y : Tree) → IsRefused o x → IsRefused o (disjunction x y)
  refused_or_left (Lit (Boolean p)) (Lit (Boolean q)) h = absurd (literal_built (Boolean p) h)
  refused_or_left (Lit (Boolean p)) y h = plain_or_left (Lit (Boolean p)) y h
  refused_or_left x y h = plain_or_left x y h

  refused_or_right : (x y : Tree) → IsRefused o y → IsRefused o (disjunction x y)
  refused_or_right (Lit (Boolean p)) (Lit (Boolean q)) h = absurd (literal_built (Boolean q) h)
  refused_or_right (Lit (Boolean p)) y h = plain_or_right (Lit (Boolean p)) y h
  refused_or_right x y h = plain_or_right x y h

  refused_and_left : (x y : Tree) → IsRefused o x → IsRefused o (conjunction x y)
  refused_and_left (Lit (Boolean p)) (Lit (Boolean q)) h = absurd (literal_built (Boolean p) h)
  refused_and_left (Lit (Boolean p)) y h = plain_and_left (Lit (Boolean p)) y h
  refused_and_left x y h = plain_and_left x y h

  refused_and_right : (x y : Tree) → IsRefused o y → IsRefused o (conjunction x y)
  refused_and_right (Lit (Boolean p)) (Lit (Boolean q)) h = absurd (literal_built (Boolean q) h)
  refused_and_right (Lit (Boolean p)) y h = plain_and_right (Lit (Boolean p)) y h
  refused_and_right x y h = plain_and_right x y h

  -- ---- what should be given of operands

  pub refused_as : (x z : Tree) → Some x ≡ Some z → IsRefused o x → IsRefused o z
  refused_as x z e h = let same : x ≡ z = cc e in subst (IsRefused o) same h

  pub refused_list : (xs zs : List Tree) → Some xs ≡ Some zs → AreRefused o xs → AreRefused o zs
  refused_list xs zs e h = let same : xs ≡ zs = cc e in subst (AreRefused o) same h

  compared_left : (c : Comparison) (x y : Tree) → IsRefused o x → IsRefused o (compared c x y)
  compared_left build.less x y h = refused_left tree.Less x y h
  compared_left build.less_equal x y h = refused_left tree.LessEq x y h
  compared_left build.greater x y h = refused_unary tree.Not (binary tree.LessEq x y) (refused_left tree.LessEq x y h)
  compared_left build.greater_equal x y h = refused_unary tree.Not (binary tree.Less x y) (refused_left tree.Less x y h)
  compared_left build.equal x y h = refused_left tree.Equal x y h
  compared_left build.not_equal x y h = refused_unary tree.Not (binary tree.Equal x y) (refused_left tree.Equal x y h)
  compared_left build.in_ x y h = refused_left tree.In x y h

  compared_right : (c : Comparison) (x y : Tree) → IsRefused o y → IsRefused o (compared c x y)
  compared_right build.less x y h = refused_right tree.Less x y h
  compared_right build.less_equal x y h = refused_right tree.LessEq x y h
  compared_right build.greater x y h = refused_unary tree.Not (binary tree.LessEq x y) (refused_right tree.LessEq x y h)
  compared_right build.greater_equal x y h = refused_unary tree.Not (binary tree.Less x y) (refused_right tree.Less x y h)
  compared_right build.equal x y h = refused_right tree.Equal x y h
  compared_right build.not_equal x y h = refused_unary tree.Not (binary tree.Equal x y) (refused_right tree.Equal x y h)
  compared_right build.in_ x y h = refused_right tree.In x y h

  of_comparison : (c : Option Comparison) (x y z : Tree) → and_then c (λ k. Some (compared k x y)) ≡ Some z → ((k : Comparison) → IsRefused o (compared k x y)) → IsRefused o z
  of_comparison None x y z e h = cc
  of_comparison (Some k) x y z e h = refused_as (compared k x y) z e (h k)

  of_sum : (op : loose.AddOp) (x y z : Tree) → Some (sum op x y) ≡ Some z → ((k : Operator) → IsRefused o (binary k x y)) → IsRefused o z
  of_sum loose.plus x y z e h = refused_as (binary tree.Add x y) z e (h tree.Add)
  of_sum loose.minus x y z e h = refused_as (binary tree.Sub x y) z e (h tree.Sub)

  of_product : (op : loose.MultOp) (x y z : Tree) → product op x y ≡ Some z → ((k : Operator) → IsRefused o (binary k x y)) → IsRefused o z
  of_product loose.times x y z e h = refused_as (binary tree.Mul x y) z e (h tree.Mul)
  of_product loose.divide x y z e h = cc
  of_product loose.mod_ x y z e h = cc

  pub joined_left : (j : Joint) (x y z : Tree) → joined j x y ≡ Some z → IsRefused o x → IsRefused o z
  joined_left joint.Or x y z e h = refused_as (disjunction x y) z e (refused_or_left x y h)
  joined_left joint.And x y z e h = refused_as (conjunction x y) z e (refused_and_left x y h)
  joined_left (joint.Relation op) x y z e h = of_comparison (comparison_of (view_rel_op op)) x y z e (λ k. compared_left k x y h)
  joined_left (joint.Sum op) x y z e h = of_sum (view_add_op op) x y z e (λ k. refused_left k x y h)
  joined_left (joint.Product op) x y z e h = of_product (view_mult_op op) x y z e (λ k. refused_left k x y h)

  pub joined_right : (j : Joint) (x y z : Tree) → joined j x y ≡ Some z → IsRefused o y → IsRefused o z
  joined_right joint.Or x y z e h = refused_as (disjunction x y) z e (refused_or_right x y h)
  joined_right joint.And x y z e h = refused_as (conjunction x y) z e (refused_and_right x y h)
  joined_right (joint.Relation op) x y z e h = of_comparison (comparison_of (view_rel_op op)) x y z e (λ k. compared_right k x y h)
  joined_right (joint.Sum op) x y z e h = of_sum (view_add_op op) x y z e (λ k. refused_right k x y h)
  joined_right (joint.Product op) x y z e h = of_product (view_mult_op op) x y z e (λ k. refused_right k x y h)

  pub refused_has : (ss : List Text) (x : Tree) → IsRefused o x → IsRefused o (build.has ss x)
  refused_has [] x h = h
  refused_has (s ∷ []) x h = refused_unary (tree.HasAttr s) x h
  refused_has (s ∷ r ∷ rs) x h = refused_unary (tree.HasPath s (r ∷ rs)) x h

  pub refused_typed : (p : Name) (x y : Tree) → IsRefused o x → IsRefused o (is_in p x y)
  refused_typed p x y h = refused_and_left (unary (tree.Is p) x) (binary tree.In x y) (refused_unary (tree.Is p) x h)

  -- the name isn't refused
  pub refused_within : (p : Name) (x y : Tree) → ⊥ ⊎ IsRefused o y → IsRefused o (is_in p x y)
  refused_within p x y (inl h) = absurd h
  refused_within p x y (inr h) = refused_and_right (unary (tree.Is p) x) (binary tree.In x y) (refused_right tree.In x y h)

  -- ---- signs

  pub refused_repeated : (s : Sign) (n : ℕ) (t : Tree) → IsRefused o t → IsRefused o (repeated s n t)
  refused_repeated sign.Bang zero t h = h
  refused_repeated sign.Bang (suc n) t h = refused_unary tree.Not (nots n t) (refused_repeated sign.Bang n t h)
  refused_repeated sign.Minus zero t h = h
  refused_repeated sign.Minus (suc n) t h = refused_unary tree.Neg (negs n t) (refused_repeated sign.Minus n t h)

  repeated_more : (s : Sign) (m n : ℕ) (t : Tree) → repeated s (m + n) t ≡ repeated s m (repeated s n t)
  repeated_more sign.Bang zero n t = let none : 0 + n ≡ n = omega arith in ap (λ k. nots k t) none
  repeated_more sign.Bang (suc m) n t = let more : suc m + n ≡ suc (m + n) = omega arith in ap (λ k. nots k t) more ∙ ap (unary tree.Not) (repeated_more sign.Bang m n t)
  repeated_more sign.Minus zero n t = let none : 0 + n ≡ n = omega arith in ap (λ k. negs k t) none
  repeated_more sign.Minus (suc m) n t = let more : suc m + n ≡ suc (m + n) = omega arith in ap (λ k. negs k t) more ∙ ap (unary tree.Neg) (repeated_more sign.Minus m n t)

  -- under more signs, what is refused under some is refused
  pub refused_under : (s : Sign) (i n : ℕ) (t : Tree) → i < n → IsRefused o (repeated s 1 (repeated s i t)) → IsRefused o (repeated s n t)
  refused_under s i n t some h =
      let same : n ≡ (n - (1 + i)) + (1 + i) = omega arith in
      subst (λ k. IsRefused o (repeated s k t)) (sym same)
      (subst (IsRefused o) (sym (repeated_more s (n - (1 + i)) (1 + i) t))
      (refused_repeated s (n - (1 + i)) (repeated s (1 + i) t)
      (subst (IsRefused o) (sym (repeated_more s 1 i t)) h)))

  -- ---- heads and calls

  pub refused_head : (h : converting.Head) (z : Tree) → head_tree h ≡ Some z → IsHeadRefused o h → IsRefused o z
  refused_head (converting.a_tree t) z e h = refused_as t z e h
  refused_head (converting.a_name n) z e h = absurd h
  refused_head (converting.an_attribute t s) z e h = refused_as (unary (tree.GetAttr s) t) z e (refused_unary (tree.GetAttr s) t h)

  pub tree_head : (u : Option Tree) (g : converting.Head) → and_then u (λ t. Some (converting.a_tree t)) ≡ Some g → ((z : Tree) → u ≡ Some z → IsRefused o z) → IsHeadRefused o g
  tree_head None g e h = cc
  tree_head (Some t) g e h = let same : converting.a_tree t ≡ g = cc e in subst (IsHeadRefused o) same (h t refl)

  method_with : (op : Operator) (t : Tree) (xs : List Tree) (z : Tree) → AreRefused o (t ∷ xs) → with_argument op t xs ≡ Some z → IsRefused o z
  method_with op t [] z h e = cc
  method_with op t (x ∷ []) z h e = refused_as (binary op t x) z e (refused_apply op (t ∷ x ∷ []) h)
  method_with op t (x ∷ y ∷ xs) z h e = cc

  method_without : (op : Operator) (t : Tree) (xs : List Tree) (z : Tree) → AreRefused o (t ∷ xs) → without_argument op t xs ≡ Some z → IsRefused o z
  method_without op t [] z h e = refused_as (unary op t) z e (refused_apply op (t ∷ []) h)
  method_without op t (x ∷ xs) z h e = cc

  function_with : (b : Bool) (f : Name) (xs : List Tree) (z : Tree) → AreRefused o xs → cond b (Some (Apply (tree.Call f) (trees xs))) None ≡ Some z → IsRefused o z
  function_with true f xs z h e = refused_as (Apply (tree.Call f) (trees xs)) z e (refused_apply (tree.Call f) xs h)
  function_with false f xs z h e = cc

  refused_method : (names : Names) (m : Text) (t : Tree) (xs : List Tree) (z : Tree) → AreRefused o (t ∷ xs) → method names m t xs ≡ Some z → IsRefused o z
  refused_method names m t xs z h =
      either_way (IsRefused o) _ _ _ z (method_with tree.Contains t xs z h)
      (either_way (IsRefused o) _ _ _ z (method_with tree.ContainsAll t xs z h)
      (either_way (IsRefused o) _ _ _ z (method_with tree.ContainsAny t xs z h)
      (either_way (IsRefused o) _ _ _ z (method_with tree.GetTag t xs z h)
      (either_way (IsRefused o) _ _ _ z (method_with tree.HasTag t xs z h)
      (either_way (IsRefused o) _ _ _ z (method_without tree.IsEmpty t xs z h)
      (function_with (is_among m names.methods) (m ∷ []) (t ∷ xs) z h))))))

  refused_function : (names : Names) (p : Option Name) (xs : List Tree) (z : Tree) → AreRefused o xs → and_then p (λ f. cond (is_function names f) (Some (Apply (tree.Call f) (trees xs))) None) ≡ Some z → IsRefused o z
  refused_function names None xs z h e = cc
  refused_function names (Some f) xs z h e = function_with (is_function names f) f xs z h e

  pub called_head : (names : Names) (h : converting.Head) (xs : List Tree) (z : Tree) → converting.called names h xs ≡ Some z → IsHeadRefused o h → IsRefused o z
  called_head names (converting.a_tree t) xs z e h = cc
  called_head names (converting.a_name n) xs z e h = absurd h
  called_head names (converting.an_attribute t s) xs z e h = refused_method names s t xs z (refused_first t xs h) e

  pub called_arguments : (names : Names) (h : converting.Head) (xs : List Tree) (z : Tree) → converting.called names h xs ≡ Some z → AreRefused o xs → IsRefused o z
  called_arguments names (converting.a_tree t) xs z e h = cc
  called_arguments names (converting.a_name n) xs z e h = refused_function names (name_path n) xs z h e
  called_arguments names (converting.an_attribute t s) xs z e h = refused_method names s t xs z (refused_more t xs h) e

  pub call_of_head : (names : Names) (h : converting.Head) (xs : List Tree) (g : converting.Head) → and_then (converting.called names h xs) (λ t. Some (converting.a_tree t)) ≡ Some g → IsHeadRefused o h → IsHeadRefused o g
  call_of_head names h xs g e k = tree_head (converting.called names h xs) g e (λ z is. called_head names h xs z is k)

  pub call_of_arguments : (names : Names) (h : converting.Head) (xs : List Tree) (g : converting.Head) → and_then (converting.called names h xs) (λ t. Some (converting.a_tree t)) ≡ Some g → AreRefused o xs → IsHeadRefused o g
  call_of_arguments names h xs g e k = tree_head (converting.called names h xs) g e (λ z is. called_arguments names h xs z is k)

  -- ---- records

  abbrev values : List (Keyed Tree) → List Tree
  values es = map (λ e. e.1) es

  put_at : (b : Bool) (e f : Keyed Tree) (es fs : List (Keyed Tree)) → AreRefused o (values (e ∷ f ∷ es)) → AreRefused o (values (f ∷ fs)) → AreRefused o (values (cond b (e ∷ f ∷ es) (f ∷ fs)))
  put_at true e f es fs h k = h
  put_at false e f es fs h k = k

  refused_put : (e : Keyed Tree) (es : List (Keyed Tree)) → AreRefused o (values (e ∷ es)) → AreRefused o (values (put e es))
  refused_put e [] h = h
  refused_put e (f ∷ es) h =
      put_at (is_lt (slice_cmp nat_cmp e.0 f.0)) e f es (put e es) h
      (refused_cases e.1 (values (f ∷ es)) h
      (λ k. refused_more f.1 (values (put e es)) (refused_put e es (refused_first e.1 (values es) k)))
      (λ j. refused_cases f.1 (values es) j
      (λ k. refused_first f.1 (values (put e es)) k)
      (λ k. refused_more f.1 (values (put e es)) (refused_put e es (refused_more e.1 (values es) k)))))

  refused_by_key : (es : List (Keyed Tree)) → AreRefused o (values es) → AreRefused o (values (by_key es))
  refused_by_key [] h = h
  refused_by_key (e ∷ es) h =
      refused_cases e.1 (values es) h
      (λ k. refused_put e (by_key es) (refused_first e.1 (values (by_key es)) k))
      (λ k. refused_put e (by_key es) (refused_more e.1 (values (by_key es)) (refused_by_key es k)))

  record_when : (b : Bool) (es : List (Keyed Tree)) (z : Tree) → cond b (Some (record_of es)) None ≡ Some z → AreEntriesRefused o es → IsRefused o z
  record_when true es z e h = refused_as (record_of es) z e (refused_apply (MakeRecord (keys (by_key es))) (values (by_key es)) (refused_by_key es h))
  record_when false es z e h = cc

  pub refused_record : (es : List (Keyed Tree)) (z : Tree) → record_tree es ≡ Some z → AreEntriesRefused o es → IsRefused o z
  refused_record es z e h = record_when (are_distinct (keys es)) es z e h

  pub entries_early : (es : List (Keyed Tree)) (e : Keyed Tree) → AreEntriesRefused o es → AreEntriesRefused o (es ++ e ∷ [])
  entries_early es e h = subst (AreRefused o) (sym (map-append (λ f. f.1) es (e ∷ []))) (refused_early (values es) (e.1 ∷ []) h)

  pub entries_last : (es : List (Keyed Tree)) (e : Keyed Tree) → IsEntryRefused o e → AreEntriesRefused o (es ++ e ∷ [])
  entries_last es e h = subst (AreRefused o) (sym (map-append (λ f. f.1) es (e ∷ []))) (refused_last (values es) e.1 h)
