-- Each construct of texts is fine where its parts are.
use Rattle.std.proofs.Common.{◌≡◌, ℕ, zero, suc, refl, ap, ◌∙◌, List, [], ◌∷◌, map, false, Option, Some, None}
use Rattle.std.specs.Prelude.{⊤, cond, nat_lt, nat_le, ◌^◌, pos, neg_ℤ}
use Rattle.std.specs.Cmp.Lexicographic.{slice_cmp}
use Rattle.std.specs.Ordering.{nat_cmp, is_lt}
use Rattle.cedar_language.specs.Uid.{Text, Name}
use Rattle.cedar_language.specs.Tree as tree
use Rattle.cedar_language.specs.Tree.{Tree, Lit, Var, Apply, Operator, Long, String}
use Rattle.cedar_grammar.specs.Names.{Names, is_among, is_function, are_distinct}
use Rattle.cedar_grammar.specs.Build as build
use Rattle.cedar_grammar.specs.Build.{trees, unary, binary, Comparison, compared, is_in, has, nots, negs, long, without_argument, with_argument, method, Keyed, keys, put, by_key, record_of}
use Rattle.cedar_trees.specs.Records.{record_made}
use Rattle.cedar_grammar.specs.Loose as loose
use Rattle.cedar_grammar.specs.Converting.{name_path, name_variable, str_text, literal_tree, sum, product, negated, signed, Head, a_tree, a_name, an_attribute, head_tree, called, record_tree}
use Rattle.cedar_grammar.specs.UnknownCalls.{calls_unknown}
use Rattle.cedar_conversion.proofs.Rising.{cond_holds, zipped, made_of_ordered}
use Rattle.cedar_conversion.proofs.Holding.{Holds, Gives, given, all_given, then_holds, after_any, where_true}
use Rattle.cedar_conversion.proofs.Fine.{Fine, AllFine, IsApplied, function_apart, method_apart, fine_literal, fine_variable, fine_conjunction, fine_apply, fine_unary, fine_binary}

module _ (names : Names) where
  abbrev pub SomeFine : Option Tree → Type 0
  SomeFine o = Holds (Fine names) o

  pub fine_literal_tree : (l : loose.Literal) → SomeFine (literal_tree l)
  fine_literal_tree loose.missing_literal = tt
  fine_literal_tree loose.true_ = fine_literal names _
  fine_literal_tree loose.false_ = fine_literal names _
  fine_literal_tree (loose.num n) = where_true (Fine names) (nat_lt n (2 ^ 63)) (long (pos n)) (λ e. fine_literal names _)
  fine_literal_tree (loose.str s) = after_any (Fine names) (str_text s) (λ t. Some (Lit (String t))) (λ t. fine_literal names _)

  -- ---- operators

  pub fine_compared : (c : Comparison) (x y : Tree) → Fine names x → Fine names y → Fine names (compared c x y)
  fine_compared build.less x y f g = fine_binary names tree.Less x y refl refl f g
  fine_compared build.less_equal x y f g = fine_binary names tree.LessEq x y refl refl f g
  fine_compared build.greater x y f g = fine_unary names tree.Not (binary tree.LessEq x y) refl refl (fine_binary names tree.LessEq x y refl refl f g)
  fine_compared build.greater_equal x y f g = fine_unary names tree.Not (binary tree.Less x y) refl refl (fine_binary names tree.Less x y refl refl f g)
  fine_compared build.equal x y f g = fine_binary names tree.Equal x y refl refl f g
  fine_compared build.not_equal x y f g = fine_unary names tree.Not (binary tree.Equal x y) refl refl (fine_binary names tree.Equal x y refl refl f g)
  fine_compared build.in_ x y f g = fine_binary names tree.In x y refl refl f g

  pub fine_sum : (o : loose.AddOp) (x y : Tree) → Fine names x → Fine names y → Fine names (sum o x y)
  fine_sum loose.plus x y f g = fine_binary names tree.Add x y refl refl f g
  fine_sum loose.minus x y f g = fine_binary names tree.Sub x y refl refl f g

  pub fine_product : (o : loose.MultOp) (x y : Tree) → Fine names x → Fine names y → SomeFine (product o x y)
  fine_product loose.times x y f g = fine_binary names tree.Mul x y refl refl f g
  fine_product loose.divide x y f g = tt
  fine_product loose.mod_ x y f g = tt

  pub fine_has : (ss : List Text) (x : Tree) → Fine names x → Fine names (has ss x)
  fine_has [] x f = f
  fine_has (s ∷ []) x f = fine_unary names (tree.HasAttr s) x refl refl f
  fine_has (s ∷ r ∷ rs) x f = fine_unary names (tree.HasPath s (r ∷ rs)) x refl refl f

  pub fine_is_in : (p : Name) (x y : Tree) → Fine names x → Fine names y → Fine names (is_in p x y)
  fine_is_in p x y f g = fine_conjunction names (unary (tree.Is p) x) (binary tree.In x y) (fine_unary names (tree.Is p) x refl refl f) (fine_binary names tree.In x y refl refl f g)

  fine_nots : (n : ℕ) (x : Tree) → Fine names x → Fine names (nots n x)
  fine_nots zero x f = f
  fine_nots (suc n) x f = fine_unary names tree.Not (nots n x) refl refl (fine_nots n x f)

  fine_negs : (n : ℕ) (x : Tree) → Fine names x → Fine names (negs n x)
  fine_negs zero x f = f
  fine_negs (suc n) x f = fine_unary names tree.Neg (negs n x) refl refl (fine_negs n x f)

  fine_negated : (n : ℕ) (v : Option ℕ) (o : Option Tree) → SomeFine o → SomeFine (negated n v o)
  fine_negated n None o f = then_holds (Fine names) (Fine names) o (λ x. Some (negs n x)) f (λ x g. fine_negs n x g)
  fine_negated zero (Some v) o f = f
  fine_negated (suc n) (Some v) o f = where_true (Fine names) (nat_le v (2 ^ 63)) (negs n (long (neg_ℤ (pos v)))) (λ e. fine_negs n (long (neg_ℤ (pos v))) (fine_literal names (Long (neg_ℤ (pos v)))))

  pub fine_signed : (s : Option loose.NegOp) (v : Option ℕ) (o : Option Tree) → SomeFine o → SomeFine (signed s v o)
  fine_signed None v o f = f
  fine_signed (Some (loose.bang n)) v o f = then_holds (Fine names) (Fine names) o (λ x. Some (nots n x)) f (λ x g. fine_nots n x g)
  fine_signed (Some (loose.dash n)) v o f = fine_negated n v o f
  fine_signed (Some loose.over_bang) v o f = tt
  fine_signed (Some loose.over_dash) v o f = tt

  -- ---- calls

  abbrev GivesFine : Option Tree → Type 0
  GivesFine o = Gives (Fine names) o

  none_given : GivesFine None
  none_given = given (Fine names) None tt

  fine_with : (op : Operator) (x : Tree) (ts : List Tree) → ((y : Tree) → IsApplied op (x ∷ y ∷ [])) → calls_unknown op ≡ false → Fine names x → AllFine names ts → GivesFine (with_argument op x ts)
  fine_with op x [] is named f g = none_given
  fine_with op x (t ∷ []) is named f g = given (Fine names) (Some (binary op x t)) (fine_binary names op x t (is t) named f g.0)
  fine_with op x (t ∷ u ∷ ts) is named f g = none_given

  fine_empty : (x : Tree) (ts : List Tree) → Fine names x → GivesFine (without_argument tree.IsEmpty x ts)
  fine_empty x [] f = given (Fine names) (Some (unary tree.IsEmpty x)) (fine_unary names tree.IsEmpty x refl refl f)
  fine_empty x (t ∷ ts) f = none_given

  -- a method of the table
  fine_own : (m : Text) (ts : List Tree) → AllFine names ts → GivesFine (cond (is_among m names.methods) (Some (Apply (tree.Call (m ∷ [])) (trees ts))) None)
  fine_own m ts f =
      given (Fine names) _ (where_true (Fine names) (is_among m names.methods) (Apply (tree.Call (m ∷ [])) (trees ts))
      (λ e. fine_apply names (tree.Call (m ∷ [])) ts refl (method_apart names m e) f))

  fine_method : (m : Text) (x : Tree) (ts : List Tree) → Fine names x → AllFine names ts → SomeFine (method names m x ts)
  fine_method m x ts f g =
      all_given (Fine names) (method names m x ts)
      (cond_holds GivesFine _ _ _ (fine_with tree.Contains x ts (λ y. refl) refl f g)
      (cond_holds GivesFine _ _ _ (fine_with tree.ContainsAll x ts (λ y. refl) refl f g)
      (cond_holds GivesFine _ _ _ (fine_with tree.ContainsAny x ts (λ y. refl) refl f g)
      (cond_holds GivesFine _ _ _ (fine_with tree.GetTag x ts (λ y. refl) refl f g)
      (cond_holds GivesFine _ _ _ (fine_with tree.HasTag x ts (λ y. refl) refl f g)
      (cond_holds GivesFine _ _ _ (fine_empty x ts f) (fine_own m (x ∷ ts) (f, g))))))))

  -- what accesses have made so far
  abbrev pub FineHead : Head → Type 0
  FineHead (a_tree t) = Fine names t
  FineHead (a_name n) = ⊤
  FineHead (an_attribute t s) = Fine names t

  pub fine_head : (h : Head) → FineHead h → SomeFine (head_tree h)
  fine_head (a_tree t) f = f
  fine_head (a_name n) f = after_any (Fine names) (name_variable n) (λ v. Some (Var v)) (λ v. fine_variable names v)
  fine_head (an_attribute t s) f = fine_unary names (tree.GetAttr s) t refl refl f

  pub fine_called : (h : Head) (ts : List Tree) → FineHead h → AllFine names ts → SomeFine (called names h ts)
  fine_called (a_tree t) ts f g = tt
  fine_called (a_name n) ts f g =
      after_any (Fine names) (name_path n) (λ p. cond (is_function names p) (Some (Apply (tree.Call p) (trees ts))) None)
      (λ p. where_true (Fine names) (is_function names p) (Apply (tree.Call p) (trees ts)) (λ e. fine_apply names (tree.Call p) ts refl (function_apart names p e) g))
  fine_called (an_attribute t s) ts f g = fine_method s t ts f g

  -- ---- sets and records

  pub fine_set : (ts : List Tree) → AllFine names ts → Fine names (Apply tree.MakeSet (trees ts))
  fine_set ts f = fine_apply names tree.MakeSet ts refl (λ lacks. refl) f

  abbrev values : List (Keyed Tree) → List Tree
  values es = map (λ e. e.1) es

  fine_put : (e : Keyed Tree) (es : List (Keyed Tree)) → Fine names e.1 → AllFine names (values es) → AllFine names (values (put e es))
  fine_put e [] f g = (f, tt)
  fine_put e (h ∷ es) f g = cond_holds (λ xs. AllFine names (values xs)) (is_lt (slice_cmp nat_cmp e.0 h.0)) (e ∷ h ∷ es) (h ∷ put e es) (f, g) (g.0, fine_put e es f g.1)

  fine_by_key : (es : List (Keyed Tree)) → AllFine names (values es) → AllFine names (values (by_key es))
  fine_by_key [] f = tt
  fine_by_key (e ∷ es) f = fine_put e (by_key es) f.0 (fine_by_key es f.1)

  pub fine_record : (es : List (Keyed Tree)) → AllFine names (values es) → SomeFine (record_tree es)
  fine_record es f =
      where_true (Fine names) (are_distinct (keys es)) (record_of es)
      (λ d. fine_apply names (tree.MakeRecord (keys (by_key es))) (values (by_key es)) (ap record_made (zipped (by_key es)) ∙ made_of_ordered es d) (λ lacks. refl) (fine_by_key es f))
