-- What is built of the trees of each construct.
use Rattle.std.proofs.Common.{◌≡◌, suc, ◌<◌, length, arith, map, Vec, Global, true, false, List, [], ◌∷◌, ◌++◌, Option, Some, None, Result, Ok, Err, refl, sym, ap, ◌∙◌}
use Rattle.std.proofs.lemmas.Bool.{eqb-true, eqb-false}
use Rattle.std.specs.Prelude.{◌==◌, Bool, ◌&&◌, ◌||◌, IfSome, is_err}
use Rattle.cedar_language.specs.Tree as tree
use Rattle.cedar_language.specs.Tree.{Tree, Operator, Lit, Boolean, And, Or, Apply}
use Rattle.cedar_language.specs.Uid.{Text}
use Rattle.cedar_literals.specs.declared.operators.BinaryOp.{BinaryOp}
use Rattle.cedar_literals.specs.declared.operators.BinaryOp.TheVariants as binary_op
use Rattle.cedar_literals.specs.Operators.{binary_operator_of}
use Rattle.cedar_grammar.specs.Build as build
use Rattle.cedar_grammar.specs.Build.{without_argument, with_argument, trees, unary, binary, conjunction, disjunction}
use Rattle.cedar_builders.specs.Operations.{Operations, IsLawful, OnRefusal, ◌>>=◌, operated, made, built, built_all}
use Rattle.cedar_faults.specs.declared.errors.ConversionError.{ConversionError}
use Rattle.cedar_faults.specs.Reasons.{Reason, means_nothing, refused, out_of_memory, reason}
use Rattle.cedar_faults.specs.Converts.{Misses}
use Rattle.cedar_conversion.specs.Building.{IsBuilt, IsRefused, MakesTree, TakesNot, Takes}
use Rattle.cedar_conversion.proofs.Converting.{same_as}

module _ {E B M R : Type 0} (o : Operations M R) (m : E → M) (refusal : B → Option R) where
  not_taken : (r : Reason B) (meant : Result M R) (t : Tree) → built o t ≡ meant → TakesNot refusal r meant → Misses (IsRefused o) refusal r (Some t)
  not_taken means_nothing meant t law takes = absurd takes
  not_taken (refused b) meant t law takes = by (refusal b) takes
    where
      by : (x : Option R) → OnRefusal x meant → IfSome x (λ r. IsRefused o t)
      by None h = tt
      by (Some r) h = ap is_err (law ∙ h)
  not_taken out_of_memory meant t law takes = tt

  -- what a builder gave stands for the tree from which it is built
  pub took : (r : Result E (ConversionError B)) (meant : Result M R) (t : Tree) → built o t ≡ meant → Takes m refusal r meant → MakesTree o m refusal r (Some t)
  took (Ok e) meant t law takes = record { value = t; is = refl; stands = law ∙ takes }
  took (Err f) meant t law takes = not_taken (reason f) meant t law takes

  pub took_some : (r : Result E (ConversionError B)) (meant : Result M R) (t : Tree) (want : Option Tree) → want ≡ Some t → built o t ≡ meant → Takes m refusal r meant → MakesTree o m refusal r want
  took_some r meant t want is law takes = same_as refusal (IsBuilt o m) (IsRefused o) r (Some t) want is (took r meant t law takes)

module _ {M R : Type 0} (o : Operations M R) where
  pub built_unary : (op : Operator) (x : Tree) (a : M) → built o x ≡ Ok a → built o (unary op x) ≡ operated o op (a ∷ [])
  unfolding made ◌>>=◌
  built_unary op x a e = ap (λ r. (r >>= λ y. let z : Result (List M) R = Ok [] in z >>= λ ys. let q : Result (List M) R = Ok (y ∷ ys) in q) >>= operated o op) e

  pub built_binary : (op : Operator) (x y : Tree) (a b : M) → built o x ≡ Ok a → built o y ≡ Ok b → built o (binary op x y) ≡ operated o op (a ∷ b ∷ [])
  unfolding made ◌>>=◌
  built_binary op x y a b e f =
      ap (λ r. (r >>= λ p. built_all o (trees (y ∷ [])) >>= λ ys. let q : Result (List M) R = Ok (p ∷ ys) in q) >>= operated o op) e
      ∙ ap (λ r. ((r >>= λ p. let z : Result (List M) R = Ok [] in z >>= λ ys. let q : Result (List M) R = Ok (p ∷ ys) in q) >>= λ ys. let q : Result (List M) R = Ok (a ∷ ys) in q) >>= operated o op) f

  pub built_apply : (op : Operator) (xs : List Tree) (ms : List M) → built_all o (trees xs) ≡ Ok ms → built o (Apply op (trees xs)) ≡ operated o op ms
  unfolding made ◌>>=◌
  built_apply op xs ms e = ap (λ r. r >>= operated o op) e

  pub built_none : built_all o (trees []) ≡ Ok []
  unfolding made
  built_none = refl

  pub built_more : (x : Tree) (xs : List Tree) (a : M) (ms : List M) → built o x ≡ Ok a → built_all o (trees xs) ≡ Ok ms → built_all o (trees (x ∷ xs)) ≡ Ok (a ∷ ms)
  unfolding made ◌>>=◌
  built_more x xs a ms e f =
      ap (λ r. r >>= λ p. built_all o (trees xs) >>= λ ys. let q : Result (List M) R = Ok (p ∷ ys) in q) e
      ∙ ap (λ r. r >>= λ ys. let q : Result (List M) R = Ok (a ∷ ys) in q) f

  -- the first and the others of what is built
  pub built_split : (x : Tree) (xs : List Tree) (ms : List M) → built_all o (trees (x ∷ xs)) ≡ Ok ms → (a : M) × (bs : List M) × (built o x ≡ Ok a) × (built_all o (trees xs) ≡ Ok bs) × (ms ≡ a ∷ bs)
  unfolding made ◌>>=◌
  built_split x xs ms h = by (built o x) refl (built_all o (trees xs)) refl
    where
      by : (p : Result M R) → built o x ≡ p → (q : Result (List M) R) → built_all o (trees xs) ≡ q → (a : M) × (bs : List M) × (built o x ≡ Ok a) × (built_all o (trees xs) ≡ Ok bs) × (ms ≡ a ∷ bs)
      by (Err r) e q f = absurd (cc (sym (ap (λ r. r >>= λ p. built_all o (trees xs) >>= λ ys. let q : Result (List M) R = Ok (p ∷ ys) in q) e) ∙ h))
      by (Ok a) e (Err r) f = absurd (cc (sym (ap (λ r. r >>= λ p. built_all o (trees xs) >>= λ ys. let q : Result (List M) R = Ok (p ∷ ys) in q) e ∙ ap (λ r. r >>= λ ys. let q : Result (List M) R = Ok (a ∷ ys) in q) f) ∙ h))
      by (Ok a) e (Ok bs) f = (a, bs, e, f, cc (sym h ∙ ap (λ r. r >>= λ p. built_all o (trees xs) >>= λ ys. let q : Result (List M) R = Ok (p ∷ ys) in q) e ∙ ap (λ r. r >>= λ ys. let q : Result (List M) R = Ok (a ∷ ys) in q) f))

  pub built_last : (xs : List Tree) (x : Tree) (ms : List M) (a : M) → built_all o (trees xs) ≡ Ok ms → built o x ≡ Ok a → built_all o (trees (xs ++ x ∷ [])) ≡ Ok (ms ++ a ∷ [])
  built_last [] x ms a e f = let none : ms ≡ [] = cc (e, built_none) in built_more x [] a [] f built_none ∙ ap (λ ys. Ok (ys ++ a ∷ [])) (sym none)
  built_last (y ∷ ys) x ms a e f =
      let s = built_split y ys ms e in
      built_more y (ys ++ x ∷ []) s.0 (s.1 ++ a ∷ []) s.2 (built_last ys x s.1 a s.3 f) ∙ ap (λ zs. Ok (zs ++ a ∷ [])) (sym s.4)

  pub built_if : (x y z : Tree) (a b c : M) → built o x ≡ Ok a → built o y ≡ Ok b → built o z ≡ Ok c → built o (tree.If x y z) ≡ Ok (o.ite a b c)
  unfolding made ◌>>=◌
  built_if x y z a b c e f g =
      ap (λ r. r >>= λ p. built o y >>= λ q. built o z >>= λ s. let t : Result M R = Ok (o.ite p q s) in t) e
      ∙ ap (λ r. r >>= λ q. built o z >>= λ s. let t : Result M R = Ok (o.ite a q s) in t) f
      ∙ ap (λ r. r >>= λ s. let t : Result M R = Ok (o.ite a b s) in t) g

  plain_or : (x y : Tree) (a b : M) → built o x ≡ Ok a → built o y ≡ Ok b → built o (Or x y) ≡ Ok (o.or a b)
  unfolding made ◌>>=◌
  plain_or x y a b e f =
      ap (λ r. r >>= λ p. built o y >>= λ q. let t : Result M R = Ok (o.or p q) in t) e
      ∙ ap (λ r. r >>= λ q. let t : Result M R = Ok (o.or a q) in t) f

  plain_and : (x y : Tree) (a b : M) → built o x ≡ Ok a → built o y ≡ Ok b → built o (And x y) ≡ Ok (o.and a b)
  unfolding made ◌>>=◌
  plain_and x y a b e f =
      ap (λ r. r >>= λ p. built o y >>= λ q. let t : Result M R = Ok (o.and p q) in t) e
      ∙ ap (λ r. r >>= λ q. let t : Result M R = Ok (o.and a q) in t) f

  pub built_slot : (s : tree.SlotId) → built o (tree.Slot s) ≡ Ok (o.slot s)
  unfolding made
  built_slot s = refl

  pub built_literal : (l : tree.Literal) → built o (Lit l) ≡ Ok (o.val l)
  unfolding made
  built_literal l = refl

  pub built_variable : (v : tree.Variable) → built o (tree.Var v) ≡ Ok (o.var v)
  unfolding made
  built_variable v = refl

  literal_or : IsLawful o → (p q : Bool) (a b : M) → built o (Lit (Boolean p)) ≡ Ok a → built o (Lit (Boolean q)) ≡ Ok b → built o (Lit (Boolean (p || q))) ≡ Ok (o.or a b)
  literal_or law p q a b e f =
      let left : o.val (Boolean p) ≡ a = cc (e, built_literal (Boolean p)) in
      let right : o.val (Boolean q) ≡ b = cc (f, built_literal (Boolean q)) in
      built_literal (Boolean (p || q)) ∙ ap Ok (sym (law.or_of_literals p q)) ∙ ap (λ z. Ok (o.or z (o.val (Boolean q)))) left ∙ ap (λ z. Ok (o.or a z)) right

  literal_and : IsLawful o → (p q : Bool) (a b : M) → built o (Lit (Boolean p)) ≡ Ok a → built o (Lit (Boolean q)) ≡ Ok b → built o (Lit (Boolean (p && q))) ≡ Ok (o.and a b)
  literal_and law p q a b e f =
      let left : o.val (Boolean p) ≡ a = cc (e, built_literal (Boolean p)) in
      let right : o.val (Boolean q) ≡ b = cc (f, built_literal (Boolean q)) in
      built_literal (Boolean (p && q)) ∙ ap Ok (sym (law.and_of_literals p q)) ∙ ap (λ z. Ok (o.and z (o.val (Boolean q)))) left ∙ ap (λ z. Ok (o.and a z)) right

  pub built_or : IsLawful o → (x y : Tree) (a b : M) → built o x ≡ Ok a → built o y ≡ Ok b → built o (disjunction x y) ≡ Ok (o.or a b)
  built_or law (Lit (Boolean p)) (Lit (Boolean q)) a b e f = literal_or law p q a b e f
  built_or law (Lit (Boolean p)) y a b e f = plain_or (Lit (Boolean p)) y a b e f
  built_or law x y a b e f = plain_or x y a b e f

  pub built_and : IsLawful o → (x y : Tree) (a b : M) → built o x ≡ Ok a → built o y ≡ Ok b → built o (conjunction x y) ≡ Ok (o.and a b)
  built_and law (Lit (Boolean p)) (Lit (Boolean q)) a b e f = literal_and law p q a b e f
  built_and law (Lit (Boolean p)) y a b e f = plain_and (Lit (Boolean p)) y a b e f
  built_and law x y a b e f = plain_and x y a b e f

  pub built_length : (xs : List Tree) (ms : List M) → built_all o (trees xs) ≡ Ok ms → length xs ≡ length ms
  built_length [] ms e = let none : [] ≡ ms = cc (e, built_none) in ap length none
  built_length (x ∷ xs) ms e = let s = built_split x xs ms e in ap suc (built_length xs s.1 s.3) ∙ ap length (sym s.4)

  pub nothing_built : (xs : List Tree) → built_all o (trees xs) ≡ Ok [] → xs ≡ []
  nothing_built [] e = refl
  nothing_built (x ∷ xs) e = let s = built_split x xs [] e in absurd (cc (s.4))

  pub one_built : (xs : List Tree) (a : M) → built_all o (trees xs) ≡ Ok (a ∷ []) → (x : Tree) × (xs ≡ x ∷ []) × (built o x ≡ Ok a)
  one_built [] a e = absurd (cc (e, built_none))
  one_built (x ∷ xs) a e =
      let s = built_split x xs (a ∷ []) e in
      let first : s.0 ≡ a = cc (s.4) in
      let others : s.1 ≡ [] = cc (s.4) in
      (x, ap (λ ys. x ∷ ys) (nothing_built xs (s.3 ∙ ap Ok others)), s.2 ∙ ap Ok first)

  pub binary_operands : (op : BinaryOp) (xs : List M) → operated o (binary_operator_of op) xs ≡ Ok (o.apply (binary_operator_of op) xs)
  binary_operands binary_op.Eq xs = refl
  binary_operands binary_op.Less xs = refl
  binary_operands binary_op.LessEq xs = refl
  binary_operands binary_op.Add xs = refl
  binary_operands binary_op.Sub xs = refl
  binary_operands binary_op.Mul xs = refl
  binary_operands binary_op.In xs = refl
  binary_operands binary_op.Contains xs = refl
  binary_operands binary_op.ContainsAll xs = refl
  binary_operands binary_op.ContainsAny xs = refl
  binary_operands binary_op.GetTag xs = refl
  binary_operands binary_op.HasTag xs = refl

-- ---- arguments of methods

pub some_arguments : (op : Operator) (t : Tree) (xs : List Tree) → 0 < length xs → without_argument op t xs ≡ None
some_arguments op t [] h = absurd (omega arith)
some_arguments op t (x ∷ xs) h = refl

pub not_one_argument : (op : Operator) (t : Tree) (xs : List Tree) → (length xs ≡ 1 → ⊥) → with_argument op t xs ≡ None
not_one_argument op t [] h = refl
not_one_argument op t (x ∷ []) h = absurd (h refl)
not_one_argument op t (x ∷ y ∷ xs) h = refl

pub length_none : {A : Type 0} (xs : List A) → length xs ≡ 0 → xs ≡ []
length_none [] e = refl
length_none (x ∷ xs) e = absurd (omega arith)

pub none_more : {A : Type 0} (v : Vec A Global) → (v.len == 0) ≡ true → v.items ≡ []
none_more v e = length_none v.items (sym v.ok.0 ∙ eqb-true v.len 0 e)

pub some_more : {A : Type 0} (v : Vec A Global) → (v.len == 0) ≡ false → 0 < length v.items
some_more v e = let some : v.len ≡ 0 → ⊥ = eqb-false v.len 0 e in let same : v.len ≡ length v.items = v.ok.0 in grind (arith, some, same)

pub has_path : {A : Type 0} (f : A → Text) (s : Text) (ts : List A) (x : Tree) → 0 < length ts → build.has (s ∷ map f ts) x ≡ unary (tree.HasPath s (map f ts)) x
has_path f s [] x h = absurd (omega arith)
has_path f s (t ∷ ts) x h = refl
