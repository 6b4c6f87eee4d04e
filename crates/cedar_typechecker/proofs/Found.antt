-- From what is found of parts to what is found of a construct.
use Rattle.std.proofs.Common.{◌≡◌, ◌∙◌, refl, sym, ap, subst, true, false, ℕ, suc, ◌+◌, ◌<◌, ◌≤◌, List, [], ◌∷◌, ◌++◌, map, drop, get_or, length, arith, Option, Some, None, Bor}
use Rattle.std.specs.Prelude.{⊤, Result, Ok, Err, max}
use Rattle.std.specs.Result.{IsErr, IsErrAnd}
use Rattle.std.specs.Global.{Vec}
use Rattle.std.proofs.lemmas.List.{at_drop_more, at_drop_all, map-append, length-map}
use Rattle.cedar_language.specs.Height.{height, heights}
use Rattle.cedar_language.specs.Tree.{Operator, Tree, Lit, Var, Slot, Unknown, If, And, Or, Apply, Trees, no_trees, a_tree}
use Rattle.cedar_grammar.specs.Build.{trees, unary, binary}
use Rattle.cedar_shapes.specs.Parts.{listed, parts}
use Rattle.cedar_trees.specs.Bare.{bare}
use Rattle.cedar_trees.specs.declared.expr.Expr.{Expr}
use Rattle.cedar_typing.specs.Types.{BoolType, AlwaysTrue, AlwaysFalse, Unsure, CedarType}
use Rattle.cedar_typing.specs.Capabilities.{Capabilities}
use Rattle.cedar_typing.specs.Faults.{TypingFault, UnexpectedType}
use Rattle.cedar_typing.specs.Lazies.{and_with, and_typing, or_with, or_typing, boolean_alone, if_typing, with_more, if_both}
use Rattle.cedar_typing.specs.Results.{Typing, HasType, Faulty, Typings, HaveTypes, OneFaulty, known}
use Rattle.cedar_typing.specs.Schema.{Environment}
use Rattle.cedar_typing.specs.Typing.{operator_type, more_types, apply_typing, type_of, types_of}
use Rattle.cedar_typechecker.specs.Types.{bool_type_in, type_view}
use Rattle.cedar_typechecker.specs.Forms.{leaf_tree}
use Rattle.cedar_typechecker.specs.Operators.{part_count}
use Rattle.cedar_typechecker.specs.Results.{typing_view, fault_view, Lacks, Finds, LackOne, FindAll}
use Rattle.cedar_typechecker.specs.declared.faults.TypingError.{TypingError}
use Rattle.cedar_typechecker.specs.declared.faults.TypingError.TheVariants as error
use Rattle.cedar_typechecker.specs.declared.forms.Leaf.{Leaf}
use Rattle.cedar_typechecker.specs.declared.forms.Leaf.TheVariants as leaf
use Rattle.cedar_typechecker.specs.declared.results.Typed.{Typed}
use Rattle.cedar_typechecker.specs.declared.types.ExprType.{ExprType}
use Rattle.cedar_typechecker.proofs.Lazily.{and_at, and_untold, or_at, or_untold, if_at, if_untold}

-- ---- results that are handed on

lacks_as : (D E : Type 0) (x y : Typing) (b : TypingError) → ((k : TypingFault) → x ≡ Faulty k → y ≡ Faulty k) → (D → E) → Lacks D x b → Lacks E y b
lacks_as D E x y (error.Faulty k) f d h = f (fault_view k) h
lacks_as D E x y error.Memory f d h = tt
lacks_as D E x y error.Depth f d h = d h

pub passed : (D E : Type 0) (x y : Typing) (b : TypingError) (r : Result Typed TypingError) → IsErr r × IsErrAnd r (λ e. e ≡ b) → ((k : TypingFault) → x ≡ Faulty k → y ≡ Faulty k) → (D → E) → Lacks D x b → Finds E y r
passed D E x y b (Ok t) err f d h = absurd err.1
passed D E x y b (Err e) err f d h = subst (λ z. Lacks E y z) (sym err.1) (lacks_as D E x y b f d h)

pub refused : (E : Type 0) (y : Typing) (r : Result Typed TypingError) → IsErr r × IsErrAnd r (λ e. e ≡ error.Memory) → Finds E y r
refused E y (Ok t) err = absurd err.1
refused E y (Err e) err = subst (λ z. Lacks E y z) (sym err.1) tt

pub found_as : (D E : Type 0) (x y : Typing) (r : Result Typed TypingError) → x ≡ y → (D → E) → Finds D x r → Finds E y r
found_as D E x y (Ok t) is d h = sym is ∙ h
found_as D E x y (Err e) is d h = lacks_as D E x y e (λ k i. sym is ∙ i) d h

-- ---- heights

pub positive : (t : Tree) → 1 ≤ height t
positive (Lit l) = omega arith
positive (Var v) = omega arith
positive (Slot s) = omega arith
positive (Unknown n o) = omega arith
positive (If t y n) = omega arith
positive (And l r) = omega arith
positive (Or l r) = omega arith
positive (Apply op ts) = omega arith

pub first_high : (d a b : ℕ) → d < a → d + 1 < suc (max a b)
first_high d a b h = omega arith

pub second_high : (d a b : ℕ) → d < b → d + 1 < suc (max a b)
second_high d a b h = omega arith

pub list_high : (d n : ℕ) → d < n → d + 1 < suc n
list_high d n h = omega arith

pub yes_high : (d a b f : ℕ) → d < b → d + 1 < suc (max a (max b f))
yes_high d a b f h = omega arith

pub no_high : (d a b f : ℕ) → d < f → d + 1 < suc (max a (max b f))
no_high d a b f h = omega arith

-- ---- the arms

pub arm : (e : Environment) (c : Capabilities) (t u : Tree) (depth below : ℕ) (r : Result Typed TypingError) → t ≡ u → depth ≡ below + 1 → Finds (below + 1 < height u) (type_of e u c) r → Finds (depth < height t) (type_of e t c) r
arm e c t u depth below r is step h =
    found_as (below + 1 < height u) (depth < height t) (type_of e u c) (type_of e t c) r (ap (λ (x : Tree). type_of e x c) (sym is)) (λ d. subst (λ (x : Tree). depth < height x) (sym is) (subst (λ n. n < height u) (sym step) d)) h

leaf_anyhow : (e : Environment) (l : Leaf) (c : Capabilities) → type_of e (leaf_tree l) [] ≡ type_of e (leaf_tree l) c
leaf_anyhow e (leaf.Literal l) c = refl
leaf_anyhow e (leaf.Variable v) c = refl
leaf_anyhow e (leaf.Slot s) c = refl
leaf_anyhow e (leaf.Unknown u) c = refl

pub leaf_arm : (E : Type 0) (e : Environment) (c : Capabilities) (t : Tree) (l : Leaf) (r : Result Typed TypingError) → t ≡ leaf_tree l → Finds ⊥ (type_of e (leaf_tree l) []) r → Finds E (type_of e t c) r
leaf_arm E e c t l r is h = found_as ⊥ E (type_of e (leaf_tree l) []) (type_of e t c) r (leaf_anyhow e l c ∙ ap (λ (x : Tree). type_of e x c) (sym is)) (λ n. absurd n) h

module _ (e : Environment) (c : Capabilities) where
  -- ---- `if`
  module _ (t y n : Tree) where
    pub if_faulty : (k : TypingFault) → type_of e t c ≡ Faulty k → type_of e (If t y n) c ≡ Faulty k
    if_faulty k h = ap (λ x. if_typing x (λ d. type_of e y (d ++ c)) (type_of e n c)) h

    module _ (u : CedarType) (d : Capabilities) (is : type_of e t c ≡ HasType u d) where
      by_test : type_of e (If t y n) c ≡ if_typing (HasType u d) (λ d. type_of e y (d ++ c)) (type_of e n c)
      by_test = ap (λ x. if_typing x (λ d. type_of e y (d ++ c)) (type_of e n c)) is

      pub if_none : None ≡ bool_type_in u → type_of e (If t y n) c ≡ Faulty UnexpectedType
      if_none h = by_test ∙ if_untold u d (λ d. type_of e y (d ++ c)) (type_of e n c) h

      pub if_never : Some AlwaysFalse ≡ bool_type_in u → type_of e (If t y n) c ≡ type_of e n c
      if_never h = by_test ∙ if_at u d (λ d. type_of e y (d ++ c)) (type_of e n c) AlwaysFalse h

      pub if_always : (v : Typing) → Some AlwaysTrue ≡ bool_type_in u → type_of e y (d ++ c) ≡ v → type_of e (If t y n) c ≡ with_more d v
      if_always v h i = by_test ∙ if_at u d (λ d. type_of e y (d ++ c)) (type_of e n c) AlwaysTrue h ∙ ap (with_more d) i

      pub if_either : (v w : Typing) → Some Unsure ≡ bool_type_in u → type_of e y (d ++ c) ≡ v → type_of e n c ≡ w → type_of e (If t y n) c ≡ if_both d v w
      if_either v w h i j = by_test ∙ if_at u d (λ d. type_of e y (d ++ c)) (type_of e n c) Unsure h ∙ ap (λ x. if_both d x (type_of e n c)) i ∙ ap (if_both d v) j

  -- ---- `&&` and `||`
  module _ (l r : Tree) where
    pub and_faulty : (k : TypingFault) → type_of e l c ≡ Faulty k → type_of e (And l r) c ≡ Faulty k
    and_faulty k h = ap (λ x. and_typing x (λ d. type_of e r (d ++ c))) h

    pub or_faulty : (k : TypingFault) → type_of e l c ≡ Faulty k → type_of e (Or l r) c ≡ Faulty k
    or_faulty k h = ap (λ x. or_typing x (type_of e r c)) h

    module _ (u : CedarType) (d : Capabilities) (is : type_of e l c ≡ HasType u d) where
      by_left : type_of e (And l r) c ≡ and_typing (HasType u d) (λ d. type_of e r (d ++ c))
      by_left = ap (λ x. and_typing x (λ d. type_of e r (d ++ c))) is

      pub and_none : None ≡ bool_type_in u → type_of e (And l r) c ≡ Faulty UnexpectedType
      and_none h = by_left ∙ and_untold u d (λ d. type_of e r (d ++ c)) h

      pub and_never : Some AlwaysFalse ≡ bool_type_in u → type_of e (And l r) c ≡ known false
      and_never h = by_left ∙ and_at u d (λ d. type_of e r (d ++ c)) AlwaysFalse h

      pub and_always : (v : Typing) → Some AlwaysTrue ≡ bool_type_in u → type_of e r (d ++ c) ≡ v → type_of e (And l r) c ≡ and_with AlwaysTrue d v
      and_always v h i = by_left ∙ and_at u d (λ d. type_of e r (d ++ c)) AlwaysTrue h ∙ ap (and_with AlwaysTrue d) i

      pub and_either : (v : Typing) → Some Unsure ≡ bool_type_in u → type_of e r (d ++ c) ≡ v → type_of e (And l r) c ≡ and_with Unsure d v
      and_either v h i = by_left ∙ and_at u d (λ d. type_of e r (d ++ c)) Unsure h ∙ ap (and_with Unsure d) i

      by_first : type_of e (Or l r) c ≡ or_typing (HasType u d) (type_of e r c)
      by_first = ap (λ x. or_typing x (type_of e r c)) is

      pub or_none : None ≡ bool_type_in u → type_of e (Or l r) c ≡ Faulty UnexpectedType
      or_none h = by_first ∙ or_untold u d (type_of e r c) h

      pub or_always : Some AlwaysTrue ≡ bool_type_in u → type_of e (Or l r) c ≡ known true
      or_always h = by_first ∙ or_at u d (type_of e r c) AlwaysTrue h

      pub or_never : (v : Typing) → Some AlwaysFalse ≡ bool_type_in u → type_of e r c ≡ v → type_of e (Or l r) c ≡ boolean_alone v
      or_never v h i = by_first ∙ or_at u d (type_of e r c) AlwaysFalse h ∙ ap boolean_alone i

      pub or_either : (v : Typing) → Some Unsure ≡ bool_type_in u → type_of e r c ≡ v → type_of e (Or l r) c ≡ or_with d v
      or_either v h i = by_first ∙ or_at u d (type_of e r c) Unsure h ∙ ap (or_with d) i

  -- ---- operators
  pub one_faulty : (op : Operator) (x : Tree) (k : TypingFault) → type_of e x c ≡ Faulty k → type_of e (unary op x) c ≡ Faulty k
  one_faulty op x k h = ap (λ y. apply_typing e op (a_tree x no_trees) c (more_types y (HaveTypes []))) h

  pub one_typed : (op : Operator) (x : Tree) (t : CedarType) (d : Capabilities) → type_of e x c ≡ HasType t d → type_of e (unary op x) c ≡ operator_type e op (a_tree x no_trees) (t ∷ []) c
  one_typed op x t d h = ap (λ y. apply_typing e op (a_tree x no_trees) c (more_types y (HaveTypes []))) h

  module _ (op : Operator) (x y : Tree) where
    abbrev both_typed : Typing → Typing → Typing
    both_typed v w = apply_typing e op (a_tree x (a_tree y no_trees)) c (more_types v (more_types w (HaveTypes [])))

    pub first_faulty : (k : TypingFault) → type_of e x c ≡ Faulty k → type_of e (binary op x y) c ≡ Faulty k
    first_faulty k h = ap (λ v. both_typed v (type_of e y c)) h

    pub second_faulty : (t : CedarType) (d : Capabilities) (k : TypingFault) → type_of e x c ≡ HasType t d → type_of e y c ≡ Faulty k → type_of e (binary op x y) c ≡ Faulty k
    second_faulty t d k h i = ap (λ v. both_typed v (type_of e y c)) h ∙ ap (both_typed (HasType t d)) i

    pub two_typed : (t u : CedarType) (d f : Capabilities) → type_of e x c ≡ HasType t d → type_of e y c ≡ HasType u f → type_of e (binary op x y) c ≡ operator_type e op (a_tree x (a_tree y no_trees)) (t ∷ u ∷ []) c
    two_typed t u d f h i = ap (λ v. both_typed v (type_of e y c)) h ∙ ap (both_typed (HasType t d)) i

-- ---- any number of parts

-- these types, and what is found of the parts behind
abbrev pub with_types : List CedarType → Typings → Typings
with_types [] x = x
with_types (t ∷ ts) x = more_types (HasType t []) (with_types ts x)

same_more : (t : CedarType) (d : Capabilities) (x : Typings) → more_types (HasType t []) x ≡ more_types (HasType t d) x
same_more t d (HaveTypes ts) = refl
same_more t d (OneFaulty k) = refl

types_more : (ts : List CedarType) (t : CedarType) (d : Capabilities) (x : Typings) → with_types (ts ++ t ∷ []) x ≡ with_types ts (more_types (HasType t d) x)
types_more [] t d x = same_more t d x
types_more (u ∷ ts) t d x = ap (more_types (HasType u [])) (types_more ts t d x)

types_fault : (ts : List CedarType) (k : TypingFault) → with_types ts (OneFaulty k) ≡ OneFaulty k
types_fault [] k = refl
types_fault (t ∷ ts) k = ap (more_types (HasType t [])) (types_fault ts k)

types_all : (ts : List CedarType) → with_types ts (HaveTypes []) ≡ HaveTypes ts
types_all [] = refl
types_all (t ∷ ts) = ap (more_types (HasType t [])) (types_all ts)

-- the parts that are left
abbrev pub left_trees : List (Bor (Expr (Unit {0}))) → ℕ → Trees
left_trees ps i = trees (map (λ p. bare p.now) (drop i ps))

left_step : (ps : List (Bor (Expr (Unit {0})))) (i : ℕ) (p : Bor (Expr (Unit {0}))) → i < length ps → p ≡ get_or ps i p → left_trees ps i ≡ a_tree (bare p.now) (left_trees ps (i + 1))
left_step ps i p lt is =
    at_drop_more (λ (l : List (Bor (Expr (Unit {0})))). trees (map (λ q. bare q.now) l)) ps i p lt
    ∙ ap (λ (q : Bor (Expr (Unit {0}))). a_tree (bare q.now) (left_trees ps (i + 1))) (sym is)

pub left_high : (ps : List (Bor (Expr (Unit {0})))) (i : ℕ) (p : Bor (Expr (Unit {0}))) (n : ℕ) → i < length ps → p ≡ get_or ps i p → heights (left_trees ps i) ≤ n → (height (bare p.now) ≤ n) × (heights (left_trees ps (i + 1)) ≤ n)
left_high ps i p n lt is le =
    let h : max (height (bare p.now)) (heights (left_trees ps (i + 1))) ≤ n = subst (λ (ts : Trees). heights ts ≤ n) (left_step ps i p lt is) le in
    (omega arith, omega arith)

module _ (e : Environment) (c : Capabilities) where
  -- what is found of all parts, by the types found so far and what is left
  abbrev pub so_far : List ExprType → List (Bor (Expr (Unit {0}))) → ℕ → Typings
  so_far ts ps i = with_types (map type_view ts) (types_of e (left_trees ps i) c)

  pub part_typed : (ts : List ExprType) (t : ExprType) (d : Capabilities) (ps : List (Bor (Expr (Unit {0})))) (i : ℕ) (p : Bor (Expr (Unit {0}))) → i < length ps → p ≡ get_or ps i p → type_of e (bare p.now) c ≡ HasType (type_view t) d
      → so_far (ts ++ t ∷ []) ps (i + 1) ≡ so_far ts ps i
  part_typed ts t d ps i p lt is h =
      ap (λ us. with_types us (types_of e (left_trees ps (i + 1)) c)) (map-append type_view ts (t ∷ []))
      ∙ types_more (map type_view ts) (type_view t) d (types_of e (left_trees ps (i + 1)) c)
      ∙ ap (λ x. with_types (map type_view ts) (more_types x (types_of e (left_trees ps (i + 1)) c))) (sym h)
      ∙ ap (λ us. with_types (map type_view ts) (types_of e us c)) (sym (left_step ps i p lt is))

  pub part_faulty : (ts : List ExprType) (ps : List (Bor (Expr (Unit {0})))) (i : ℕ) (p : Bor (Expr (Unit {0}))) (k : TypingFault) → i < length ps → p ≡ get_or ps i p → type_of e (bare p.now) c ≡ Faulty k → so_far ts ps i ≡ OneFaulty k
  part_faulty ts ps i p k lt is h =
      ap (λ us. with_types (map type_view ts) (types_of e us c)) (left_step ps i p lt is)
      ∙ ap (λ x. with_types (map type_view ts) (more_types x (types_of e (left_trees ps (i + 1)) c))) h
      ∙ types_fault (map type_view ts) k

  pub parts_typed : (ts : List ExprType) (ps : List (Bor (Expr (Unit {0})))) (n : ℕ) → length ps ≤ n → so_far ts ps n ≡ HaveTypes (map type_view ts)
  parts_typed ts ps n le =
      ap (with_types (map type_view ts)) (at_drop_all (λ (l : List (Bor (Expr (Unit {0})))). types_of e (trees (map (λ q. bare q.now) l)) c) ps n le)
      ∙ types_all (map type_view ts)

listed_back : (ts : Trees) → trees (listed ts) ≡ ts
listed_back no_trees = refl
listed_back (a_tree t ts) = ap (a_tree t) (listed_back ts)

-- the parts that are listed are those of the construct
pub parts_are : (op : Operator) (ts : Trees) (ps : List Tree) (t : Tree) → ps ≡ parts t → t ≡ Apply op ts → trees ps ≡ ts
parts_are op ts ps t h is = ap trees (h ∙ ap parts is) ∙ listed_back ts

more_counted : (n : ℕ) (us : List CedarType) (x : Typing) (y : Typings) → ((vs : List CedarType) → y ≡ HaveTypes vs → length vs ≡ n) → more_types x y ≡ HaveTypes us → length us ≡ suc n
more_counted n us (HasType t d) (HaveTypes vs) i h = let same : t ∷ vs ≡ us = cc in ap length (sym same) ∙ ap suc (i vs refl)
more_counted n us (HasType t d) (OneFaulty k) i h = cc
more_counted n us (Faulty k) y i h = cc

pub counted : (ts : Trees) (us : List CedarType) (e : Environment) (c : Capabilities) → types_of e ts c ≡ HaveTypes us → length us ≡ part_count ts
counted no_trees us e c h = let none : [] ≡ us = cc in ap length (sym none)
counted (a_tree t ts) us e c h = more_counted (part_count ts) us (type_of e t c) (types_of e ts c) (λ vs i. counted ts vs e c i) h

pub list_typed : (e : Environment) (c : Capabilities) (op : Operator) (ts : Trees) (us : List CedarType) → types_of e ts c ≡ HaveTypes us → type_of e (Apply op ts) c ≡ operator_type e op ts us c
list_typed e c op ts us h = ap (apply_typing e op ts c) h

lack_one : (D E : Type 0) (x : Typings) (y : Typing) (b : TypingError) → ((k : TypingFault) → x ≡ OneFaulty k → y ≡ Faulty k) → (D → E) → LackOne D x b → Lacks E y b
lack_one D E x y (error.Faulty k) f d h = f (fault_view k) h
lack_one D E x y error.Memory f d h = tt
lack_one D E x y error.Depth f d h = d h

pub list_passed : (D E : Type 0) (x : Typings) (y : Typing) (b : TypingError) (r : Result Typed TypingError) → IsErr r × IsErrAnd r (λ e. e ≡ b) → ((k : TypingFault) → x ≡ OneFaulty k → y ≡ Faulty k) → (D → E) → LackOne D x b → Finds E y r
list_passed D E x y b (Ok t) err f d h = absurd err.1
list_passed D E x y b (Err e) err f d h = subst (λ z. Lacks E y z) (sym err.1) (lack_one D E x y b f d h)

lacks_one : (D E : Type 0) (x : Typing) (y : Typings) (b : TypingError) → ((k : TypingFault) → x ≡ Faulty k → y ≡ OneFaulty k) → (D → E) → Lacks D x b → LackOne E y b
lacks_one D E x y (error.Faulty k) f d h = f (fault_view k) h
lacks_one D E x y error.Memory f d h = tt
lacks_one D E x y error.Depth f d h = d h

pub part_passed : (D E : Type 0) (x : Typing) (y : Typings) (b : TypingError) (r : Result (Vec ExprType) TypingError) → IsErr r × IsErrAnd r (λ e. e ≡ b) → ((k : TypingFault) → x ≡ Faulty k → y ≡ OneFaulty k) → (D → E) → Lacks D x b → FindAll E y r
part_passed D E x y b (Ok t) err f d h = absurd err.1
part_passed D E x y b (Err e) err f d h = subst (λ z. LackOne E y z) (sym err.1) (lacks_one D E x y b f d h)

pub parts_refused : (E : Type 0) (y : Typings) (r : Result (Vec ExprType) TypingError) → IsErr r × IsErrAnd r (λ e. e ≡ error.Memory) → FindAll E y r
parts_refused E y (Ok t) err = absurd err.1
parts_refused E y (Err e) err = subst (λ z. LackOne E y z) (sym err.1) tt

pub length_of : (ts : List ExprType) (us : Trees) → length (map type_view ts) ≡ part_count us → length ts ≡ part_count us
length_of ts us h = sym (length-map ts type_view) ∙ h
