-- Chains that are built again.
use Rattle.std.proofs.Common.{◌≡◌, ◌∙◌, ap, sym, refl, suc, All, arith, List, [], ◌∷◌, ◌++◌}
use Rattle.std.specs.Prelude.{Bool, true, false, cond, Option, Some, None, Result, Ok, Err}
use Rattle.std.proofs.lemmas.List.{map-append}
use denote.Ref.{Bor}
use Rattle.cedar_language.specs.Uid.{Text}
use Rattle.cedar_language.specs.Tree as tree
use Rattle.cedar_language.specs.Tree.{ValueType, Tree}
use Rattle.cedar_trees.specs.Bare.{bare}
use Rattle.cedar_trees.specs.declared.expr.Expr.{Expr}
use Rattle.cedar_builders.specs.Operations.{Operations, ◌>>=◌, operated, made, made_all}
use Rattle.cedar_substitution.specs.Chains.{takes_list, first_of_all, first_of, refilled, chained, chain_of}
use Rattle.cedar_substitution.proofs.Giving.{gathered}

pub all_last : {X : Type 0} (P : X → Type 0) (xs : List X) (x : X) → All P (xs ++ x ∷ []) → P x
all_last P [] x h = h 0 x (omega arith)
all_last P (y ∷ xs) x h = all_last P xs x (λ k d lt. h (suc k) d (omega (arith, lt)))

pub some_of : {A : Type 0} (b : Bool) (x : Option A) (a : A) → cond b None x ≡ Some a → x ≡ Some a
some_of true x a h = cc
some_of false x a h = h

pub some_same : {A : Type 0} (x y : A) → Some x ≡ Some y → x ≡ y
some_same x y h = cc

module _ {M R : Type 0} (o : Operations M R) (u : Text → Option ValueType → Result M R) where
  applied_first : (op : tree.Operator) (ts : tree.Trees) (f : Tree) → first_of_all ts ≡ Some f → made o u (tree.Apply op ts) ≡ (made o u f >>= refilled o u (tree.Apply op ts))
  unfolding made
  applied_first op tree.no_trees f h = cc
  applied_first op (tree.a_tree t ts) f h = gathered (made o u t) (made_all o u ts) (operated o op) ∙ ap (λ g. made o u g >>= refilled o u (tree.Apply op (tree.a_tree t ts))) (some_same t f h)

  -- a tree is made from what is made of its first part
  pub made_first : (t f : Tree) → first_of t ≡ Some f → made o u t ≡ (made o u f >>= refilled o u t)
  unfolding made
  made_first (tree.Lit l) f h = cc
  made_first (tree.Var v) f h = cc
  made_first (tree.Slot s) f h = cc
  made_first (tree.Unknown n ty) f h = cc
  made_first (tree.If a b c) f h = ap (λ g. made o u g >>= refilled o u (tree.If a b c)) (some_same a f h)
  made_first (tree.And a b) f h = ap (λ g. made o u g >>= refilled o u (tree.And a b)) (some_same a f h)
  made_first (tree.Or a b) f h = ap (λ g. made o u g >>= refilled o u (tree.Or a b)) (some_same a f h)
  made_first (tree.Apply op ts) f h = applied_first op ts f (some_of (takes_list op) (first_of_all ts) f h)

  chain_more : (ts : List Tree) (t : Tree) (r : Result M R) → chained o u (ts ++ t ∷ []) r ≡ chained o u ts (r >>= refilled o u t)
  chain_more [] t r = refl
  chain_more (s ∷ ts) t r = ap (λ x. x >>= refilled o u s) (chain_more ts t r)

  chain_refused : (ts : List Tree) (r : R) → chained o u ts (Err r) ≡ Err r
  unfolding ◌>>=◌
  chain_refused [] r = refl
  chain_refused (t ∷ ts) r = ap (λ x. x >>= refilled o u t) (chain_refused ts r)

  module _ {T : Type 0} where
    put_last : (es later : List (Bor (Expr T))) (e : Bor (Expr T)) (r : Result M R) → later ≡ es ++ e ∷ [] → chained o u (chain_of later) r ≡ chained o u (chain_of es) (r >>= refilled o u (bare e.now))
    put_last es later e r h =
        ap (λ l. chained o u (chain_of l) r) h
        ∙ ap (λ l. chained o u l r) (map-append (λ x. bare x.now) es (e ∷ []))
        ∙ chain_more (chain_of es) (bare e.now) r

    pub chain_down : (es later : List (Bor (Expr T))) (e : Bor (Expr T)) (f : Tree) (w : Result M R) → later ≡ es ++ e ∷ [] → Some f ≡ first_of (bare e.now) → chained o u (chain_of es) (made o u (bare e.now)) ≡ w → chained o u (chain_of later) (made o u f) ≡ w
    chain_down es later e f w h first is =
        put_last es later e (made o u f) h ∙ ap (λ r. chained o u (chain_of es) r) (sym (made_first (bare e.now) f (sym first))) ∙ is

    taken : (es later : List (Bor (Expr T))) (e : Bor (Expr T)) (x : M) (w : Result M R) → es ≡ later ++ e ∷ [] → chained o u (chain_of es) (Ok x) ≡ w → w ≡ chained o u (chain_of later) (refilled o u (bare e.now) x)
    unfolding ◌>>=◌
    taken es later e x w h is = sym is ∙ put_last later es e (Ok x) h

    pub chain_up : (es later : List (Bor (Expr T))) (e : Bor (Expr T)) (x y : M) (w : Result M R) → es ≡ later ++ e ∷ [] → refilled o u (bare e.now) x ≡ Ok y → chained o u (chain_of es) (Ok x) ≡ w → chained o u (chain_of later) (Ok y) ≡ w
    chain_up es later e x y w h ok is = sym (taken es later e x w h is ∙ ap (λ r. chained o u (chain_of later) r) ok)

    pub chain_up_refused : (es later : List (Bor (Expr T))) (e : Bor (Expr T)) (x : M) (w : Result M R) → es ≡ later ++ e ∷ [] → chained o u (chain_of es) (Ok x) ≡ w → (r : R) → refilled o u (bare e.now) x ≡ Err r → w ≡ Err r
    chain_up_refused es later e x w h is r err = taken es later e x w h is ∙ ap (λ z. chained o u (chain_of later) z) err ∙ chain_refused (chain_of later) r

    pub end_refused : (es : List (Bor (Expr T))) (m w : Result M R) → chained o u (chain_of es) m ≡ w → (r : R) → m ≡ Err r → w ≡ Err r
    end_refused es m w is r err = sym is ∙ ap (λ z. chained o u (chain_of es) z) err ∙ chain_refused (chain_of es) r

    pub chain_done : (es : List (Bor (Expr T))) (m w : Result M R) → es ≡ [] → chained o u (chain_of es) m ≡ w → w ≡ m
    chain_done es m w none is = sym is ∙ ap (λ l. chained o u (chain_of l) m) none
