-- A step of a walk by a stack.
use Rattle.std.proofs.Common.{◌≡◌, ◌∙◌, ap, sym, refl, suc, ◌≤◌, ◌+◌, max, List, [], ◌∷◌, ◌++◌, length, arith, Bor, Bool, true, false}
use Rattle.std.specs.Prelude.{◌||◌}
use Rattle.std.specs.List.{list_any}
use Rattle.std.proofs.lemmas.List.{append_assoc, append-nil, map-append}
use Rattle.cedar_language.specs.Tree.{Tree, Lit, Var, Slot, Unknown, If, And, Or, Apply, Trees, no_trees, a_tree}
use Rattle.cedar_trees.specs.Bare.{bare}
use Rattle.cedar_trees.specs.declared.expr.Expr.{Expr}
use Rattle.cedar_shapes.specs.Leaves.{is_unknown_tree, holds_unknown}
use Rattle.cedar_shapes.specs.Parts.{listed, parts}
use Rattle.cedar_shapes.specs.Positions.{positions, all_positions, waiting, need, needs, need_all}
use Rattle.cedar_shapes.specs.Stack.{stack_of}
use Rattle.cedar_lemmas.proofs.Booleans.{or_true, or_nothing as or_none, or_grouped as or_or}

all_wait : (ts : Trees) → all_positions ts ≡ waiting (listed ts)
all_wait no_trees = refl
all_wait (a_tree t ts) = ap (λ l. l ++ positions t) (all_wait ts)

pub positions_from : (t : Tree) → positions t ≡ t ∷ waiting (parts t)
positions_from (Lit l) = refl
positions_from (Var v) = refl
positions_from (Slot s) = refl
positions_from (Unknown n ty) = refl
positions_from (If t y n) = refl
positions_from (And l r) = refl
positions_from (Or l r) = refl
positions_from (Apply op ts) = ap (λ l. Apply op ts ∷ l) (all_wait ts)

needs_listed : (ts : Trees) → needs ts ≡ need_all (listed ts)
needs_listed no_trees = refl
needs_listed (a_tree t ts) = ap (λ n. max (need t) (1 + n)) (needs_listed ts)

need_some : (t : Tree) → 1 ≤ need t
need_some (Lit l) = omega arith
need_some (Var v) = omega arith
need_some (Slot s) = omega arith
need_some (Unknown n ty) = omega arith
need_some (If t y n) = omega arith
need_some (And l r) = omega arith
need_some (Or l r) = omega arith
need_some (Apply op ts) = omega arith

need_from : (t : Tree) → need t ≡ max 1 (need_all (parts t))
need_from (Lit l) = refl
need_from (Var v) = refl
need_from (Slot s) = refl
need_from (Unknown n ty) = refl
need_from (If t y n) = omega (arith, need_some t, need_some y, need_some n)
need_from (And l r) = omega (arith, need_some l, need_some r)
need_from (Or l r) = omega (arith, need_some l, need_some r)
need_from (Apply op ts) = ap (λ n. max 1 n) (needs_listed ts)

waiting_more : (xs ys : List Tree) → waiting (xs ++ ys) ≡ waiting ys ++ waiting xs
waiting_more [] ys = sym (append-nil (waiting ys))
waiting_more (x ∷ xs) ys = rw (waiting_more xs ys) (append_assoc (waiting ys) (waiting xs) (positions x))

need_long : (xs : List Tree) → length xs ≤ need_all xs
need_long [] = omega arith
need_long (x ∷ xs) = omega (arith, need_long xs)

need_more : (xs ys : List Tree) → need_all (xs ++ ys) ≡ max (need_all xs) (length xs + need_all ys)
need_more [] ys = omega arith
need_more (x ∷ xs) ys = omega (arith, need_more xs ys, need_long xs)

-- the stack xs with t on top, before and after t is taken off and its parts are put on
module _ (xs : List Tree) (t : Tree) where
  waiting_step : waiting (xs ++ t ∷ []) ≡ t ∷ waiting (xs ++ parts t)
  waiting_step = rw (waiting_more xs (t ∷ []), waiting_more xs (parts t), positions_from t) refl

  need_falls : need_all (xs ++ parts t) ≤ need_all (xs ++ t ∷ [])
  need_falls = omega (arith, need_more xs (parts t), need_more xs (t ∷ []), need_from t, need_long xs)

  need_room : length xs + length (parts t) ≤ need_all (xs ++ t ∷ [])
  need_room = omega (arith, need_more xs (t ∷ []), need_from t, need_long (parts t))

  need_rises : need_all (xs ++ t ∷ []) ≤ max (length xs + 1) (need_all (xs ++ parts t))
  need_rises = omega (arith, need_more xs (parts t), need_more xs (t ∷ []), need_from t, need_long xs)

-- ---- the same of expressions

module _ {T : Type 0} where
  -- one more item on the stack
  pub stack_push : (es : List (Bor (Expr T))) (e : Bor (Expr T)) → stack_of (es ++ e ∷ []) ≡ stack_of es ++ bare e.now ∷ []
  stack_push es e = map-append (λ x. bare x.now) es (e ∷ [])

  -- where there are more to come, and one of them is put on
  pub stack_then : (es : List (Bor (Expr T))) (e : Bor (Expr T)) (ts : List Tree) → stack_of (es ++ e ∷ []) ++ ts ≡ stack_of es ++ bare e.now ∷ ts
  stack_then es e ts = ap (λ l. l ++ ts) (stack_push es e) ∙ append_assoc (stack_of es) (bare e.now ∷ []) ts

  stack_length : (es : List (Bor (Expr T))) → length (stack_of es) ≡ length es
  stack_length [] = refl
  stack_length (e ∷ es) = ap (λ n. suc n) (stack_length es)

  stack_pushed : (s s1 : List (Bor (Expr T))) (x : Bor (Expr T)) → s1 ≡ s ++ x ∷ [] → stack_of s1 ≡ stack_of s ++ bare x.now ∷ []
  stack_pushed s s1 x h = ap stack_of h ∙ stack_push s x

  -- a turn of the walk: e is taken off `old`, and its parts are put onto `new`
  module _ (old new later : List (Bor (Expr T))) (e : Bor (Expr T)) (pop : old ≡ new ++ e ∷ []) where
    pub turn_room : length new + length (parts (bare e.now)) ≤ need_all (stack_of old)
    turn_room = rw (stack_pushed new old e pop, ← stack_length new) (need_room (stack_of new) (bare e.now))

    module _ (push : stack_of later ≡ stack_of new ++ parts (bare e.now)) where
      pub turn_is : waiting (stack_of old) ≡ bare e.now ∷ waiting (stack_of later)
      turn_is = rw (stack_pushed new old e pop, push) (waiting_step (stack_of new) (bare e.now))

      pub turn_need : need_all (stack_of later) ≤ need_all (stack_of old)
      turn_need = rw (stack_pushed new old e pop, push) (need_falls (stack_of new) (bare e.now))

      pub turn_rises : need_all (stack_of old) ≤ max (length new + 1) (need_all (stack_of later))
      turn_rises = rw (stack_pushed new old e pop, push, ← stack_length new) (need_rises (stack_of new) (bare e.now))

-- ---- whether a position holds an unknown

any_more : (p : Tree → Bool) (xs ys : List Tree) → list_any p (xs ++ ys) ≡ (list_any p xs || list_any p ys)
any_more p [] ys = refl
any_more p (x ∷ xs) ys = ap (λ b. p x || b) (any_more p xs ys) ∙ or_or (p x) (list_any p xs) (list_any p ys)

pub any_here : (x : Tree) (xs : List Tree) → holds_unknown x ≡ true → list_any is_unknown_tree (waiting (x ∷ xs)) ≡ true
any_here x xs h = any_more is_unknown_tree (waiting xs) (positions x) ∙ ap (λ b. list_any is_unknown_tree (waiting xs) || b) h ∙ or_true (list_any is_unknown_tree (waiting xs))

pub any_later : (x : Tree) (xs : List Tree) → holds_unknown x ≡ false → list_any is_unknown_tree (waiting (x ∷ xs)) ≡ list_any is_unknown_tree (waiting xs)
any_later x xs h = any_more is_unknown_tree (waiting xs) (positions x) ∙ ap (λ b. list_any is_unknown_tree (waiting xs) || b) h ∙ or_none (list_any is_unknown_tree (waiting xs))

module _ (t : Tree) where
  holds_from : holds_unknown t ≡ (is_unknown_tree t || list_any is_unknown_tree (waiting (parts t)))
  holds_from = ap (list_any is_unknown_tree) (positions_from t)

  pub unknown_here : is_unknown_tree t ≡ true → true ≡ holds_unknown t
  unknown_here h = sym (holds_from ∙ ap (λ b. b || list_any is_unknown_tree (waiting (parts t))) h)

  module _ (h : is_unknown_tree t ≡ false) where
    holds_below : holds_unknown t ≡ list_any is_unknown_tree (waiting (parts t))
    holds_below = holds_from ∙ ap (λ b. b || list_any is_unknown_tree (waiting (parts t))) h

    pub unknown_ends : parts t ≡ [] → false ≡ holds_unknown t
    unknown_ends p = sym (holds_below ∙ ap (λ ts. list_any is_unknown_tree (waiting ts)) p)

    module _ (x : Tree) (xs : List Tree) (p : parts t ≡ x ∷ xs) where
      holds_parts : holds_unknown t ≡ (list_any is_unknown_tree (waiting xs) || holds_unknown x)
      holds_parts = holds_below ∙ ap (λ ts. list_any is_unknown_tree (waiting ts)) p ∙ any_more is_unknown_tree (waiting xs) (positions x)

      pub unknown_others : list_any is_unknown_tree (waiting xs) ≡ true → true ≡ holds_unknown t
      unknown_others i = sym (holds_parts ∙ ap (λ b. b || holds_unknown x) i)

      pub unknown_goes_on : list_any is_unknown_tree (waiting xs) ≡ false → holds_unknown t ≡ holds_unknown x
      unknown_goes_on i = holds_parts ∙ ap (λ b. b || holds_unknown x) i
