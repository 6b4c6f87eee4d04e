-- What is settled of a tree is settled of what an answer left of it, where that is so of leaves and operators.
use Rattle.std.proofs.Common.{◌≡◌, true, false, not, Option, Some, None, List, [], ◌∷◌, refl, sym, ◌∙◌, ap, subst}
use Rattle.cedar_language.specs.Uid.{Name}
use Rattle.cedar_language.specs.Tree.{Boolean, Entity, Context, Operator, Equal, GetAttr, HasAttr, Tree, Lit, Var, Slot, Unknown, If, And, Or, Apply, Trees, no_trees, a_tree}
use Rattle.cedar_language.specs.Tree as tree
use Rattle.cedar_language.specs.Value.{Value, Plain, no_values}
use Rattle.cedar_language.specs.Order.{same_name}
use Rattle.cedar_language.specs.Facts.{Facts}
use Rattle.cedar_language.specs.Operators.{applied}
use Rattle.cedar_partial_evaluation.specs.Settling.{Settling, Open, Errs, Is, Settlings, SomeOpen, SomeErrs, AllAre, kindless, Below, boolean, and_settled, or_settled, if_settled, and_more, apply_settled, LeafSettlings, or_entry, stated_in, type_of_entity, type_known, or_type, settled_in, all_settled_in, types_in}
use Rattle.cedar_partial_evaluation.specs.MadeAgain.{HoldsMade}
use Rattle.cedar_partial_evaluation.specs.Partial.{Answer, Evaluated, ResidualTree, Failed, Answers, AllEvaluated, SomeResiduals, SomeFailed, best_effort, last_answer, and_answer, or_answer, if_answer, and_next, LeafAnswers, residual_answer, apply_answer, partial_in, all_partial_in}
use Rattle.cedar_partial_evaluation.specs.Fair.{read, read_all, IsStated, IsMadeAnswer, AreMadeLeaves}
use Rattle.cedar_partial_evaluation.specs.Seam.{CarriesTo}
use Rattle.cedar_partial_evaluation.proofs.Typed.{leaf_stated, ShowTypes, types_fit}
use Rattle.cedar_partial_evaluation.proofs.MadeAgain.{AreMadeAnswers, made, all_made}
use Rattle.cedar_partial_evaluation.proofs.Sound.{tree_of_is, trees_of_are, errs_more, kindless_answer, other_type}

abbrev pub BelowAll : Settlings → Settlings → Type 0
BelowAll SomeOpen ys = Unit {0}
BelowAll SomeErrs ys = SomeErrs ≡ ys
BelowAll (AllAre vs) ys = AllAre vs ≡ ys

pub below_refl : (x : Settling) → Below x x
below_refl Open = tt
below_refl Errs = refl
below_refl (Is v) = refl

pub below_is : (x y : Settling) → x ≡ y → Below x y
below_is x y e = rw e (below_refl y)

pub below_trans : (x y z : Settling) → Below x y → Below y z → Below x z
below_trans Open y z h k = tt
below_trans Errs y z h k = let P : Settling → Type 0 = λ w. Below w z in subst P (sym h) k
below_trans (Is v) y z h k = let P : Settling → Type 0 = λ w. Below w z in subst P (sym h) k

pub boolean_mono : (x y : Settling) → Below x y → Below (boolean x) (boolean y)
boolean_mono Open y h = tt
boolean_mono Errs y h = rw (← h) refl
boolean_mono (Is v) y h = below_is (boolean (Is v)) (boolean y) (ap boolean h)

pub and_mono : (x y z w : Settling) → Below x z → Below y w → Below (and_settled x y) (and_settled z w)
and_mono Open y z w h k = tt
and_mono Errs y z w h k = rw (← h) refl
and_mono (Is (Plain (Boolean true))) y z w h k = rw (← h) (boolean_mono y w k)
and_mono (Is (Plain (Boolean false))) y z w h k = rw (← h) refl
and_mono (Is _) y z w h k = rw (← h) refl

pub or_mono : (x y z w : Settling) → Below x z → Below y w → Below (or_settled x y) (or_settled z w)
or_mono Open y z w h k = tt
or_mono Errs y z w h k = rw (← h) refl
or_mono (Is (Plain (Boolean false))) y z w h k = rw (← h) (boolean_mono y w k)
or_mono (Is (Plain (Boolean true))) y z w h k = rw (← h) refl
or_mono (Is _) y z w h k = rw (← h) refl

pub if_mono : (x y u z w v : Settling) → Below x z → Below y w → Below u v → Below (if_settled x y u) (if_settled z w v)
if_mono Open y u z w v h k l = tt
if_mono Errs y u z w v h k l = rw (← h) refl
if_mono (Is (Plain (Boolean true))) y u z w v h k l = rw (← h) k
if_mono (Is (Plain (Boolean false))) y u z w v h k l = rw (← h) l
if_mono (Is _) y u z w v h k l = rw (← h) refl

pub refused_more : (x : Settling) (xs : Settlings) → Below x Errs → BelowAll (and_more x xs) SomeErrs
refused_more x SomeErrs h = refl
refused_more Errs SomeOpen h = refl
refused_more Errs (AllAre vs) h = refl
refused_more Open SomeOpen h = tt
refused_more Open (AllAre vs) h = tt
refused_more (Is v) SomeOpen h = tt
refused_more (Is v) (AllAre vs) h = cc

pub more_mono : (x z : Settling) (xs zs : Settlings) → Below x z → BelowAll xs zs → BelowAll (and_more x xs) (and_more z zs)
more_mono x z SomeErrs zs h k = rw (← k) refl
more_mono Errs z SomeOpen zs h k = rw (← h) (sym (errs_more zs))
more_mono Errs z (AllAre vs) zs h k = rw (← h) (sym (errs_more zs))
more_mono Open z SomeOpen zs h k = tt
more_mono Open z (AllAre vs) zs h k = tt
more_mono (Is v) z SomeOpen zs h k = tt
more_mono (Is v) z (AllAre vs) zs h k = rw (← h, ← k) refl

pub apply_mono : (facts : Facts) (op : Operator) (xs zs : Settlings) → BelowAll xs zs → Below (apply_settled facts op xs) (apply_settled facts op zs)
apply_mono facts op SomeOpen zs h = tt
apply_mono facts op SomeErrs zs h = rw (← h) refl
apply_mono facts op (AllAre vs) zs h = rw (← h) (below_refl (kindless (applied facts op vs)))

-- ---- what entries and types settle besides

entry_raised : (around : LeafSettlings) (op : Operator) (ts : Trees) (x : Settling) → Below x (or_entry around op ts x)
entry_raised around (GetAttr a) (a_tree (Var Context) no_trees) Open = tt
entry_raised around (HasAttr a) (a_tree (Var Context) no_trees) Open = tt
entry_raised around op ts x = below_refl x

type_raised : (op : Operator) (os : List (Option Name)) (x : Settling) → Below x (or_type op os x)
type_raised (tree.Is ty) (o ∷ []) Open = tt
type_raised Equal (o ∷ p ∷ []) Open = tt
type_raised op os x = below_refl x

pub raised_in : (facts : Facts) (around : LeafSettlings) (op : Operator) (ts : Trees) (x : Settling) →
    Below x (or_type op (types_in facts around ts) (or_entry around op ts x))
raised_in facts around op ts x =
    below_trans x (or_entry around op ts x) _ (entry_raised around op ts x) (type_raised op (types_in facts around ts) (or_entry around op ts x))

-- the type that is known of an operand by its answer
abbrev pub answer_type : Facts → LeafSettlings → Answer → Option Name
answer_type facts around (Evaluated v) = type_of_entity v
answer_type facts around (ResidualTree r) = type_known (settled_in facts around r) (stated_in around r)
answer_type facts around (Failed k) = None

value_type : (facts : Facts) (around : LeafSettlings) (v : Value) (u : Name) (p : Answer) → type_of_entity v ≡ Some u → Is v ≡ read facts around p →
    answer_type facts around p ≡ Some u
value_type facts around v u (Evaluated w) h e = let same : w ≡ v = cc in rw same h
value_type facts around v u (ResidualTree r) h e = ap (λ x. type_known x (stated_in around r)) (sym e) ∙ h
value_type facts around v u (Failed k) h e = cc

stated_answer : (facts : Facts) (around : LeafSettlings) (p : Answer) (u : Name) → IsStated around p u → answer_type facts around p ≡ Some u
stated_answer facts around p u s = rw (s.is) (rw (s.unsettled, s.untold) refl)

-- a type that is known of an operand is known of what is left of it
pub type_carried : (facts : Facts) (around : LeafSettlings) (p : Answer) (u : Name) (x : Settling) (o : Option Name) → (o ≡ Some u → IsStated around p u) →
    Below x (read facts around p) → type_known x o ≡ Some u → answer_type facts around p ≡ Some u
type_carried facts around p u Open o f b h = stated_answer facts around p u (f h)
type_carried facts around p u Errs o f b h = cc
type_carried facts around p u (Is v) o f b h = value_type facts around v u p h b

pub is_settles : (facts : Facts) (ty u : Name) (x : Settling) (o : Option Name) → type_known x o ≡ Some u →
    or_type (tree.Is ty) (type_known x o ∷ []) (apply_settled facts (tree.Is ty) (and_more x (AllAre no_values))) ≡ Is (Plain (Boolean (same_name u ty)))
is_settles facts ty u Open o h = let e : o ≡ Some u = h in rw e refl
is_settles facts ty u Errs o h = cc
is_settles facts ty u (Is (Plain (Entity e))) o h = let g : e.type_name ≡ u = cc in rw g refl
is_settles facts ty u (Is _) o h = cc

pub equal_settles : (facts : Facts) (u w : Name) (x y : Settling) (o p : Option Name) → type_known x o ≡ Some u → type_known y p ≡ Some w → not (same_name u w) ≡ true →
    or_type Equal (type_known x o ∷ type_known y p ∷ []) (apply_settled facts Equal (and_more x (and_more y (AllAre no_values)))) ≡ Is (Plain (Boolean false))
equal_settles facts u w Open Open o p h k d = let e : o ≡ Some u = h in let f : p ≡ Some w = k in rw (e, f) (rw d refl)
equal_settles facts u w Open (Is (Plain (Entity b))) o p h k d = let e : o ≡ Some u = h in let g : b.type_name ≡ w = cc in rw (e, g) (rw d refl)
equal_settles facts u w (Is (Plain (Entity a))) Open o p h k d = let g : a.type_name ≡ u = cc in let f : p ≡ Some w = k in rw (g, f) (rw d refl)
equal_settles facts u w (Is (Plain (Entity a))) (Is (Plain (Entity b))) o p h k d =
    let g : a.type_name ≡ u = cc in
    let i : b.type_name ≡ w = cc in
    rw (other_type a b u w g i d) refl
equal_settles facts u w x y o p h k d = cc

-- ---- what is carried

module _ (facts : Facts) (good : HoldsMade facts) (later around : LeafSettlings) where
  last_carries : (f : Tree → Tree) (y : Settling) (q : Answer) →
      ((t : Tree) → settled_in facts around (f t) ≡ boolean (settled_in facts around t)) →
      Below y (read facts around q) → Below (boolean y) (read facts around (last_answer f q))
  last_carries f y (Evaluated (Plain (Boolean b))) e h = boolean_mono y (Is (Plain (Boolean b))) h
  last_carries f y (Evaluated v) e h = boolean_mono y (Is v) h
  last_carries f y (ResidualTree l) e h = rw (e l) (boolean_mono y (settled_in facts around l) h)
  last_carries f y (Failed k) e h = boolean_mono y Errs h

  pub more_carries : (p : Answer) (ps : Answers) (t : Tree) (ts : Trees) → IsMadeAnswer facts p → AreMadeAnswers facts good ps → Below (settled_in facts later t) (read facts around p) →
      BelowAll (all_settled_in facts later ts) (read_all facts around ps) →
      BelowAll (all_settled_in facts later (a_tree t ts)) (read_all facts around (and_next facts p ps))
  more_carries (Evaluated v) (AllEvaluated vs) t ts m n h k = more_mono _ _ _ _ h k
  more_carries (Evaluated v) (SomeResiduals rs) t ts m n h k = rw (tree_of_is facts around v m) (more_mono _ _ _ _ h k)
  more_carries (Evaluated v) (SomeFailed e) t ts m n h k = more_mono _ (Is v) _ _ h k
  more_carries (ResidualTree r) (AllEvaluated vs) t ts m n h k = rw (trees_of_are facts around vs n) (more_mono _ _ _ _ h k)
  more_carries (ResidualTree r) (SomeResiduals rs) t ts m n h k = more_mono _ _ _ _ h k
  more_carries (ResidualTree r) (SomeFailed e) t ts m n h k = more_mono _ (settled_in facts around r) _ _ h k
  more_carries (Failed e) ps t ts m n h k = refused_more _ _ h

  -- around what is left a tree still errs that did
  module _ (falls : (t : Tree) → Below (settled_in facts later t) Errs → Below (settled_in facts later t) (settled_in facts around t)) where
    best_effort_carries : (q : Answer) (t : Tree) → IsMadeAnswer facts q → Below (settled_in facts later t) (read facts around q) →
        Below (settled_in facts later t) (settled_in facts around (best_effort facts q t))
    best_effort_carries (Evaluated v) t m h = rw (tree_of_is facts around v m) h
    best_effort_carries (ResidualTree r) t m h = h
    best_effort_carries (Failed k) t m h = falls t h

    and_carries : (p q : Answer) (l r : Tree) → IsMadeAnswer facts q → Below (settled_in facts later l) (read facts around p) → Below (settled_in facts later r) (read facts around q) →
        Below (settled_in facts later (And l r)) (read facts around (and_answer facts p q r))
    and_carries (ResidualTree s) q l r m h k = and_mono _ _ _ _ h (best_effort_carries q r m k)
    and_carries (Evaluated (Plain (Boolean true))) q l r m h k =
        below_trans _ (boolean (settled_in facts later r)) _ (and_mono _ _ (Is (Plain (Boolean true))) _ h (below_refl (settled_in facts later r)))
        (last_carries (And (Lit (Boolean true))) (settled_in facts later r) q (λ t. refl) k)
    and_carries (Evaluated (Plain (Boolean false))) q l r m h k = and_mono _ _ (Is (Plain (Boolean false))) _ h k
    and_carries (Evaluated v) q l r m h k = and_mono _ _ (Is v) _ h k
    and_carries (Failed e) q l r m h k = and_mono _ _ Errs _ h k

    or_carries : (p q : Answer) (l r : Tree) → IsMadeAnswer facts q → Below (settled_in facts later l) (read facts around p) → Below (settled_in facts later r) (read facts around q) →
        Below (settled_in facts later (Or l r)) (read facts around (or_answer facts p q r))
    or_carries (ResidualTree s) q l r m h k = or_mono _ _ _ _ h (best_effort_carries q r m k)
    or_carries (Evaluated (Plain (Boolean false))) q l r m h k =
        below_trans _ (boolean (settled_in facts later r)) _ (or_mono _ _ (Is (Plain (Boolean false))) _ h (below_refl (settled_in facts later r)))
        (last_carries (Or (Lit (Boolean false))) (settled_in facts later r) q (λ t. refl) k)
    or_carries (Evaluated (Plain (Boolean true))) q l r m h k = or_mono _ _ (Is (Plain (Boolean true))) _ h k
    or_carries (Evaluated v) q l r m h k = or_mono _ _ (Is v) _ h k
    or_carries (Failed e) q l r m h k = or_mono _ _ Errs _ h k

    if_carries : (p q s : Answer) (t y n : Tree) → IsMadeAnswer facts q → IsMadeAnswer facts s → Below (settled_in facts later t) (read facts around p) → Below (settled_in facts later y) (read facts around q) →
        Below (settled_in facts later n) (read facts around s) → Below (settled_in facts later (If t y n)) (read facts around (if_answer facts p q s y n))
    if_carries (ResidualTree r) q s t y n m o h k l = if_mono _ _ _ _ _ _ h (best_effort_carries q y m k) (best_effort_carries s n o l)
    if_carries (Evaluated (Plain (Boolean true))) q s t y n m o h k l = if_mono _ _ _ (Is (Plain (Boolean true))) _ _ h k l
    if_carries (Evaluated (Plain (Boolean false))) q s t y n m o h k l = if_mono _ _ _ (Is (Plain (Boolean false))) _ _ h k l
    if_carries (Evaluated v) q s t y n m o h k l = if_mono _ _ _ (Is v) _ _ h k l
    if_carries (Failed e) q s t y n m o h k l = if_mono _ _ _ Errs _ _ h k l

    -- and leaves, what is left of an operator, and types are settled there
    module _ (holds : LeafAnswers) (carries : CarriesTo facts later around holds) (leaves : AreMadeLeaves facts holds)
        (left : (op : Operator) (rs : Trees) → Below (apply_settled facts op (all_settled_in facts around rs)) (read facts around (residual_answer facts holds op rs)))
        (answers_is : (ty u : Name) (p : Answer) → answer_type facts around p ≡ Some u
        → Below (Is (Plain (Boolean (same_name u ty)))) (read facts around (apply_answer facts holds (tree.Is ty) (and_next facts p (AllEvaluated no_values)))))
        (answers_equal : (u w : Name) (p q : Answer) → answer_type facts around p ≡ Some u → answer_type facts around q ≡ Some w → not (same_name u w) ≡ true
        → Below (Is (Plain (Boolean false))) (read facts around (apply_answer facts holds Equal (and_next facts p (and_next facts q (AllEvaluated no_values)))))) where
      apply_carries : (op : Operator) (xs : Settlings) (ps : Answers) → BelowAll xs (read_all facts around ps) →
          Below (apply_settled facts op xs) (read facts around (apply_answer facts holds op ps))
      apply_carries op xs (AllEvaluated vs) h = below_trans _ _ _ (apply_mono facts op xs (AllAre vs) h) (below_is _ _ (kindless_answer facts around (applied facts op vs)))
      apply_carries op xs (SomeResiduals rs) h = below_trans _ _ _ (apply_mono facts op xs (all_settled_in facts around rs) h) (left op rs)
      apply_carries op xs (SomeFailed k) h = apply_mono facts op xs SomeErrs h

      entry_carried : (op : Operator) (ts : Trees) (x : Settling) → Below x (read facts around (apply_answer facts holds op (all_partial_in facts holds ts))) →
          Below (or_entry later op ts x) (read facts around (apply_answer facts holds op (all_partial_in facts holds ts)))
      entry_carried (GetAttr a) (a_tree (Var Context) no_trees) Open m = carries.in_context a
      entry_carried (HasAttr a) (a_tree (Var Context) no_trees) Open m = carries.has_in_context a
      entry_carried op ts x m = m

      mutual
        pub carried : (t : Tree) → Below (settled_in facts later t) (read facts around (partial_in facts holds t))
        carried (Lit l) = refl
        carried (Unknown n ty) = carries.unknown n ty
        carried (Slot s) = carries.slot s
        carried (Var v) = carries.variable v
        carried (And l r) = and_carries (partial_in facts holds l) (partial_in facts holds r) l r (made facts good holds leaves r) (carried l) (carried r)
        carried (Or l r) = or_carries (partial_in facts holds l) (partial_in facts holds r) l r (made facts good holds leaves r) (carried l) (carried r)
        carried (If t y n) = if_carries (partial_in facts holds t) (partial_in facts holds y) (partial_in facts holds n) t y n (made facts good holds leaves y) (made facts good holds leaves n) (carried t) (carried y) (carried n)
        carried (Apply op ts) =
            types_fit facts later holds (answer_type facts around) (λ t x p. Below x (read facts around p))
            (λ ty u s h. answers_is ty u (partial_in facts holds s) h) (λ u w s t h k d. answers_equal u w (partial_in facts holds s) (partial_in facts holds t) h k d)
            op ts (or_entry later op ts (apply_settled facts op (all_settled_in facts later ts))) (all_types ts)
            (entry_carried op ts (apply_settled facts op (all_settled_in facts later ts))
            (apply_carries op (all_settled_in facts later ts) (all_partial_in facts holds ts) (all_carried ts)))

        all_carried : (ts : Trees) → BelowAll (all_settled_in facts later ts) (read_all facts around (all_partial_in facts holds ts))
        all_carried no_trees = refl
        all_carried (a_tree t ts) = more_carries (partial_in facts holds t) (all_partial_in facts holds ts) t ts (made facts good holds leaves t) (all_made facts good holds leaves ts) (carried t) (all_carried ts)

        all_types : (ts : Trees) → ShowTypes facts later holds (answer_type facts around) ts
        all_types no_trees = tt
        all_types (a_tree t ts) = (
          (λ u h. type_carried facts around (partial_in facts holds t) u (settled_in facts later t) (stated_in later t)
              (leaf_stated later around holds carries.variable_type carries.untold facts t u) (carried t) h),
          all_types ts,
        )
