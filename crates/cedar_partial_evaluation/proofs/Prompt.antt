-- Every answer is a result to which its tree settles, where there is one.
use Rattle.std.proofs.Common.{◌≡◌, ◌≢◌, true, false, not, Option, Some, None, refl}
use Rattle.cedar_language.specs.Uid.{Text, Name}
use Rattle.cedar_language.specs.Tree.{Boolean, Entity, Context, SlotId, Operator, Equal, GetAttr, HasAttr, Tree, Lit, Var, Slot, Unknown, If, And, Or, Apply, Trees, no_trees, a_tree, EntityType}
use Rattle.cedar_language.specs.Tree as tree
use Rattle.cedar_language.specs.Value.{Plain, Values, no_values, Kind, TypeError, RecordAttrDoesNotExist, UnlinkedSlot, Outcome, Gives, Fails}
use Rattle.cedar_language.specs.Order.{same_name}
use Rattle.cedar_language.specs.Facts.{Facts}
use Rattle.cedar_language.specs.Operators.{applied}
use Rattle.cedar_partial_evaluation.specs.Settling.{Settling, Open, Errs, Is, Settlings, SomeOpen, SomeErrs, AllAre, kindless, Below, boolean, and_settled, or_settled, if_settled, and_more, apply_settled, LeafSettlings, or_entry, stated_in, type_of_entity, type_known, settled_in, all_settled_in}
use Rattle.cedar_partial_evaluation.specs.MadeAgain.{HoldsMade}
use Rattle.cedar_partial_evaluation.specs.Partial.{Answer, Evaluated, ResidualTree, Failed, Answers, AllEvaluated, SomeFailed, answer_of, last_answer, and_answer, or_answer, if_answer, and_next, LeafAnswers, apply_answer, partial_in, all_partial_in}
use Rattle.cedar_partial_evaluation.specs.Fair.{IsStated, AreMadeLeaves}
use Rattle.cedar_partial_evaluation.specs.Prompt.{ErrsAs, unbound, and_left, and_right, and_left_type, and_right_type, or_left, or_right, or_left_type, or_right_type, if_test, if_type, if_then, if_else, operands, operator, no_entry, FirstErrsAs, here, behind_value, behind_open, behind_erring, without_kind, Meets, Shows, IsPrompt, IsRefused}
use Rattle.cedar_partial_evaluation.proofs.Typed.{leaf_stated, ShowTypes, types_fit}
use Rattle.cedar_partial_evaluation.proofs.Sound.{other_type}

-- a list of operands met by a list of answers
abbrev pub MeetsAll : (Kind → Type 0) → Settlings → Answers → Type 0
MeetsAll errs_as SomeOpen ps = Unit {0}
MeetsAll errs_as SomeErrs ps = (k : Kind) × (ps ≡ SomeFailed k) × errs_as k
MeetsAll errs_as (AllAre vs) ps = ps ≡ AllEvaluated vs

-- what a leaf shows, it meets, since it never errs
leaf_meets : (errs_as : Kind → Type 0) (x : Settling) (p : Answer) → Below x (without_kind p) → x ≢ Errs → Meets errs_as x p
leaf_meets errs_as Open p h n = tt
leaf_meets errs_as Errs p h n = absurd (n refl)
leaf_meets errs_as (Is v) (Evaluated w) h n = let e : v ≡ w = cc in rw e refl
leaf_meets errs_as (Is v) (ResidualTree r) h n = cc
leaf_meets errs_as (Is v) (Failed k) h n = cc

-- the type that an answer shows: that of an entity, or the one that an unknown states
abbrev stated_of : Tree → Option Name
stated_of (Unknown n (Some (EntityType ty))) = Some ty
stated_of t = None

abbrev shown_type : Answer → Option Name
shown_type (Evaluated v) = type_of_entity v
shown_type (ResidualTree r) = stated_of r
shown_type (Failed k) = None

stated_shown : (around : LeafSettlings) (p : Answer) (u : Name) → IsStated around p u → shown_type p ≡ Some u
stated_shown around p u s = rw (s.is) refl

module _ (facts : Facts) (good : HoldsMade facts) (around : LeafSettlings) (holds : LeafAnswers) (shows : Shows facts around holds) (leaves : AreMadeLeaves facts holds)
    (Everywhere : Tree → Type 0) (everywhere : (t : Tree) (k : Kind) → partial_in facts holds t ≡ Failed k → Everywhere t) where
  abbrev Kinds : Tree → Kind → Type 0
  Kinds t k = ErrsAs facts around Everywhere t k

  abbrev FirstKinds : Trees → Kind → Type 0
  FirstKinds ts k = FirstErrsAs facts around Everywhere ts k

  slot_meets : (s : SlotId) (x : Settling) (p : Answer) → around.slot s ≡ x → Meets (λ k. k ≡ UnlinkedSlot) x p → Meets (Kinds (Slot s)) x p
  slot_meets s Open p h m = tt
  slot_meets s Errs p h (k, e, is) = (UnlinkedSlot, rw (← is) e, unbound h)
  slot_meets s (Is v) p h m = m

  and_right_meets : (l r : Tree) (y : Settling) (q : Answer) → settled_in facts around l ≡ Is (Plain (Boolean true)) → settled_in facts around r ≡ y →
      Meets (Kinds r) y q → Meets (Kinds (And l r)) (boolean y) (last_answer (And (Lit (Boolean true))) q)
  and_right_meets l r Open q hl hr m = tt
  and_right_meets l r Errs q hl hr (k, e, errs) = (k, rw e refl, and_right hl errs)
  and_right_meets l r (Is (Plain (Boolean b))) q hl hr m = rw m refl
  and_right_meets l r (Is _) q hl hr m = (TypeError, rw m refl, and_right_type hl hr tt)

  and_meets : (l r : Tree) (x y : Settling) (p q : Answer) → settled_in facts around l ≡ x → settled_in facts around r ≡ y →
      Meets (Kinds l) x p → Meets (Kinds r) y q → Meets (Kinds (And l r)) (and_settled x y) (and_answer facts p q r)
  and_meets l r Open y p q hl hr m n = tt
  and_meets l r Errs y p q hl hr (k, e, errs) n = (k, rw e refl, and_left errs)
  and_meets l r (Is (Plain (Boolean true))) y p q hl hr m n = rw m (and_right_meets l r y q hl hr n)
  and_meets l r (Is (Plain (Boolean false))) y p q hl hr m n = rw m refl
  and_meets l r (Is _) y p q hl hr m n = (TypeError, rw m refl, and_left_type hl tt)

  or_right_meets : (l r : Tree) (y : Settling) (q : Answer) → settled_in facts around l ≡ Is (Plain (Boolean false)) → settled_in facts around r ≡ y →
      Meets (Kinds r) y q → Meets (Kinds (Or l r)) (boolean y) (last_answer (Or (Lit (Boolean false))) q)
  or_right_meets l r Open q hl hr m = tt
  or_right_meets l r Errs q hl hr (k, e, errs) = (k, rw e refl, or_right hl errs)
  or_right_meets l r (Is (Plain (Boolean b))) q hl hr m = rw m refl
  or_right_meets l r (Is _) q hl hr m = (TypeError, rw m refl, or_right_type hl hr tt)

  or_meets : (l r : Tree) (x y : Settling) (p q : Answer) → settled_in facts around l ≡ x → settled_in facts around r ≡ y →
      Meets (Kinds l) x p → Meets (Kinds r) y q → Meets (Kinds (Or l r)) (or_settled x y) (or_answer facts p q r)
  or_meets l r Open y p q hl hr m n = tt
  or_meets l r Errs y p q hl hr (k, e, errs) n = (k, rw e refl, or_left errs)
  or_meets l r (Is (Plain (Boolean false))) y p q hl hr m n = rw m (or_right_meets l r y q hl hr n)
  or_meets l r (Is (Plain (Boolean true))) y p q hl hr m n = rw m refl
  or_meets l r (Is _) y p q hl hr m n = (TypeError, rw m refl, or_left_type hl tt)

  -- a branch that is taken
  taken : (t u : Tree) (y : Settling) (q : Answer) → ((k : Kind) → Kinds u k → Kinds t k) → Meets (Kinds u) y q → Meets (Kinds t) y q
  taken t u Open q f m = tt
  taken t u Errs q f (k, e, errs) = (k, e, f k errs)
  taken t u (Is v) q f m = m

  if_meets : (t y n : Tree) (x z w : Settling) (p q s : Answer) → settled_in facts around t ≡ x →
      Meets (Kinds t) x p → Meets (Kinds y) z q → Meets (Kinds n) w s → Meets (Kinds (If t y n)) (if_settled x z w) (if_answer facts p q s y n)
  if_meets t y n Open z w p q s h m k l = tt
  if_meets t y n Errs z w p q s h (k, e, errs) i l = (k, rw e refl, if_test errs)
  if_meets t y n (Is (Plain (Boolean true))) z w p q s h m k l = rw m (taken (If t y n) y z q (λ i e. if_then h e) k)
  if_meets t y n (Is (Plain (Boolean false))) z w p q s h m k l = rw m (taken (If t y n) n w s (λ i e. if_else h e) l)
  if_meets t y n (Is _) z w p q s h m k l = (TypeError, rw m refl, if_type h tt)

  more_meets : (t : Tree) (ts : Trees) (x : Settling) (xs : Settlings) (p : Answer) (ps : Answers) →
      settled_in facts around t ≡ x → partial_in facts holds t ≡ p →
      Meets (Kinds t) x p → MeetsAll (FirstKinds ts) xs ps → MeetsAll (FirstKinds (a_tree t ts)) (and_more x xs) (and_next facts p ps)
  more_meets t ts Open SomeErrs (Evaluated v) ps h g m (k, e, first) = (k, rw e refl, behind_open h first)
  more_meets t ts Open SomeErrs (ResidualTree r) ps h g m (k, e, first) = (k, rw e refl, behind_open h first)
  more_meets t ts Open SomeErrs (Failed l) ps h g m (k, e, first) = (l, refl, behind_erring h (everywhere t l g) first)
  more_meets t ts Errs SomeErrs p ps h g (k, e, errs) n = (k, rw e refl, here errs)
  more_meets t ts (Is v) SomeErrs p ps h g m (k, e, first) = (k, rw (m, e) refl, behind_value h first)
  more_meets t ts Errs SomeOpen p ps h g (k, e, errs) n = (k, rw e refl, here errs)
  more_meets t ts Errs (AllAre vs) p ps h g (k, e, errs) n = (k, rw e refl, here errs)
  more_meets t ts Open SomeOpen p ps h g m n = tt
  more_meets t ts Open (AllAre vs) p ps h g m n = tt
  more_meets t ts (Is v) SomeOpen p ps h g m n = tt
  more_meets t ts (Is v) (AllAre vs) p ps h g m n = rw (m, n) refl

  operator_meets : (op : Operator) (ts : Trees) (vs : Values) (o : Outcome) → all_settled_in facts around ts ≡ AllAre vs →
      applied facts op vs ≡ o → Meets (Kinds (Apply op ts)) (kindless o) (answer_of o)
  operator_meets op ts vs (Gives v) h e = refl
  operator_meets op ts vs (Fails k) h e = (k, refl, operator h e)

  in_context_meets : (a : Text) (x : Settling) (p : Answer) → around.in_context a ≡ x → Meets (λ k. k ≡ RecordAttrDoesNotExist) x p →
      Meets (Kinds (Apply (GetAttr a) (a_tree (Var Context) no_trees))) x p
  in_context_meets a Open p h m = tt
  in_context_meets a Errs p h (k, e, is) = (RecordAttrDoesNotExist, rw (← is) e, no_entry h)
  in_context_meets a (Is v) p h m = m

  -- what is settled without the context's entries stays, and else the entries settle it
  entry_meets : (op : Operator) (ts : Trees) (x : Settling) → Meets (Kinds (Apply op ts)) x (apply_answer facts holds op (all_partial_in facts holds ts)) →
      Meets (Kinds (Apply op ts)) (or_entry around op ts x) (apply_answer facts holds op (all_partial_in facts holds ts))
  entry_meets (GetAttr a) (a_tree (Var Context) no_trees) Open m =
      in_context_meets a (around.in_context a) (apply_answer facts holds (GetAttr a) (and_next facts (holds.variable Context) (AllEvaluated no_values))) refl (shows.in_context a)
  entry_meets (HasAttr a) (a_tree (Var Context) no_trees) Open m =
      leaf_meets (Kinds (Apply (HasAttr a) (a_tree (Var Context) no_trees))) (around.has_in_context a)
      (apply_answer facts holds (HasAttr a) (and_next facts (holds.variable Context) (AllEvaluated no_values)))
      (shows.has_in_context a).1 (shows.has_in_context a).0
  entry_meets op ts x m = m

  -- ---- what types settle is answered

  type_shown : (errs_as : Kind → Type 0) (t : Tree) (u : Name) (x : Settling) → Meets errs_as x (partial_in facts holds t) → type_known x (stated_in around t) ≡ Some u →
      shown_type (partial_in facts holds t) ≡ Some u
  type_shown errs_as t u Open m h = stated_shown around (partial_in facts holds t) u (leaf_stated around around holds shows.variable_type shows.untold facts t u h)
  type_shown errs_as t u Errs m h = cc
  type_shown errs_as t u (Is v) m h = rw m h

  is_shown : (ty u : Name) (p : Answer) → shown_type p ≡ Some u →
      apply_answer facts holds (tree.Is ty) (and_next facts p (AllEvaluated no_values)) ≡ Evaluated (Plain (Boolean (same_name u ty)))
  is_shown ty u (Evaluated (Plain (Entity e))) h = let g : e.type_name ≡ u = cc in rw g refl
  is_shown ty u (ResidualTree (Unknown n (Some (EntityType w)))) h = let g : w ≡ u = cc in rw g refl
  is_shown ty u p h = cc

  equal_shown : (u w : Name) (p q : Answer) → shown_type p ≡ Some u → shown_type q ≡ Some w → not (same_name u w) ≡ true →
      apply_answer facts holds Equal (and_next facts p (and_next facts q (AllEvaluated no_values))) ≡ Evaluated (Plain (Boolean false))
  equal_shown u w (Evaluated (Plain (Entity a))) (Evaluated (Plain (Entity b))) h k d =
      let g : a.type_name ≡ u = cc in
      let i : b.type_name ≡ w = cc in
      rw (other_type a b u w g i d) refl
  equal_shown u w (Evaluated (Plain (Entity a))) (ResidualTree (Unknown n (Some (EntityType y)))) h k d =
      let g : a.type_name ≡ u = cc in
      let i : y ≡ w = cc in
      rw (g, i) (rw d refl)
  equal_shown u w (ResidualTree (Unknown n (Some (EntityType y)))) (Evaluated (Plain (Entity b))) h k d =
      let g : y ≡ u = cc in
      let i : b.type_name ≡ w = cc in
      rw (g, i) (rw d refl)
  equal_shown u w (ResidualTree (Unknown n (Some (EntityType y)))) (ResidualTree (Unknown m (Some (EntityType z)))) h k d =
      let g : y ≡ u = cc in
      let i : z ≡ w = cc in
      rw (g, i) (rw d refl)
  equal_shown u w p q h k d = cc

  apply_meets : (op : Operator) (ts : Trees) (xs : Settlings) (ps : Answers) → all_settled_in facts around ts ≡ xs →
      MeetsAll (FirstKinds ts) xs ps → Meets (Kinds (Apply op ts)) (apply_settled facts op xs) (apply_answer facts holds op ps)
  apply_meets op ts SomeOpen ps h m = tt
  apply_meets op ts SomeErrs ps h (k, e, first) = (k, rw e refl, operands first)
  apply_meets op ts (AllAre vs) ps h m = rw m (operator_meets op ts vs (applied facts op vs) h refl)

  mutual
    pub prompt : (t : Tree) → Meets (ErrsAs facts around Everywhere t) (settled_in facts around t) (partial_in facts holds t)
    prompt (Lit l) = refl
    prompt (Unknown n ty) = leaf_meets (Kinds (Unknown n ty)) (around.unknown n ty) (holds.unknown n ty) (shows.unknown n ty) (shows.name_never_errs n ty)
    prompt (Slot s) = slot_meets s (around.slot s) (holds.slot s) refl (shows.slot s)
    prompt (Var v) = leaf_meets (Kinds (Var v)) (around.variable v) (holds.variable v) (shows.variable v) (shows.never_errs v)
    prompt (And l r) =
        and_meets l r (settled_in facts around l) (settled_in facts around r) (partial_in facts holds l) (partial_in facts holds r)
        refl refl (prompt l) (prompt r)
    prompt (Or l r) =
        or_meets l r (settled_in facts around l) (settled_in facts around r) (partial_in facts holds l) (partial_in facts holds r)
        refl refl (prompt l) (prompt r)
    prompt (If t y n) =
        if_meets t y n (settled_in facts around t) (settled_in facts around y) (settled_in facts around n)
        (partial_in facts holds t) (partial_in facts holds y) (partial_in facts holds n) refl (prompt t) (prompt y) (prompt n)
    prompt (Apply op ts) =
        types_fit facts around holds shown_type (λ t x p. Meets (Kinds t) x p) (λ ty u s h. is_shown ty u (partial_in facts holds s) h)
        (λ u w s t h k d. equal_shown u w (partial_in facts holds s) (partial_in facts holds t) h k d)
        op ts (or_entry around op ts (apply_settled facts op (all_settled_in facts around ts))) (all_types_show ts)
        (entry_meets op ts (apply_settled facts op (all_settled_in facts around ts))
        (apply_meets op ts (all_settled_in facts around ts) (all_partial_in facts holds ts) refl (all_prompt ts)))

    all_prompt : (ts : Trees) → MeetsAll (FirstErrsAs facts around Everywhere ts) (all_settled_in facts around ts) (all_partial_in facts holds ts)
    all_prompt no_trees = refl
    all_prompt (a_tree t ts) =
        more_meets t ts (settled_in facts around t) (all_settled_in facts around ts) (partial_in facts holds t) (all_partial_in facts holds ts)
        refl refl (prompt t) (all_prompt ts)

    all_types_show : (ts : Trees) → ShowTypes facts around holds shown_type ts
    all_types_show no_trees = tt
    all_types_show (a_tree t ts) = ((λ u h. type_shown (Kinds t) t u (settled_in facts around t) (prompt t) h), all_types_show ts)

pub is_prompt : IsPrompt
is_prompt facts good around holds shows leaves t = prompt facts good around holds shows leaves (IsRefused facts holds) (λ t k e. (k, e)) t
