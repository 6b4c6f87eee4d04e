-- What later values settle of a residual.
use Rattle.std.proofs.Common.{◌≡◌, ◌≢◌, Bool, true, false, not, cond, Option, Some, None, List, [], ◌∷◌, refl, sym, ◌∙◌, subst}
use Rattle.std.proofs.lemmas.Bool.{and_parts}
use Rattle.cedar_language.specs.Uid.{Text, Name}
use Rattle.cedar_language.specs.Tree.{Boolean, Entity, Operator, Equal, GetAttr, HasAttr, MakeSet, MakeRecord, Tree, Lit, Var, Unknown, Apply, Trees, no_trees, a_tree, EntityType}
use Rattle.cedar_language.specs.Tree as tree
use Rattle.cedar_language.specs.Value.{Value, Plain, no_values}
use Rattle.cedar_language.specs.Order.{same_text, same_name}
use Rattle.cedar_language.specs.Facts.{Facts}
use Rattle.cedar_language.specs.Operators.{applied}
use Rattle.cedar_partial_evaluation.specs.Settling.{Settling, Open, Errs, Is, Settlings, SomeOpen, SomeErrs, AllAre, Below, and_more, apply_settled, LeafSettlings, or_entry, stated_in, type_known, or_type, settled_in, all_settled_in, types_in}
use Rattle.cedar_partial_evaluation.specs.MadeAgain.{HoldsMade}
use Rattle.cedar_partial_evaluation.specs.Partial.{Answer, Evaluated, ResidualTree, Failed, Answers, AllEvaluated, SomeResiduals, SomeFailed, and_next, is_projectable, are_projectable, LeafAnswers, built_answer, projected_in, all_projected_in, found_tree, entry_answer, attribute_answer, has_entry_answer, has_answer, is_answer, stated_type, types_differ, equal_answer, residual_answer, apply_answer}
use Rattle.cedar_partial_evaluation.specs.Fair.{IsOfType, read, read_all, AreMadeLeaves}
use Rattle.cedar_partial_evaluation.specs.Seam.{Carries, ResidualsSettle}
use Rattle.cedar_partial_evaluation.proofs.MadeAgain.{plain_made, all_plain_made}
use Rattle.cedar_partial_evaluation.proofs.Sound.{found_is_at, not_found_is_at, kindless_answer, other_type}
use Rattle.cedar_partial_evaluation.proofs.Typed.{told_not}
use Rattle.cedar_partial_evaluation.proofs.Carried.{BelowAll, below_refl, below_is, below_trans, apply_mono, raised_in, answer_type, is_settles, equal_settles, more_carries, carried}

-- where each tree passes, an entry does
module _ (one : Tree → Bool) (each : Trees → Bool) (of_two : (t : Tree) (ts : Trees) → each (a_tree t ts) ≡ true → (one t ≡ true) × (each ts ≡ true)) where
  entry_step : (b : Bool) (s t : Tree) (o : Option Tree) → one s ≡ true → (o ≡ Some t → one t ≡ true) → cond b (Some s) o ≡ Some t → one t ≡ true
  entry_step true s t o h f e = let q : s ≡ t = cc in subst (λ (u : Tree). one u ≡ true) q h
  entry_step false s t o h f e = f e

  pub entry_passes : (ks : List Text) (ts : Trees) (a : Text) (t : Tree) → each ts ≡ true → found_tree ks ts a ≡ Some t → one t ≡ true
  entry_passes [] ts a t h e = cc
  entry_passes (k ∷ ks) no_trees a t h e = cc
  entry_passes (k ∷ ks) (a_tree s ts) a t h e =
      let (hs, hts) = of_two s ts h in
      entry_step (same_text k a) s t (found_tree ks ts a) hs (entry_passes ks ts a t hts) e

pub plain_entry : (ks : List Text) (ts : Trees) (a : Text) (t : Tree) → are_projectable ts ≡ true → found_tree ks ts a ≡ Some t → is_projectable t ≡ true
plain_entry ks ts a t h e = entry_passes is_projectable are_projectable (λ s us i. and_parts (is_projectable s) (are_projectable us) i) ks ts a t h e

module _ (facts : Facts) (good : HoldsMade facts) (later : LeafSettlings) (holds : LeafAnswers) (carries : Carries facts later holds) (leaves : AreMadeLeaves facts holds) where
  raised : (op : Operator) (ts : Trees) (x : Settling) → Below x (or_type op (types_in facts later ts) (or_entry later op ts x))
  raised op ts x = raised_in facts later op ts x

  raised_to : (op : Operator) (ts : Trees) (x y : Settling) → Below x y → Below x (or_type op (types_in facts later ts) (or_entry later op ts y))
  raised_to op ts x y h = below_trans x y _ h (raised op ts y)

  -- a plain tree never errs
  abbrev DontErr : Settlings → Type 0
  DontErr SomeErrs = ⊥
  DontErr _ = Unit {0}

  abbrev DoesntErr : Settling → Type 0
  DoesntErr Errs = ⊥
  DoesntErr _ = Unit {0}

  doesnt_err : (x : Settling) → x ≢ Errs → DoesntErr x
  doesnt_err Open n = tt
  doesnt_err Errs n = n refl
  doesnt_err (Is v) n = tt

  more_dont : (x : Settling) (xs : Settlings) → DoesntErr x → DontErr xs → DontErr (and_more x xs)
  more_dont x SomeErrs h k = k
  more_dont Errs xs h k = absurd h
  more_dont Open SomeOpen h k = tt
  more_dont Open (AllAre vs) h k = tt
  more_dont (Is v) SomeOpen h k = tt
  more_dont (Is v) (AllAre vs) h k = tt

  set_doesnt : (xs : Settlings) → DontErr xs → DoesntErr (apply_settled facts MakeSet xs)
  set_doesnt SomeOpen h = tt
  set_doesnt SomeErrs h = h
  set_doesnt (AllAre vs) h = tt

  record_doesnt : (ks : List Text) (xs : Settlings) → DontErr xs → DoesntErr (apply_settled facts (MakeRecord ks) xs)
  record_doesnt ks SomeOpen h = tt
  record_doesnt ks SomeErrs h = h
  record_doesnt ks (AllAre vs) h = tt

  mutual
    plain_doesnt : (t : Tree) → is_projectable t ≡ true → DoesntErr (settled_in facts later t)
    plain_doesnt (Lit l) h = tt
    plain_doesnt (Unknown n ty) h = doesnt_err (later.unknown n ty) (carries.name_never_errs n ty)
    plain_doesnt (Var v) h = doesnt_err (later.variable v) (carries.never_errs v)
    plain_doesnt (Apply MakeSet ts) h = set_doesnt (all_settled_in facts later ts) (all_plain_dont ts h)
    plain_doesnt (Apply (MakeRecord ks) ts) h = record_doesnt ks (all_settled_in facts later ts) (all_plain_dont ts h)
    plain_doesnt _ h = cc

    all_plain_dont : (ts : Trees) → are_projectable ts ≡ true → DontErr (all_settled_in facts later ts)
    all_plain_dont no_trees h = tt
    all_plain_dont (a_tree t ts) h =
        let (ht, hts) = and_parts (is_projectable t) (are_projectable ts) h in
        more_dont (settled_in facts later t) (all_settled_in facts later ts) (plain_doesnt t ht) (all_plain_dont ts hts)

  built_carries : (op : Operator) (xs : Settlings) (ps : Answers) → BelowAll xs (read_all facts later ps) →
      Below (apply_settled facts op xs) (read facts later (built_answer facts op ps))
  built_carries op xs (AllEvaluated vs) h = below_trans _ _ _ (apply_mono facts op xs (AllAre vs) h) (below_is _ _ (kindless_answer facts later (applied facts op vs)))
  built_carries op xs (SomeResiduals rs) h = raised_to op rs _ _ (apply_mono facts op xs (all_settled_in facts later rs) h)
  built_carries op xs (SomeFailed k) h = apply_mono facts op xs SomeErrs h

  -- for plain trees alone the context's entries play no part
  mutual
    pub plain_carried : (t : Tree) → is_projectable t ≡ true → Below (settled_in facts later t) (read facts later (projected_in facts holds t))
    plain_carried (Lit l) h = refl
    plain_carried (Unknown n ty) h = carries.unknown n ty
    plain_carried (Var v) h = carries.variable v
    plain_carried (Apply MakeSet ts) h = built_carries MakeSet (all_settled_in facts later ts) (all_projected_in facts holds ts) (all_plain_carried ts h)
    plain_carried (Apply (MakeRecord ks) ts) h =
        built_carries (MakeRecord ks) (all_settled_in facts later ts) (all_projected_in facts holds ts) (all_plain_carried ts h)
    plain_carried _ h = cc

    all_plain_carried : (ts : Trees) → are_projectable ts ≡ true → BelowAll (all_settled_in facts later ts) (read_all facts later (all_projected_in facts holds ts))
    all_plain_carried no_trees h = refl
    all_plain_carried (a_tree t ts) h =
        let (ht, hts) = and_parts (is_projectable t) (are_projectable ts) h in
        more_carries facts good later later (projected_in facts holds t) (all_projected_in facts holds ts) t ts (plain_made facts good holds leaves t) (all_plain_made facts good holds leaves ts) (plain_carried t ht) (all_plain_carried ts hts)

  absent_carries : (a : Text) (ks : List Text) (rs : Trees) → found_tree ks rs a ≡ None → (xs : Settlings) → all_settled_in facts later rs ≡ xs →
      Below (apply_settled facts (GetAttr a) (and_more (apply_settled facts (MakeRecord ks) xs) (AllAre no_values))) Errs
  absent_carries a ks rs e SomeOpen h = tt
  absent_carries a ks rs e SomeErrs h = refl
  absent_carries a ks rs e (AllAre vs) h = rw (not_found_is_at facts later ks rs vs a h e) refl

  projected : (a : Text) (ks : List Text) (rs : Trees) (t : Tree) → found_tree ks rs a ≡ Some t → (xs : Settlings) → all_settled_in facts later rs ≡ xs → DontErr xs →
      Below (apply_settled facts (GetAttr a) (and_more (apply_settled facts (MakeRecord ks) xs) (AllAre no_values))) (settled_in facts later t)
  projected a ks rs t e SomeOpen h d = tt
  projected a ks rs t e SomeErrs h d = absurd d
  projected a ks rs t e (AllAre vs) h d = let (v, f, is) = found_is_at facts later ks rs vs a t h e in rw (f, is) refl

  entry_carries : (a : Text) (ks : List Text) (rs : Trees) (plain : Bool) (o : Option Tree) → are_projectable rs ≡ plain → found_tree ks rs a ≡ o →
      Below (apply_settled facts (GetAttr a) (and_more (settled_in facts later (Apply (MakeRecord ks) rs)) (AllAre no_values)))
      (read facts later (entry_answer facts holds a (Apply (MakeRecord ks) rs) plain o))
  entry_carries a ks rs plain None h e = absent_carries a ks rs e (all_settled_in facts later rs) refl
  entry_carries a ks rs true (Some t) h e =
      below_trans _ (settled_in facts later t) _ (projected a ks rs t e (all_settled_in facts later rs) refl (all_plain_dont rs h))
      (plain_carried t (plain_entry ks rs a t h e))
  entry_carries a ks rs false (Some t) h e = below_refl _

  attribute_carries : (a : Text) (r : Tree) →
      Below (apply_settled facts (GetAttr a) (and_more (settled_in facts later r) (AllAre no_values))) (read facts later (attribute_answer facts holds a r))
  attribute_carries a (Apply (MakeRecord ks) rs) = entry_carries a ks rs (are_projectable rs) (found_tree ks rs a) refl refl
  attribute_carries a r = raised (GetAttr a) (a_tree r no_trees) _

  present_has : (a : Text) (ks : List Text) (rs : Trees) (t : Tree) → found_tree ks rs a ≡ Some t → (xs : Settlings) → all_settled_in facts later rs ≡ xs → DontErr xs →
      Below (apply_settled facts (HasAttr a) (and_more (apply_settled facts (MakeRecord ks) xs) (AllAre no_values))) (Is (Plain (Boolean true)))
  present_has a ks rs t e SomeOpen h d = tt
  present_has a ks rs t e SomeErrs h d = absurd d
  present_has a ks rs t e (AllAre vs) h d = let (v, f, is) = found_is_at facts later ks rs vs a t h e in rw f refl

  absent_has : (a : Text) (ks : List Text) (rs : Trees) → found_tree ks rs a ≡ None → (xs : Settlings) → all_settled_in facts later rs ≡ xs → DontErr xs →
      Below (apply_settled facts (HasAttr a) (and_more (apply_settled facts (MakeRecord ks) xs) (AllAre no_values))) (Is (Plain (Boolean false)))
  absent_has a ks rs e SomeOpen h d = tt
  absent_has a ks rs e SomeErrs h d = absurd d
  absent_has a ks rs e (AllAre vs) h d = rw (not_found_is_at facts later ks rs vs a h e) refl

  has_entry_carries : (a : Text) (ks : List Text) (rs : Trees) (plain : Bool) (o : Option Tree) → are_projectable rs ≡ plain → found_tree ks rs a ≡ o →
      Below (apply_settled facts (HasAttr a) (and_more (settled_in facts later (Apply (MakeRecord ks) rs)) (AllAre no_values)))
      (read facts later (has_entry_answer a (Apply (MakeRecord ks) rs) plain o))
  has_entry_carries a ks rs true None h e = absent_has a ks rs e (all_settled_in facts later rs) refl (all_plain_dont rs h)
  has_entry_carries a ks rs true (Some t) h e = present_has a ks rs t e (all_settled_in facts later rs) refl (all_plain_dont rs h)
  has_entry_carries a ks rs false o h e = below_refl _

  has_carries : (a : Text) (r : Tree) →
      Below (apply_settled facts (HasAttr a) (and_more (settled_in facts later r) (AllAre no_values))) (read facts later (has_answer a r))
  has_carries a (Apply (MakeRecord ks) rs) = has_entry_carries a ks rs (are_projectable rs) (found_tree ks rs a) refl refl
  has_carries a r = raised (HasAttr a) (a_tree r no_trees) _

  -- an unknown with a stated type is open, or an entity of that type
  typed_carries : (ty u : Name) (x : Settling) → x ≢ Errs → ((w : Value) → x ≡ Is w → IsOfType u w) →
      Below (apply_settled facts (tree.Is ty) (and_more x (AllAre no_values))) (Is (Plain (Boolean (same_name u ty))))
  typed_carries ty u Open n f = tt
  typed_carries ty u Errs n f = absurd (n refl)
  typed_carries ty u (Is w) n f = let (v, is, of_type) = f w refl in rw (is, of_type) refl

  type_carries : (ty : Name) (r : Tree) →
      Below (apply_settled facts (tree.Is ty) (and_more (settled_in facts later r) (AllAre no_values))) (read facts later (is_answer ty r))
  type_carries ty (Unknown n (Some (EntityType u))) =
      typed_carries ty u (later.unknown n (Some (EntityType u))) (carries.name_never_errs n (Some (EntityType u))) (λ w e. carries.typed n u w e)
  type_carries ty r = raised (tree.Is ty) (a_tree r no_trees) _

  -- open, or an entity of the type
  abbrev MayBe : Name → Settling → Type 0
  MayBe u Open = Unit {0}
  MayBe u Errs = ⊥
  MayBe u (Is w) = IsOfType u w

  may_be : (u : Name) (x : Settling) → x ≢ Errs → ((w : Value) → x ≡ Is w → IsOfType u w) → MayBe u x
  may_be u Open n f = tt
  may_be u Errs n f = n refl
  may_be u (Is w) n f = f w refl

  stated_carries : (r : Tree) (u : Name) → stated_type r ≡ Some u → MayBe u (settled_in facts later r)
  stated_carries (Lit (Entity e)) u h = let g : e.type_name ≡ u = cc in (e, refl, g)
  stated_carries (Unknown n (Some (EntityType ty))) u h =
      let g : ty ≡ u = cc in
      let P : Name → Type 0 = λ z. MayBe z (later.unknown n (Some (EntityType ty))) in
      subst P g (may_be ty (later.unknown n (Some (EntityType ty))) (carries.name_never_errs n (Some (EntityType ty))) (λ w e. carries.typed n ty w e))
  stated_carries _ u h = cc

  differ_carries : (u w : Name) (x y : Settling) → MayBe u x → MayBe w y → not (same_name u w) ≡ true →
      Below (apply_settled facts Equal (and_more x (and_more y (AllAre no_values)))) (Is (Plain (Boolean false)))
  differ_carries u w Open Open h k d = tt
  differ_carries u w Open (Is b) h k d = tt
  differ_carries u w (Is a) Open h k d = tt
  differ_carries u w (Is v) (Is z) (a, at, ta) (b, bt, tb) d = rw (at, bt, other_type a b u w ta tb d) refl
  differ_carries u w Errs y h k d = absurd h
  differ_carries u w x Errs h k d = absurd k

  equal_by : (r s : Tree) (o q : Option Name) → stated_type r ≡ o → stated_type s ≡ q → types_differ o q ≡ true →
      Below (apply_settled facts Equal (and_more (settled_in facts later r) (and_more (settled_in facts later s) (AllAre no_values)))) (Is (Plain (Boolean false)))
  equal_by r s (Some u) (Some w) e f h = differ_carries u w (settled_in facts later r) (settled_in facts later s) (stated_carries r u e) (stated_carries s w f) h
  equal_by r s (Some u) None e f h = cc
  equal_by r s None q e f h = cc

  equal_carries : (r s : Tree) (b : Bool) → types_differ (stated_type r) (stated_type s) ≡ b →
      Below (apply_settled facts Equal (and_more (settled_in facts later r) (and_more (settled_in facts later s) (AllAre no_values)))) (read facts later (equal_answer b r s))
  equal_carries r s true h = equal_by r s (stated_type r) (stated_type s) refl refl h
  equal_carries r s false h = raised Equal (a_tree r (a_tree s no_trees)) _

  pub left_carries : (op : Operator) (rs : Trees) →
      Below (apply_settled facts op (all_settled_in facts later rs)) (read facts later (residual_answer facts holds op rs))
  left_carries (GetAttr a) (a_tree r no_trees) = attribute_carries a r
  left_carries (HasAttr a) (a_tree r no_trees) = has_carries a r
  left_carries (tree.Is ty) (a_tree r no_trees) = type_carries ty r
  left_carries Equal (a_tree r (a_tree s no_trees)) = equal_carries r s (types_differ (stated_type r) (stated_type s)) refl
  left_carries op rs = raised op rs (apply_settled facts op (all_settled_in facts later rs))

  -- ---- what types settle is answered

  stated_name : (n : Text) (w u : Name) (x : Settling) → ((v : Value) → x ≡ Is v → IsOfType w v) → type_known x (cond (later.untold n) (Some w) None) ≡ Some u → w ≡ u
  stated_name n w u Open f h = (told_not (later.untold n) w u h).1
  stated_name n w u Errs f h = cc
  stated_name n w u (Is v) f h =
      let (e, is, of_type) = f v refl in
      let g : ◌≡◌ {A = Option Name} (Some e.type_name) (Some u) = rw is at h in
      let i : e.type_name ≡ u = cc in
      sym of_type ∙ i

  pub is_answered : (ty u : Name) (p : Answer) → answer_type facts later p ≡ Some u →
      Below (Is (Plain (Boolean (same_name u ty)))) (read facts later (apply_answer facts holds (tree.Is ty) (and_next facts p (AllEvaluated no_values))))
  is_answered ty u (Evaluated (Plain (Entity e))) h = let g : e.type_name ≡ u = cc in rw g refl
  is_answered ty u (Evaluated _) h = cc
  is_answered ty u (ResidualTree (Unknown n (Some (EntityType w)))) h =
      let g : w ≡ u = stated_name n w u (later.unknown n (Some (EntityType w))) (λ v e. carries.typed n w v e) h in rw g refl
  is_answered ty u (ResidualTree r) h = below_is _ _ (sym (is_settles facts ty u (settled_in facts later r) (stated_in later r) h))
  is_answered ty u (Failed k) h = cc

  left_equal : (u w : Name) (s t : Tree) (b : Bool) → type_known (settled_in facts later s) (stated_in later s) ≡ Some u →
      type_known (settled_in facts later t) (stated_in later t) ≡ Some w → not (same_name u w) ≡ true →
      Below (Is (Plain (Boolean false))) (read facts later (equal_answer b s t))
  left_equal u w s t true h k d = refl
  left_equal u w s t false h k d =
      below_is _ _ (sym (equal_settles facts u w (settled_in facts later s) (settled_in facts later t) (stated_in later s) (stated_in later t) h k d))

  pub equal_answered : (u w : Name) (p q : Answer) → answer_type facts later p ≡ Some u → answer_type facts later q ≡ Some w → not (same_name u w) ≡ true →
      Below (Is (Plain (Boolean false))) (read facts later (apply_answer facts holds Equal (and_next facts p (and_next facts q (AllEvaluated no_values)))))
  equal_answered u w (Evaluated (Plain (Entity a))) (Evaluated (Plain (Entity b))) h k d =
      let g : a.type_name ≡ u = cc in
      let i : b.type_name ≡ w = cc in
      rw (other_type a b u w g i d) refl
  equal_answered u w (Evaluated (Plain (Entity a))) (ResidualTree t) h k d =
      left_equal u w (Lit (Entity a)) t (types_differ (stated_type (Lit (Entity a))) (stated_type t)) h k d
  equal_answered u w (ResidualTree s) (Evaluated (Plain (Entity b))) h k d =
      left_equal u w s (Lit (Entity b)) (types_differ (stated_type s) (stated_type (Lit (Entity b)))) h k d
  equal_answered u w (ResidualTree s) (ResidualTree t) h k d = left_equal u w s t (types_differ (stated_type s) (stated_type t)) h k d
  equal_answered u w p q h k d = cc

pub residuals_settle : ResidualsSettle
residuals_settle facts good later holds carries leaves t =
    carried facts good later later (λ t h. below_refl (settled_in facts later t)) holds carries leaves (left_carries facts good later holds carries leaves)
    (is_answered facts good later holds carries leaves) (equal_answered facts good later holds carries leaves) t
