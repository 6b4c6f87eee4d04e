-- Where leaves are answered more sharply, so are trees: a value stays, an error stays one, and what is left of data is left as it is,
-- perhaps with types that are stated of its unknowns.
use Rattle.std.proofs.Common.{◌≡◌, Bool, true, false, ◌&&◌, cond, Option, Some, None, List, [], ◌∷◌, refl, ◌∙◌, ap, subst}
use Rattle.std.proofs.lemmas.Bool.{and_from, and_parts}
use Rattle.cedar_language.specs.Uid.{Text, Name}
use Rattle.cedar_language.specs.Tree.{Boolean, ValueType, EntityType, Variable, SlotId, Operator, Equal, GetAttr, HasAttr, MakeSet, MakeRecord, Tree, Lit, Var, Slot, Unknown, If, And, Or, Apply, Trees, no_trees, a_tree}
use Rattle.cedar_language.specs.Tree as tree
use Rattle.cedar_language.specs.Value.{Plain, Values, no_values, a_value, Kind, RecordAttrDoesNotExist}
use Rattle.cedar_language.specs.Order.{same_text}
use Rattle.cedar_language.specs.Facts.{Facts}
use Rattle.cedar_language.specs.Operators.{found, applied}
use Rattle.cedar_partial_evaluation.specs.MadeAgain.{tree_of, trees_of}
use Rattle.cedar_partial_evaluation.specs.Partial.{Answer, Evaluated, ResidualTree, Failed, Answers, AllEvaluated, SomeResiduals, SomeFailed, answer_of, last_answer, and_answer, or_answer, if_answer, and_next, is_projectable, are_projectable, LeafAnswers, built_answer, projected_in, all_projected_in, found_tree, entry_answer, has_entry_answer, stated_type, types_differ, equal_answer, residual_answer, apply_answer, partial_in, all_partial_in}

-- ---- trees that state more types

abbrev mutual
  -- of data, the second one is the first with types stated of unknowns of which it states none
  pub IsTyped : Tree → Tree → Type 0
  IsTyped (Unknown n None) s = (ty : Option ValueType) × (s ≡ Unknown n ty)
  IsTyped (Apply op ts) s = (us : Trees) × (s ≡ Apply op us) × AreTyped ts us
  IsTyped t s = s ≡ t

  pub AreTyped : Trees → Trees → Type 0
  AreTyped no_trees us = us ≡ no_trees
  AreTyped (a_tree t ts) us = (s : Tree) × (ss : Trees) × (us ≡ a_tree s ss) × IsTyped t s × AreTyped ts ss

mutual
  typed_itself : (t : Tree) → IsTyped t t
  typed_itself (Unknown n None) = (None, refl)
  typed_itself (Apply op ts) = (ts, refl, all_typed ts)
  typed_itself _ = refl

  all_typed : (ts : Trees) → AreTyped ts ts
  all_typed no_trees = refl
  all_typed (a_tree t ts) = (t, ts, refl, typed_itself t, all_typed ts)

mutual
  typed_data : (t s : Tree) → IsTyped t s → is_projectable t ≡ true → is_projectable s ≡ true
  typed_data (Lit l) s h p = rw h refl
  typed_data (Var v) s h p = rw h refl
  typed_data (Unknown n None) s (ty, e) p = rw e refl
  typed_data (Unknown n (Some ty)) s h p = rw h refl
  typed_data (Apply MakeSet ts) s (us, e, h) p = rw e (all_typed_data ts us h p)
  typed_data (Apply (MakeRecord ks) ts) s (us, e, h) p = rw e (all_typed_data ts us h p)
  typed_data _ s h p = cc

  all_typed_data : (ts us : Trees) → AreTyped ts us → are_projectable ts ≡ true → are_projectable us ≡ true
  all_typed_data no_trees us h p = rw h refl
  all_typed_data (a_tree t ts) us (s, ss, e, h, hs) p =
      let (pt, pts) = and_parts (is_projectable t) (are_projectable ts) p in
      rw e (and_from (is_projectable s) (are_projectable ss) (typed_data t s h pt) (all_typed_data ts ss hs pts))

-- ---- keys of records

neither : {A : Type 0} (b : Bool) (x : A) (o : Option A) → cond b (Some x) o ≡ None → (b ≡ false) × (o ≡ None)
neither true x o h = cc
neither false x o h = (refl, h)

module _ (facts : Facts) (a : Text) where
  no_value : (ks : List Text) (vs : Values) → found_tree ks (trees_of facts vs) a ≡ None → found ks vs a ≡ None
  no_value (k ∷ ks) (a_value v vs) h =
      let (e, n) = neither (same_text k a) (tree_of facts v) (found_tree ks (trees_of facts vs) a) h in
      rw e (no_value ks vs n)
  no_value _ _ h = refl

  no_tree : (ks : List Text) (vs : Values) → found ks vs a ≡ None → found_tree ks (trees_of facts vs) a ≡ None
  no_tree (k ∷ ks) (a_value v vs) h =
      let (e, n) = neither (same_text k a) v (found ks vs a) h in
      rw e (no_tree ks vs n)
  no_tree _ _ h = refl

  -- a record of these operands lacks the key
  abbrev Lacks : List Text → Answers → Type 0
  Lacks ks (AllEvaluated vs) = found ks vs a ≡ None
  Lacks ks (SomeResiduals rs) = found_tree ks rs a ≡ None
  Lacks ks (SomeFailed k) = Unit {0}

  none_lacks : (ps : Answers) → Lacks [] ps
  none_lacks (SomeFailed k) = tt
  none_lacks _ = refl

  next_lacks : (k : Text) (ks : List Text) (p : Answer) (ps : Answers) → same_text k a ≡ false → Lacks ks ps → Lacks (k ∷ ks) (and_next facts p ps)
  next_lacks k ks (Evaluated v) (AllEvaluated vs) n h = rw n h
  next_lacks k ks (Evaluated v) (SomeResiduals rs) n h = rw n h
  next_lacks k ks (ResidualTree r) (AllEvaluated vs) n h = rw n (no_tree ks vs h)
  next_lacks k ks (ResidualTree r) (SomeResiduals rs) n h = rw n h
  next_lacks k ks _ _ n h = tt

-- an entry of a record that states more types
typed_by : (b : Bool) (r s t : Tree) (o p : Option Tree) → IsTyped r s → (o ≡ Some t → (x : Tree) × (p ≡ Some x) × IsTyped t x) → cond b (Some r) o ≡ Some t
    → (x : Tree) × (cond b (Some s) p ≡ Some x) × IsTyped t x
typed_by true r s t o p h f e = let same : r ≡ t = cc in (s, refl, subst (λ x. IsTyped x s) same h)
typed_by false r s t o p h f e = f e

typed_entry : (ks : List Text) (ts us : Trees) (a : Text) (t : Tree) → AreTyped ts us → found_tree ks ts a ≡ Some t → (s : Tree) × (found_tree ks us a ≡ Some s) × IsTyped t s
typed_entry (k ∷ ks) (a_tree r ts) us a t (s, ss, is, h, hs) e = rw is (typed_by (same_text k a) r s t (found_tree ks ts a) (found_tree ks ss a) h (typed_entry ks ts ss a t hs) e)
typed_entry _ _ us a t h e = cc

entry_by : (b : Bool) (r t : Tree) (o : Option Tree) → is_projectable r ≡ true → (o ≡ Some t → is_projectable t ≡ true) → cond b (Some r) o ≡ Some t → is_projectable t ≡ true
entry_by true r t o h f e = let same : r ≡ t = cc in subst (λ x. is_projectable x ≡ true) same h
entry_by false r t o h f e = f e

entry_data : (ks : List Text) (ts : Trees) (a : Text) (t : Tree) → are_projectable ts ≡ true → found_tree ks ts a ≡ Some t → is_projectable t ≡ true
entry_data (k ∷ ks) (a_tree r ts) a t h e =
    let (hr, hts) = and_parts (is_projectable r) (are_projectable ts) h in
    entry_by (same_text k a) r t (found_tree ks ts a) hr (entry_data ks ts a t hts) e
entry_data _ _ a t h e = cc

no_typed_entry : (ks : List Text) (ts us : Trees) (a : Text) → AreTyped ts us → found_tree ks ts a ≡ None → found_tree ks us a ≡ None
no_typed_entry [] ts us a h e = refl
no_typed_entry (k ∷ ks) no_trees us a h e = rw h refl
no_typed_entry (k ∷ ks) (a_tree t ts) us a (s, ss, is, h, hs) e =
    let (n, rest) = neither (same_text k a) t (found_tree ks ts a) e in
    rw is (rw n (no_typed_entry ks ts ss a hs rest))

-- ---- answers that are sharper

module _ (facts : Facts) (now : LeafAnswers) where
  -- where what was left is a record that lacks a key, the other answer has no such attribute
  abbrev pub HasNoMore : Tree → Answer → Type 0
  HasNoMore (Apply (MakeRecord ks) rs) p =
      (a : Text) → found_tree ks rs a ≡ None → (k : Kind) × (apply_answer facts now (GetAttr a) (and_next facts p (AllEvaluated no_values)) ≡ Failed k)
  HasNoMore r p = Unit {0}

  -- data that was left is left again
  pub record IsNoLess (r : Tree) (p : Answer) : Type 0 where
    pub stays : is_projectable r ≡ true → (s : Tree) × (p ≡ ResidualTree s) × IsTyped r s
    pub lacks : HasNoMore r p

  -- the second answer is the first one where that decides, kinds of errors aside, and no less where it doesn't
  abbrev pub IsSharper : Answer → Answer → Type 0
  IsSharper (Evaluated v) p = p ≡ Evaluated v
  IsSharper (Failed k) p = (l : Kind) × (p ≡ Failed l)
  IsSharper (ResidualTree r) p = IsNoLess r p

  -- operands of which some were left: data is left again, no key is added, and an operand that is alone is no less
  record AreNoLess (rs : Trees) (ps : Answers) : Type 0 where
    some : rs ≡ no_trees → ⊥
    stay : are_projectable rs ≡ true → (ss : Trees) × (ps ≡ SomeResiduals ss) × AreTyped rs ss
    lacks : (ks : List Text) (a : Text) → found_tree ks rs a ≡ None → Lacks facts a ks ps
    one : (r : Tree) → rs ≡ a_tree r no_trees → (p : Answer) × (ps ≡ and_next facts p (AllEvaluated no_values)) × IsNoLess r p

  abbrev AreSharper : Answers → Answers → Type 0
  AreSharper (AllEvaluated vs) ps = ps ≡ AllEvaluated vs
  AreSharper (SomeFailed k) ps = (l : Kind) × (ps ≡ SomeFailed l)
  AreSharper (SomeResiduals rs) ps = AreNoLess rs ps

  lacks_itself : (r : Tree) → HasNoMore r (ResidualTree r)
  lacks_itself (Apply (MakeRecord ks) rs) = λ a e. (RecordAttrDoesNotExist, rw e refl)
  lacks_itself _ = tt

  pub sharp_itself : (p : Answer) → IsSharper p p
  sharp_itself (Evaluated v) = refl
  sharp_itself (Failed k) = (k, refl)
  sharp_itself (ResidualTree r) = record { stays = λ h. (r, refl, typed_itself r); lacks = lacks_itself r }

  same_sharp : (p q : Answer) → q ≡ p → IsSharper p q
  same_sharp p q e = rw e (sharp_itself p)

  -- ---- lazy operators

  and_last : (x y : Answer) → IsSharper x y → IsSharper (last_answer (And (Lit (Boolean true))) x) (last_answer (And (Lit (Boolean true))) y)
  and_last (Evaluated v) y h = same_sharp (last_answer (And (Lit (Boolean true))) (Evaluated v)) _ (ap (last_answer (And (Lit (Boolean true)))) h)
  and_last (ResidualTree r) y h = record { stays = λ e. cc; lacks = tt }
  and_last (Failed k) y (l, e) = (l, rw e refl)

  or_last : (x y : Answer) → IsSharper x y → IsSharper (last_answer (Or (Lit (Boolean false))) x) (last_answer (Or (Lit (Boolean false))) y)
  or_last (Evaluated v) y h = same_sharp (last_answer (Or (Lit (Boolean false))) (Evaluated v)) _ (ap (last_answer (Or (Lit (Boolean false)))) h)
  or_last (ResidualTree r) y h = record { stays = λ e. cc; lacks = tt }
  or_last (Failed k) y (l, e) = (l, rw e refl)

  and_sharper : (x y z w : Answer) (t : Tree) → IsSharper x y → IsSharper z w → IsSharper (and_answer facts x z t) (and_answer facts y w t)
  and_sharper (ResidualTree r) y z w t h k = record { stays = λ e. cc; lacks = tt }
  and_sharper (Evaluated (Plain (Boolean true))) y z w t h k = rw h (and_last z w k)
  and_sharper (Evaluated (Plain (Boolean false))) y z w t h k = rw h refl
  and_sharper (Evaluated _) y z w t h k = rw h (_, refl)
  and_sharper (Failed e) y z w t (l, is) k = (l, rw is refl)

  or_sharper : (x y z w : Answer) (t : Tree) → IsSharper x y → IsSharper z w → IsSharper (or_answer facts x z t) (or_answer facts y w t)
  or_sharper (ResidualTree r) y z w t h k = record { stays = λ e. cc; lacks = tt }
  or_sharper (Evaluated (Plain (Boolean false))) y z w t h k = rw h (or_last z w k)
  or_sharper (Evaluated (Plain (Boolean true))) y z w t h k = rw h refl
  or_sharper (Evaluated _) y z w t h k = rw h (_, refl)
  or_sharper (Failed e) y z w t (l, is) k = (l, rw is refl)

  if_sharper : (x y z w u v : Answer) (t s : Tree) → IsSharper x y → IsSharper z w → IsSharper u v → IsSharper (if_answer facts x z u t s) (if_answer facts y w v t s)
  if_sharper (ResidualTree r) y z w u v t s h k l = record { stays = λ e. cc; lacks = tt }
  if_sharper (Evaluated (Plain (Boolean true))) y z w u v t s h k l = rw h k
  if_sharper (Evaluated (Plain (Boolean false))) y z w u v t s h k l = rw h l
  if_sharper (Evaluated _) y z w u v t s h k l = rw h (_, refl)
  if_sharper (Failed e) y z w u v t s (m, is) k l = (m, rw is refl)

  -- ---- operands

  failed_next : (y : Answer) (l : Kind) → (m : Kind) × (and_next facts y (SomeFailed l) ≡ SomeFailed m)
  failed_next (Failed k) l = (k, refl)
  failed_next _ l = (l, refl)

  -- the keys that are lacking behind a first operand
  lack_next : (r : Tree) (rs : Trees) (y : Answer) (ys : Answers) → ((ks : List Text) (a : Text) → found_tree ks rs a ≡ None → Lacks facts a ks ys)
      → (ks : List Text) (a : Text) → found_tree ks (a_tree r rs) a ≡ None → Lacks facts a ks (and_next facts y ys)
  lack_next r rs y ys f [] a h = none_lacks facts a (and_next facts y ys)
  lack_next r rs y ys f (k ∷ ks) a h =
      let (n, rest) = neither (same_text k a) r (found_tree ks rs a) h in
      next_lacks facts a k ks y ys n (f ks a rest)

  only : (r : Tree) (vs : Values) (y : Answer) (ys : Answers) → IsNoLess r y → ys ≡ AllEvaluated vs → (s : Tree) → a_tree r (trees_of facts vs) ≡ a_tree s no_trees
      → (p : Answer) × (and_next facts y ys ≡ and_next facts p (AllEvaluated no_values)) × IsNoLess s p
  only r no_values y ys h e s is = let same : r ≡ s = cc in (y, rw e refl, subst (λ t. IsNoLess t y) same h)
  only r (a_value v vs) y ys h e s is = cc

  next_sharper : (x y : Answer) (xs ys : Answers) → IsSharper x y → AreSharper xs ys → AreSharper (and_next facts x xs) (and_next facts y ys)
  next_sharper (Failed k) y xs ys (l, e) hs = (l, rw e refl)
  next_sharper (Evaluated v) y (AllEvaluated vs) ys h hs = rw (h, hs) refl
  next_sharper (Evaluated v) y (SomeFailed k) ys h (l, e) = rw (h, e) (l, refl)
  next_sharper (ResidualTree r) y (SomeFailed k) ys h (l, e) = rw e (failed_next y l)
  next_sharper (Evaluated v) y (SomeResiduals rs) ys h hs = record {
    some = λ e. cc;
    stay = λ p.
        let (ss, e, t) = hs.stay (and_parts (is_projectable (tree_of facts v)) (are_projectable rs) p).1 in
        (a_tree (tree_of facts v) ss, rw (h, e) refl, (tree_of facts v, ss, refl, typed_itself (tree_of facts v), t));
    lacks = lack_next (tree_of facts v) rs y ys hs.lacks;
    one = λ r e. absurd (hs.some cc);
  }
  next_sharper (ResidualTree r) y (AllEvaluated vs) ys h hs = record {
    some = λ e. cc;
    stay = λ p.
        let (s, e, t) = h.stays (and_parts (is_projectable r) (are_projectable (trees_of facts vs)) p).0 in
        (a_tree s (trees_of facts vs), rw (e, hs) refl, (s, trees_of facts vs, refl, t, all_typed (trees_of facts vs)));
    lacks = lack_next r (trees_of facts vs) y ys (λ ks a n. rw hs (no_value facts a ks vs n));
    one = only r vs y ys h hs;
  }
  next_sharper (ResidualTree r) y (SomeResiduals rs) ys h hs = record {
    some = λ e. cc;
    stay = λ p.
        let (pr, prs) = and_parts (is_projectable r) (are_projectable rs) p in
        let (s, e, t) = h.stays pr in
        let (ss, f, ts) = hs.stay prs in
        (a_tree s ss, rw (e, f) refl, (s, ss, refl, t, ts));
    lacks = lack_next r rs y ys hs.lacks;
    one = λ s e. absurd (hs.some cc);
  }

  -- ---- data that is made

  lacking_record : (ks : List Text) (rs : Trees) (ps : Answers) → AreNoLess rs ps → HasNoMore (Apply (MakeRecord ks) rs) (built_answer facts (MakeRecord ks) ps)
  lacking_record ks rs ps h a e = by_operands ps (h.lacks ks a e)
    where
      by_operands : (ps : Answers) → Lacks facts a ks ps → (k : Kind) × (apply_answer facts now (GetAttr a) (and_next facts (built_answer facts (MakeRecord ks) ps) (AllEvaluated no_values)) ≡ Failed k)
      by_operands (AllEvaluated vs) n = (RecordAttrDoesNotExist, rw n refl)
      by_operands (SomeResiduals ss) n = (RecordAttrDoesNotExist, rw n refl)
      by_operands (SomeFailed k) n = (k, refl)

  set_sharper : (xs ys : Answers) → AreSharper xs ys → IsSharper (built_answer facts MakeSet xs) (built_answer facts MakeSet ys)
  set_sharper (AllEvaluated vs) ys h = same_sharp (answer_of (applied facts MakeSet vs)) _ (ap (built_answer facts MakeSet) h)
  set_sharper (SomeFailed k) ys (l, e) = (l, rw e refl)
  set_sharper (SomeResiduals rs) ys h = record {
    stays = λ p. (let (ss, e, t) = h.stay p in (Apply MakeSet ss, rw e refl, (ss, refl, t)));
    lacks = tt;
  }

  record_sharper : (ks : List Text) (xs ys : Answers) → AreSharper xs ys → IsSharper (built_answer facts (MakeRecord ks) xs) (built_answer facts (MakeRecord ks) ys)
  record_sharper ks (AllEvaluated vs) ys h = same_sharp (answer_of (applied facts (MakeRecord ks) vs)) _ (ap (built_answer facts (MakeRecord ks)) h)
  record_sharper ks (SomeFailed k) ys (l, e) = (l, rw e refl)
  record_sharper ks (SomeResiduals rs) ys h = record {
    stays = λ p. (let (ss, e, t) = h.stay p in (Apply (MakeRecord ks) ss, rw e refl, (ss, refl, t)));
    lacks = lacking_record ks rs ys h;
  }

  -- ---- an operator whose operands are left

  made_as : (ps : Answers) → apply_answer facts now MakeSet ps ≡ built_answer facts MakeSet ps
  made_as (AllEvaluated vs) = refl
  made_as _ = refl

  recorded_as : (ks : List Text) (ps : Answers) → apply_answer facts now (MakeRecord ks) ps ≡ built_answer facts (MakeRecord ks) ps
  recorded_as ks (AllEvaluated vs) = refl
  recorded_as ks _ = refl

  -- a record of data that is left
  record IsLeftRecord (ks : List Text) (rs : Trees) (p : Answer) : Type 0 where
    entries : Trees
    is : p ≡ ResidualTree (Apply (MakeRecord ks) entries)
    typed : AreTyped rs entries
    data_alone : are_projectable entries ≡ true

  left_record : (ks : List Text) (rs : Trees) (p : Answer) → IsNoLess (Apply (MakeRecord ks) rs) p → are_projectable rs ≡ true → IsLeftRecord ks rs p
  left_record ks rs p h e =
      let (s, is, typed) = h.stays e in
      let (us, same, t) = typed in
      record { entries = us; is = is ∙ ap (λ r. ResidualTree r) same; typed = t; data_alone = all_typed_data rs us t e }

  has_by : (a : Text) (ks : List Text) (rs : Trees) (p : Answer) (plain : Bool) (o : Option Tree) → IsNoLess (Apply (MakeRecord ks) rs) p → are_projectable rs ≡ plain → found_tree ks rs a ≡ o
      → IsSharper (has_entry_answer a (Apply (MakeRecord ks) rs) plain o) (apply_answer facts now (HasAttr a) (and_next facts p (AllEvaluated no_values)))
  has_by a ks rs p true (Some t) h e f =
      let left = left_record ks rs p h e in
      let (s, found, same) = typed_entry ks rs left.entries a t left.typed f in
      rw (left.is) (rw (left.data_alone, found) refl)
  has_by a ks rs p true None h e f =
      let left = left_record ks rs p h e in
      rw (left.is) (rw (left.data_alone, no_typed_entry ks rs left.entries a left.typed f) refl)
  has_by a ks rs p false o h e f = record { stays = λ e. cc; lacks = tt }

  -- an operand whose type is stated stays as it is
  stated_stays : (r s : Tree) (u : Name) → stated_type r ≡ Some u → IsTyped r s → s ≡ r
  stated_stays (Lit l) s u e h = h
  stated_stays (Unknown n (Some ty)) s u e h = h
  stated_stays _ s u e h = cc

  stated_data : (r : Tree) (u : Name) → stated_type r ≡ Some u → is_projectable r ≡ true
  stated_data (Lit l) u e = refl
  stated_data (Unknown n ty) u e = refl
  stated_data _ u e = cc

  stated_stay : (r s : Tree) (u w : Name) (us : Trees) → stated_type r ≡ Some u → stated_type s ≡ Some w → AreTyped (a_tree r (a_tree s no_trees)) us → us ≡ a_tree r (a_tree s no_trees)
  stated_stay r s u w us e f (r', rest, is, h, rest_typed) =
      let (s', more, again, k, none) = rest_typed in
      is ∙ (λ i. a_tree (stated_stays r r' u e h i) (again i)) ∙ (λ i. a_tree r (a_tree (stated_stays s s' w f k i) (none i)))

  differ_by : (r s : Tree) (ps : Answers) (o q : Option Name) → AreNoLess (a_tree r (a_tree s no_trees)) ps → stated_type r ≡ o → stated_type s ≡ q → types_differ o q ≡ true
      → ps ≡ SomeResiduals (a_tree r (a_tree s no_trees))
  differ_by r s ps (Some u) (Some w) h e f d =
      let (us, is, typed) = h.stay (and_from (is_projectable r) (is_projectable s && true) (stated_data r u e) (and_from (is_projectable s) true (stated_data s w f) refl)) in
      is ∙ ap (λ ts. SomeResiduals ts) (stated_stay r s u w us e f typed)
  differ_by r s ps _ _ h e f d = cc

  equal_sharper : (r s : Tree) (ps : Answers) (b : Bool) → AreNoLess (a_tree r (a_tree s no_trees)) ps → types_differ (stated_type r) (stated_type s) ≡ b
      → IsSharper (equal_answer b r s) (apply_answer facts now Equal ps)
  equal_sharper r s ps true h d = rw (differ_by r s ps (stated_type r) (stated_type s) h refl refl d) (rw d refl)
  equal_sharper r s ps false h d = record { stays = λ e. cc; lacks = tt }

  -- ---- where leaves are sharper

  module _ (before : LeafAnswers) (variable : (v : Variable) → IsSharper (before.variable v) (now.variable v))
      (unknown : (n : Text) (ty : Option ValueType) → IsSharper (before.unknown n ty) (now.unknown n ty))
      (typed_unknown : (n : Text) (ty : Option ValueType) → IsSharper (before.unknown n None) (now.unknown n ty))
      (slot : (s : SlotId) → IsSharper (before.slot s) (now.slot s)) where
    mutual
      projected_sharper : (r s : Tree) → is_projectable r ≡ true → IsTyped r s → IsSharper (projected_in facts before r) (projected_in facts now s)
      projected_sharper (Lit l) s h e = rw e refl
      projected_sharper (Var v) s h e = rw e (variable v)
      projected_sharper (Unknown n None) s h (ty, e) = rw e (typed_unknown n ty)
      projected_sharper (Unknown n (Some ty)) s h e = rw e (unknown n (Some ty))
      projected_sharper (Apply MakeSet ts) s h (us, e, hs) = rw e (set_sharper (all_projected_in facts before ts) (all_projected_in facts now us) (all_projected_sharper ts us h hs))
      projected_sharper (Apply (MakeRecord ks) ts) s h (us, e, hs) = rw e (record_sharper ks (all_projected_in facts before ts) (all_projected_in facts now us) (all_projected_sharper ts us h hs))
      projected_sharper _ s h e = cc

      all_projected_sharper : (rs us : Trees) → are_projectable rs ≡ true → AreTyped rs us → AreSharper (all_projected_in facts before rs) (all_projected_in facts now us)
      all_projected_sharper no_trees us h e = rw e refl
      all_projected_sharper (a_tree r rs) us h (s, ss, e, t, ts) =
          let (hr, hrs) = and_parts (is_projectable r) (are_projectable rs) h in
          rw e (next_sharper (projected_in facts before r) (projected_in facts now s) (all_projected_in facts before rs) (all_projected_in facts now ss) (projected_sharper r s hr t) (all_projected_sharper rs ss hrs ts))

    attribute_by : (a : Text) (ks : List Text) (rs : Trees) (p : Answer) (plain : Bool) (o : Option Tree) → IsNoLess (Apply (MakeRecord ks) rs) p → are_projectable rs ≡ plain → found_tree ks rs a ≡ o
        → IsSharper (entry_answer facts before a (Apply (MakeRecord ks) rs) plain o) (apply_answer facts now (GetAttr a) (and_next facts p (AllEvaluated no_values)))
    attribute_by a ks rs p plain None h e f = h.lacks a f
    attribute_by a ks rs p true (Some t) h e f =
        let left = left_record ks rs p h e in
        let (s, found, same) = typed_entry ks rs left.entries a t left.typed f in
        rw (left.is) (rw (left.data_alone, found) (projected_sharper t s (entry_data ks rs a t e f) same))
    attribute_by a ks rs p false (Some t) h e f = record { stays = λ e. cc; lacks = tt }

    left_sharper : (op : Operator) (rs : Trees) (ps : Answers) → AreNoLess rs ps → IsSharper (residual_answer facts before op rs) (apply_answer facts now op ps)
    left_sharper (GetAttr a) (a_tree (Apply (MakeRecord ks) rs) no_trees) ps h =
        let (p, is, k) = h.one (Apply (MakeRecord ks) rs) refl in rw is (attribute_by a ks rs p (are_projectable rs) (found_tree ks rs a) k refl refl)
    left_sharper (GetAttr a) (a_tree r no_trees) ps h = record { stays = λ e. cc; lacks = tt }
    left_sharper (HasAttr a) (a_tree (Apply (MakeRecord ks) rs) no_trees) ps h =
        let (p, is, k) = h.one (Apply (MakeRecord ks) rs) refl in rw is (has_by a ks rs p (are_projectable rs) (found_tree ks rs a) k refl refl)
    left_sharper (HasAttr a) (a_tree r no_trees) ps h = record { stays = λ e. cc; lacks = tt }
    left_sharper (tree.Is ty) (a_tree (Unknown n (Some (EntityType u))) no_trees) ps h =
        let (p, is, k) = h.one (Unknown n (Some (EntityType u))) refl in
        let (s, e, same) = k.stays refl in
        rw is (rw (e, same) refl)
    left_sharper (tree.Is ty) (a_tree r no_trees) ps h = record { stays = λ e. cc; lacks = tt }
    left_sharper Equal (a_tree r (a_tree s no_trees)) ps h = equal_sharper r s ps (types_differ (stated_type r) (stated_type s)) h refl
    left_sharper MakeSet rs ps h = rw (made_as ps) (set_sharper (SomeResiduals rs) ps h)
    left_sharper (MakeRecord ks) rs ps h = rw (recorded_as ks ps) (record_sharper ks (SomeResiduals rs) ps h)
    left_sharper op rs ps h = record { stays = λ e. cc; lacks = tt }

    apply_sharper : (op : Operator) (xs ys : Answers) → AreSharper xs ys → IsSharper (apply_answer facts before op xs) (apply_answer facts now op ys)
    apply_sharper op (AllEvaluated vs) ys h = rw h (sharp_itself (answer_of (applied facts op vs)))
    apply_sharper op (SomeResiduals rs) ys h = left_sharper op rs ys h
    apply_sharper op (SomeFailed k) ys (l, e) = (l, rw e refl)

    mutual
      pub sharper : (t : Tree) → IsSharper (partial_in facts before t) (partial_in facts now t)
      sharper (Lit l) = refl
      sharper (Var v) = variable v
      sharper (Slot s) = slot s
      sharper (Unknown n ty) = unknown n ty
      sharper (If t y n) =
          if_sharper (partial_in facts before t) (partial_in facts now t) (partial_in facts before y) (partial_in facts now y) (partial_in facts before n) (partial_in facts now n) y n
          (sharper t) (sharper y) (sharper n)
      sharper (And l r) = and_sharper (partial_in facts before l) (partial_in facts now l) (partial_in facts before r) (partial_in facts now r) r (sharper l) (sharper r)
      sharper (Or l r) = or_sharper (partial_in facts before l) (partial_in facts now l) (partial_in facts before r) (partial_in facts now r) r (sharper l) (sharper r)
      sharper (Apply op ts) = apply_sharper op (all_partial_in facts before ts) (all_partial_in facts now ts) (all_sharper ts)

      all_sharper : (ts : Trees) → AreSharper (all_partial_in facts before ts) (all_partial_in facts now ts)
      all_sharper no_trees = refl
      all_sharper (a_tree t ts) =
          next_sharper (partial_in facts before t) (partial_in facts now t) (all_partial_in facts before ts) (all_partial_in facts now ts) (sharper t) (all_sharper ts)
