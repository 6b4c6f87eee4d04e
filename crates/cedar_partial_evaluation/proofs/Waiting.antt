-- What is left of a tree is left again until a name that stands in it has a value.
use Rattle.std.proofs.Common.{◌≡◌, Bool, true, false, Option, Some, None, List, [], ◌∷◌, refl, sym, subst}
use Rattle.std.proofs.lemmas.Bool.{and_parts}
use Rattle.std.proofs.lemmas.List.Elements.{All-head, All-tail}
use Rattle.std.specs.Prelude.{map, All, codes}
use Rattle.std.specs.FinMap as finite
use Rattle.cedar_language.specs.Uid.{Text, Name, Uid}
use Rattle.cedar_language.specs.Tree.{Boolean, Variable, Principal, Action, Resource, Context, SlotId, Operator, Equal, GetAttr, HasAttr, MakeRecord, Tree, Lit, Var, Slot, Unknown, If, And, Or, Apply, Trees, no_trees, a_tree, ValueType, EntityType}
use Rattle.cedar_language.specs.Tree as tree
use Rattle.cedar_language.specs.Value.{Value, Plain, Kind, Outcome, Gives, Fails}
use Rattle.cedar_language.specs.Facts.{Facts}
use Rattle.cedar_language.specs.Operators.{applied}
use Rattle.cedar_language.specs.Meaning.{Slots, slot_outcome}
use Rattle.cedar_language.specs.Answering.{Standing, Erring, Residual, Judged, ComesTo, Come, none_come, one_comes, At, at_first, at_later}
use Rattle.cedar_language.specs.Authorization.{Policy}
use Rattle.cedar_language.proofs.Answering.{rules_are_sharp}
use Rattle.cedar_partial_evaluation.specs.Unknowns.{fits, EachUnknown, EachUnknownOf}
use Rattle.cedar_partial_evaluation.specs.MadeAgain.{tree_of, trees_of, HoldsMade}
use Rattle.cedar_partial_evaluation.specs.Partial.{Answer, Evaluated, ResidualTree, Failed, Answers, AllEvaluated, SomeResiduals, SomeFailed, answer_of, best_effort, and_answer, or_answer, if_answer, and_next, LeafAnswers, is_projectable, are_projectable, found_tree, entry_answer, attribute_answer, has_entry_answer, has_answer, is_answer, stated_type, types_differ, equal_answer, residual_answer, apply_answer, partial_in, all_partial_in}
use Rattle.cedar_partial_evaluation.specs.Fair.{IsMadeAnswer, AreMadeLeaves}
use Rattle.cedar_partial_evaluation.specs.Alike.{itself, differing, SameBut, AllSameBut}
use Rattle.cedar_partial_evaluation.specs.Question.{Part, Given, Missing, Entries, NoContext, WithEntries, Question, Told, AreMadeTold, entity_type, value_held, name_held, held_names, part_held, context_held, variable_held, held_of, is_restricted, are_restricted}
use Rattle.cedar_partial_evaluation.specs.Linking.{no_slots}
use Rattle.cedar_partial_evaluation.specs.Early.{standing_of_answer, judged_early}
use Rattle.cedar_partial_evaluation.specs.Reauthorizing.{condition_again, judged_again}
use Rattle.cedar_partial_evaluation.specs.Waiting.{IsUntoldIn, IsData, WhatIsLeftWaits, WaitsStill, WaitingIsAnsweredAlike}
use Rattle.cedar_partial_evaluation.proofs.Passing.{data_in, plain_in}
use Rattle.cedar_partial_evaluation.proofs.MadeAgain.{AreMadeAnswers, made, all_made, value_again, values_again}
use Rattle.cedar_partial_evaluation.proofs.Seam.{plain_entry}
use Rattle.cedar_partial_evaluation.proofs.Question.{names_made, held_made}
use Rattle.cedar_partial_evaluation.proofs.Alike.{is_opaque, next_same, apply_same, projected_is}

-- two trees that evaluation doesn't look into
abbrev BothOpaque : Tree → Tree → Type 0
BothOpaque s t = (is_opaque s ≡ true) × (is_opaque t ≡ true)

both : (s t : Tree) → BothOpaque s t → (is_opaque s ≡ true) × (is_opaque t ≡ true)
both s t d = d

module _ (facts : Facts) (good : HoldsMade facts) (Untold : Text → Option ValueType → Type 0) (first later : LeafAnswers)
    (leaves : AreMadeLeaves facts first) where
  -- what is left is left again, but for what evaluation doesn't look into
  abbrev Waits : Answer → Type 0
  Waits (ResidualTree r) = EachUnknown Untold r → SameBut BothOpaque (ResidualTree r) (partial_in facts later r)
  Waits _ = Unit {0}

  abbrev AllWait : Answers → Type 0
  AllWait (SomeResiduals rs) = EachUnknownOf Untold rs → AllSameBut BothOpaque (SomeResiduals rs) (all_partial_in facts later rs)
  AllWait _ = Unit {0}

  next_waits : (p : Answer) (ps : Answers) → IsMadeAnswer facts p → AreMadeAnswers facts good ps → Waits p → AllWait ps → AllWait (and_next facts p ps)
  next_waits (Failed k) ps m n h i = tt
  next_waits (Evaluated v) (AllEvaluated vs) m n h i = tt
  next_waits (Evaluated v) (SomeResiduals rs) m n h i =
      λ u. next_same facts BothOpaque both (Evaluated v) (partial_in facts later (tree_of facts v)) (SomeResiduals rs) (all_partial_in facts later rs)
      (value_again facts later v m) (i u.1)
  next_waits (Evaluated v) (SomeFailed k) m n h i = tt
  next_waits (ResidualTree r) (AllEvaluated vs) m n h i =
      λ u. next_same facts BothOpaque both (ResidualTree r) (partial_in facts later r) (AllEvaluated vs) (all_partial_in facts later (trees_of facts vs))
      (h u.0) (values_again facts later vs n)
  next_waits (ResidualTree r) (SomeResiduals rs) m n h i =
      λ u. next_same facts BothOpaque both (ResidualTree r) (partial_in facts later r) (SomeResiduals rs) (all_partial_in facts later rs) (h u.0) (i u.1)
  next_waits (ResidualTree r) (SomeFailed k) m n h i = tt

  more_wait : (t : Tree) (ts : Trees) → Waits (partial_in facts first t) → AllWait (all_partial_in facts first ts) →
      AllWait (all_partial_in facts first (a_tree t ts))
  more_wait t ts h i =
      next_waits (partial_in facts first t) (all_partial_in facts first ts) (made facts good first leaves t) (all_made facts good first leaves ts) h i

  outcome_waits : (o : Outcome) → Waits (answer_of o)
  outcome_waits (Gives v) = tt
  outcome_waits (Fails k) = tt

  -- an operator that is left as it is
  stays : (op : Operator) (rs : Trees) → residual_answer facts later op rs ≡ ResidualTree (Apply op rs) → AllWait (SomeResiduals rs) →
      Waits (ResidualTree (Apply op rs))
  stays op rs e i =
      λ u. subst (λ p. SameBut BothOpaque p (partial_in facts later (Apply op rs))) e
      (apply_same facts BothOpaque both later op (SomeResiduals rs) (all_partial_in facts later rs) (i u))

  -- one that is always left, as those of data are
  built_waits : (op : Operator) (ps : Answers) → ((holds : LeafAnswers) (rs : Trees) → residual_answer facts holds op rs ≡ ResidualTree (Apply op rs)) →
      AllWait ps → Waits (apply_answer facts first op ps)
  built_waits op (AllEvaluated vs) e i = outcome_waits (applied facts op vs)
  built_waits op (SomeResiduals rs) e i = rw (e first rs) (stays op rs (e later rs) i)
  built_waits op (SomeFailed k) e i = tt

  module _ (unknown : (n : Text) (ty : Option ValueType) → Waits (first.unknown n ty)) where
    mutual
      pub data_waits : (t : Tree) → is_restricted t ≡ true → Waits (partial_in facts first t)
      data_waits (Lit l) h = tt
      data_waits (Unknown n ty) h = unknown n ty
      data_waits (Apply op ts) h = let (hs, stays) = data_in op ts h in built_waits op (all_partial_in facts first ts) (stays facts) (all_data_wait ts hs)
      data_waits _ h = cc

      all_data_wait : (ts : Trees) → are_restricted ts ≡ true → AllWait (all_partial_in facts first ts)
      all_data_wait no_trees h = tt
      all_data_wait (a_tree t ts) h =
          let (ht, hts) = and_parts (is_restricted t) (are_restricted ts) h in
          more_wait t ts (data_waits t ht) (all_data_wait ts hts)

    module _ (variable : (v : Variable) → Waits (first.variable v)) (slot : (s : SlotId) → Waits (first.slot s)) where
      mutual
        plain_waits : (t : Tree) → is_projectable t ≡ true → Waits (partial_in facts first t)
        plain_waits (Lit l) h = tt
        plain_waits (Unknown n ty) h = unknown n ty
        plain_waits (Var v) h = variable v
        plain_waits (Apply op ts) h = let (hs, stays) = plain_in op ts h in built_waits op (all_partial_in facts first ts) (stays facts) (all_plain_wait ts hs)
        plain_waits _ h = cc

        all_plain_wait : (ts : Trees) → are_projectable ts ≡ true → AllWait (all_partial_in facts first ts)
        all_plain_wait no_trees h = tt
        all_plain_wait (a_tree t ts) h =
            let (ht, hts) = and_parts (is_projectable t) (are_projectable ts) h in
            more_wait t ts (plain_waits t ht) (all_plain_wait ts hts)

      -- ---- operators of which some operands are residuals

      entry_waits : (a : Text) (ks : List Text) (rs : Trees) (plain : Bool) (o : Option Tree) → are_projectable rs ≡ plain → found_tree ks rs a ≡ o →
          AllWait (SomeResiduals (a_tree (Apply (MakeRecord ks) rs) no_trees)) → Waits (entry_answer facts first a (Apply (MakeRecord ks) rs) plain o)
      entry_waits a ks rs plain None h e i = tt
      entry_waits a ks rs true (Some t) h e i =
          let p : is_projectable t ≡ true = plain_entry ks rs a t h e in
          subst Waits (sym (projected_is facts first t p)) (plain_waits t p)
      entry_waits a ks rs false (Some t) h e i = stays (GetAttr a) (a_tree (Apply (MakeRecord ks) rs) no_trees) (rw (h, e) refl) i

      attribute_waits : (a : Text) (r : Tree) → AllWait (SomeResiduals (a_tree r no_trees)) → Waits (attribute_answer facts first a r)
      attribute_waits a (Apply (MakeRecord ks) rs) i = entry_waits a ks rs (are_projectable rs) (found_tree ks rs a) refl refl i
      attribute_waits a r i = stays (GetAttr a) (a_tree r no_trees) refl i

      has_entry_waits : (a : Text) (ks : List Text) (rs : Trees) (plain : Bool) (o : Option Tree) → are_projectable rs ≡ plain → found_tree ks rs a ≡ o →
          AllWait (SomeResiduals (a_tree (Apply (MakeRecord ks) rs) no_trees)) → Waits (has_entry_answer a (Apply (MakeRecord ks) rs) plain o)
      has_entry_waits a ks rs true (Some t) h e i = tt
      has_entry_waits a ks rs true None h e i = tt
      has_entry_waits a ks rs false o h e i = stays (HasAttr a) (a_tree (Apply (MakeRecord ks) rs) no_trees) (rw h refl) i

      has_waits : (a : Text) (r : Tree) → AllWait (SomeResiduals (a_tree r no_trees)) → Waits (has_answer a r)
      has_waits a (Apply (MakeRecord ks) rs) i = has_entry_waits a ks rs (are_projectable rs) (found_tree ks rs a) refl refl i
      has_waits a r i = stays (HasAttr a) (a_tree r no_trees) refl i

      is_waits : (ty : Name) (r : Tree) → AllWait (SomeResiduals (a_tree r no_trees)) → Waits (is_answer ty r)
      is_waits ty (Unknown n (Some (EntityType u))) i = tt
      is_waits ty r i = stays (tree.Is ty) (a_tree r no_trees) refl i

      equal_waits : (r s : Tree) (b : Bool) → types_differ (stated_type r) (stated_type s) ≡ b →
          AllWait (SomeResiduals (a_tree r (a_tree s no_trees))) → Waits (equal_answer b r s)
      equal_waits r s true h i = tt
      equal_waits r s false h i = stays Equal (a_tree r (a_tree s no_trees)) (rw h refl) i

      left_waits : (op : Operator) (rs : Trees) → AllWait (SomeResiduals rs) → Waits (residual_answer facts first op rs)
      left_waits (GetAttr a) (a_tree r no_trees) i = attribute_waits a r i
      left_waits (HasAttr a) (a_tree r no_trees) i = has_waits a r i
      left_waits (tree.Is ty) (a_tree r no_trees) i = is_waits ty r i
      left_waits Equal (a_tree r (a_tree s no_trees)) i = equal_waits r s (types_differ (stated_type r) (stated_type s)) refl i
      left_waits op rs i = stays op rs refl i

      apply_waits : (op : Operator) (ps : Answers) → AllWait ps → Waits (apply_answer facts first op ps)
      apply_waits op (AllEvaluated vs) i = outcome_waits (applied facts op vs)
      apply_waits op (SomeResiduals rs) i = left_waits op rs i
      apply_waits op (SomeFailed k) i = tt

      -- ---- lazy operators

      -- a right operand, however it is answered again
      abbrev tried : Tree → Tree
      tried t = best_effort facts (partial_in facts later t) t

      and_waits : (p q : Answer) (r : Tree) → Waits p → Waits q → Waits (and_answer facts p q r)
      and_waits (ResidualTree s) q r h i = λ u. let (t, e, l) = h u.0 in (And t (tried (best_effort facts q r)), rw e refl, differing (refl, refl))
      and_waits (Evaluated (Plain (Boolean true))) (Evaluated (Plain (Boolean b))) r h i = tt
      and_waits (Evaluated (Plain (Boolean true))) (Evaluated _) r h i = tt
      and_waits (Evaluated (Plain (Boolean true))) (ResidualTree s) r h i =
          λ u. let (t, e, l) = i u.1 in (And (Lit (Boolean true)) t, rw e refl, differing (refl, refl))
      and_waits (Evaluated (Plain (Boolean true))) (Failed k) r h i = tt
      and_waits (Evaluated (Plain (Boolean false))) q r h i = tt
      and_waits (Evaluated _) q r h i = tt
      and_waits (Failed k) q r h i = tt

      or_waits : (p q : Answer) (r : Tree) → Waits p → Waits q → Waits (or_answer facts p q r)
      or_waits (ResidualTree s) q r h i = λ u. let (t, e, l) = h u.0 in (Or t (tried (best_effort facts q r)), rw e refl, differing (refl, refl))
      or_waits (Evaluated (Plain (Boolean false))) (Evaluated (Plain (Boolean b))) r h i = tt
      or_waits (Evaluated (Plain (Boolean false))) (Evaluated _) r h i = tt
      or_waits (Evaluated (Plain (Boolean false))) (ResidualTree s) r h i =
          λ u. let (t, e, l) = i u.1 in (Or (Lit (Boolean false)) t, rw e refl, differing (refl, refl))
      or_waits (Evaluated (Plain (Boolean false))) (Failed k) r h i = tt
      or_waits (Evaluated (Plain (Boolean true))) q r h i = tt
      or_waits (Evaluated _) q r h i = tt
      or_waits (Failed k) q r h i = tt

      if_waits : (p q s : Answer) (y n : Tree) → Waits p → Waits q → Waits s → Waits (if_answer facts p q s y n)
      if_waits (ResidualTree r) q s y n h i j =
          λ u. let (t, e, l) = h u.0 in (
            If t (tried (best_effort facts q y)) (tried (best_effort facts s n)),
            rw e refl,
            differing (refl, refl),
          )
      if_waits (Evaluated (Plain (Boolean true))) q s y n h i j = i
      if_waits (Evaluated (Plain (Boolean false))) q s y n h i j = j
      if_waits (Evaluated _) q s y n h i j = tt
      if_waits (Failed k) q s y n h i j = tt

      mutual
        pub waits : (t : Tree) → Waits (partial_in facts first t)
        waits (Lit l) = tt
        waits (Var v) = variable v
        waits (Slot s) = slot s
        waits (Unknown n ty) = unknown n ty
        waits (If t y n) = if_waits (partial_in facts first t) (partial_in facts first y) (partial_in facts first n) y n (waits t) (waits y) (waits n)
        waits (And l r) = and_waits (partial_in facts first l) (partial_in facts first r) r (waits l) (waits r)
        waits (Or l r) = or_waits (partial_in facts first l) (partial_in facts first r) r (waits l) (waits r)
        waits (Apply op ts) = apply_waits op (all_partial_in facts first ts) (all_wait ts)

        all_wait : (ts : Trees) → AllWait (all_partial_in facts first ts)
        all_wait no_trees = tt
        all_wait (a_tree t ts) = more_wait t ts (waits t) (all_wait ts)

-- ---- a question

module _ (facts : Facts) (good : HoldsMade facts) (q : Question) (slots bound : Slots) (told later : Told) (are_made : AreMadeTold facts told) where
  abbrev now : LeafAnswers
  now = held_of facts q slots told

  abbrev then : LeafAnswers
  then = held_of facts q bound later

  abbrev IsOpen : Text → Option ValueType → Type 0
  IsOpen n ty = finite.get later n ≡ None

  abbrev WaitsNow : Answer → Type 0
  WaitsNow p = Waits facts good IsOpen now then (held_made facts good q slots told are_made) p

  value_waits : (b : Bool) (v : Value) → WaitsNow (value_held b v)
  value_waits true v = tt
  value_waits false v = tt

  name_waits : (o : Option Value) (n : Text) (ty : Option ValueType) → WaitsNow (name_held o n ty)
  name_waits (Some v) n ty = value_waits (fits ty v) v
  name_waits None n ty = λ u. (Unknown n ty, rw u refl, itself)

  slot_waits : (o : Option Uid) → WaitsNow (answer_of (slot_outcome o))
  slot_waits (Some u) = tt
  slot_waits None = tt

  part_waits : (p : Part) (o : Option Value) (n : Text) → WaitsNow (part_held p o n)
  part_waits (Given u) o n = tt
  part_waits (Missing ty) o n = name_waits o n (entity_type ty)

  context_waits : (context : Entries) → IsData context → WaitsNow (context_held facts told context)
  context_waits NoContext h = name_waits (finite.get told (codes "context")) (codes "context") None
  context_waits (WithEntries ks ts) h =
      data_waits facts good IsOpen (held_names told) then (names_made facts told are_made) (λ n ty. name_waits (finite.get told n) n ty)
      (Apply (MakeRecord ks) ts) h

  module _ (is_data : IsData q.context) where
    variable_waits : (v : Variable) → WaitsNow (variable_held facts q told v)
    variable_waits Principal = part_waits q.principal (finite.get told (codes "principal")) (codes "principal")
    variable_waits Action = part_waits q.action (finite.get told (codes "action")) (codes "action")
    variable_waits Resource = part_waits q.resource (finite.get told (codes "resource")) (codes "resource")
    variable_waits Context = context_waits q.context is_data

    pub tree_waits : (t : Tree) → WaitsNow (partial_in facts now t)
    tree_waits t =
        waits facts good IsOpen now then (held_made facts good q slots told are_made) (λ n ty. name_waits (finite.get told n) n ty)
        variable_waits (λ s. slot_waits (slots s)) t

    pub is_left_again : (t r : Tree) → partial_in facts now t ≡ ResidualTree r → IsUntoldIn later r →
        (again : Tree) × (partial_in facts then r ≡ ResidualTree again)
    is_left_again t r is u = let (again, e, l) = (rw is at (tree_waits t)) u in (again, e)

pub what_is_left_waits : WhatIsLeftWaits
what_is_left_waits facts good q is_data slots bound told later are_made t r is u = is_left_again facts good q slots bound told later are_made is_data t r is u

-- ---- policies

module _ (facts : Facts) (good : HoldsMade facts) (q : Question) (is_data : IsData q.context) (told later : Told) (are_made : AreMadeTold facts told) where
  -- how an answer stands once it is taken up again
  abbrev standing_again : Answer → Standing
  standing_again p = standing_of_answer (partial_in facts (held_of facts q no_slots later) (condition_again p))

  -- what is left, if anything is, is left again
  abbrev IsLeftAgain : Answer → Type 0
  IsLeftAgain p = (r : Tree) → p ≡ ResidualTree r → (again : Tree) × (partial_in facts (held_of facts q no_slots later) r ≡ ResidualTree again)

  comes_again : (p : Answer) → ComesTo (standing_of_answer p) (standing_again p)
  comes_again (Evaluated (Plain (Boolean true))) = refl
  comes_again (Evaluated (Plain (Boolean false))) = tt
  comes_again (Evaluated _) = tt
  comes_again (ResidualTree r) = tt
  comes_again (Failed k) = tt

  comes_back : (p : Answer) → IsLeftAgain p → ComesTo (standing_again p) (standing_of_answer p)
  comes_back (Evaluated (Plain (Boolean true))) f = refl
  comes_back (Evaluated (Plain (Boolean false))) f = tt
  comes_back (Evaluated _) f = tt
  comes_back (ResidualTree r) f = rw (f r refl).1 tt
  comes_back (Failed k) f = tt

  not_erring : (p : Answer) → IsLeftAgain p → (k : Kind) → standing_again p ≡ Erring k → ⊥
  not_erring (Evaluated (Plain (Boolean true))) f k e = cc
  not_erring (Evaluated (Plain (Boolean false))) f k e = cc
  not_erring (Evaluated _) f k e = cc
  not_erring (ResidualTree r) f k e = let g : Residual ≡ Erring k = rw (f r refl).1 at e in cc
  not_erring (Failed k) f l e = cc

  abbrev first : Policy → Answer
  first p = partial_in facts (held_of facts q p.slots told) p.condition

  left_again : (p : Policy) → WaitsStill facts q told later p → IsLeftAgain (first p)
  left_again p h r is = is_left_again facts good q p.slots no_slots told later are_made is_data p.condition r is (h r is)

  all_come : (ps : List Policy) → Come (map (judged_early facts q told) ps) (map (judged_again facts q told later) ps)
  all_come [] = none_come
  all_come (p ∷ ps) = one_comes (record { id = refl; effect = refl; standing = comes_again (first p) }) (all_come ps)

  all_back : (ps : List Policy) → All (WaitsStill facts q told later) ps → Come (map (judged_again facts q told later) ps) (map (judged_early facts q told) ps)
  all_back [] h = none_come
  all_back (p ∷ ps) h =
      one_comes (record { id = refl; effect = refl; standing = comes_back (first p) (left_again p (All-head (WaitsStill facts q told later) p ps h)) })
      (all_back ps (All-tail (WaitsStill facts q told later) p ps h))

  none_errs : (ps : List Policy) → All (WaitsStill facts q told later) ps → (a b : Judged) →
      At (map (judged_again facts q told later) ps) (map (judged_early facts q told) ps) a b → (k : Kind) → a.standing ≡ Erring k → ⊥
  none_errs [] h a b at k e = elim at [ ]
  none_errs (p ∷ ps) h a b at_first k e = not_erring (first p) (left_again p (All-head (WaitsStill facts q told later) p ps h)) k e
  none_errs (p ∷ ps) h a b (at_later i) k e = none_errs ps (All-tail (WaitsStill facts q told later) p ps h) a b i k e

pub waiting_is_answered_alike : WaitingIsAnsweredAlike
waiting_is_answered_alike facts good q is_data told later are_made ps h = (
  rules_are_sharp _ _ (all_come facts good q is_data told later are_made ps),
  rules_are_sharp _ _ (all_back facts good q is_data told later are_made ps h),
  (λ a b at k e. absurd (none_errs facts good q is_data told later are_made ps h a b at k e)),
)
