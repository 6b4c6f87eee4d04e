-- Answers that are values are made again by their trees.
use Rattle.std.proofs.Common.{◌≡◌, ℕ, Bool, true, false, cond, Option, Some, None, List, [], ◌∷◌, refl, ap}
use Rattle.cedar_language.specs.Uid.{Text, Name, Uid}
use Rattle.cedar_language.specs.Tree.{Boolean, Long, String, Entity, Operator, Not, Neg, IsEmpty, Equal, Less, LessEq, Add, Sub, Mul, In, Contains, ContainsAll, ContainsAny, GetTag, HasTag, GetAttr, HasAttr, HasPath, Like, MakeSet, MakeRecord, Call, Tree, Lit, Var, Slot, Unknown, If, And, Or, Apply, Trees, no_trees, a_tree, EntityType}
use Rattle.cedar_language.specs.Tree as tree
use Rattle.cedar_language.specs.Value.{Value, Plain, SetOf, RecordOf, ExtensionOf, Values, no_values, a_value, Kind, TypeError, Outcome, Gives, Fails}
use Rattle.cedar_language.specs.Order.{same_text, rising, put, placed, value_cmp}
use Rattle.cedar_language.specs.Facts.{Held, Function, Facts}
use Rattle.cedar_language.specs.Operators.{found, applied, or_fails}
use Rattle.cedar_partial_evaluation.specs.MadeAgain.{tree_of, trees_of, long_values, IsMadeAgain, AreMadeAgain, HoldsMade}
use Rattle.cedar_language.specs.Constructing.{longs_of}
use Rattle.cedar_partial_evaluation.specs.Partial.{Answer, Evaluated, ResidualTree, Failed, Answers, AllEvaluated, SomeResiduals, SomeFailed, answer_of, last_answer, and_answer, or_answer, if_answer, and_next, are_projectable, LeafAnswers, built_answer, projected_in, all_projected_in, found_tree, entry_answer, attribute_answer, has_entry_answer, has_answer, is_answer, stated_type, types_differ, equal_answer, residual_answer, apply_answer, partial_in, all_partial_in}
use Rattle.cedar_partial_evaluation.specs.Fair.{IsMadeAnswer, AreMadeLeaves}
use Rattle.std.proofs.Common.{Ordering, ℤ, ◌+ℤ◌, ◌-ℤ◌, ◌*ℤ◌, neg_ℤ}
use Rattle.cedar_language.specs.Operators as op
use Rattle.cedar_language.specs.Tree.{PatternElem}
use Rattle.cedar_language.specs.Value.{IntegerOverflow}
use Rattle.std.specs.declared.cmp.Ordering.TheVariants as ordering
use Rattle.cedar_language.proofs.Rising.{rising_rises, rising_same}

module _ (facts : Facts) where
  placed_made : (o : Ordering) (v w : Value) (ws vs : Values) → IsMadeAgain facts v → IsMadeAgain facts w → AreMadeAgain facts ws → AreMadeAgain facts vs → AreMadeAgain facts (placed o v w ws vs)
  placed_made ordering.Less v w ws vs h i j k = (h, (i, j))
  placed_made ordering.Equal v w ws vs h i j k = (i, j)
  placed_made ordering.Greater v w ws vs h i j k = (i, k)

  put_made : (v : Value) (ws : Values) → IsMadeAgain facts v → AreMadeAgain facts ws → AreMadeAgain facts (put v ws)
  put_made v no_values h k = (h, tt)
  put_made v (a_value w ws) h k = placed_made (value_cmp v w) v w ws (put v ws) h k.0 k.1 (put_made v ws h k.1)

  rising_made : (vs : Values) → AreMadeAgain facts vs → AreMadeAgain facts (rising vs)
  rising_made no_values h = tt
  rising_made (a_value v vs) h = put_made v (rising vs) h.0 (rising_made vs h.1)

  -- ---- outcomes

  abbrev IsMadeOutcome : Outcome → Type 0
  IsMadeOutcome (Gives v) = IsMadeAgain facts v
  IsMadeOutcome (Fails k) = Unit {0}

  abbrev IsMadeOption : Option Value → Type 0
  IsMadeOption (Some v) = IsMadeAgain facts v
  IsMadeOption None = Unit {0}

  cond_made : (b : Bool) (o p : Outcome) → IsMadeOutcome o → IsMadeOutcome p → IsMadeOutcome (cond b o p)
  cond_made true o p h k = h
  cond_made false o p h k = k

  or_fails_made : (k : Kind) (o : Option Value) → IsMadeOption o → IsMadeOutcome (or_fails k o)
  or_fails_made k (Some v) h = h
  or_fails_made k None h = tt

  option_made : (o : Option Value) → ((v : Value) → o ≡ Some v → IsMadeAgain facts v) → IsMadeOption o
  option_made (Some v) f = f v refl
  option_made None f = tt

  found_step : (b : Bool) (v : Value) (o : Option Value) → IsMadeAgain facts v → IsMadeOption o → IsMadeOption (cond b (Some v) o)
  found_step true v o h k = h
  found_step false v o h k = k

  found_made : (ks : List Text) (vs : Values) (a : Text) → AreMadeAgain facts vs → IsMadeOption (found ks vs a)
  found_made [] vs a h = tt
  found_made (k ∷ ks) no_values a h = tt
  found_made (k ∷ ks) (a_value v vs) a h = found_step (same_text k a) v (found ks vs a) h.0 (found_made ks vs a h.1)

  checked_made : (n : ℤ) → IsMadeOutcome (op.checked n)
  checked_made n = cond_made (op.is_long n) (Gives (Plain (Long n))) (Fails IntegerOverflow) tt tt

  is_there_made : (o : Outcome) → IsMadeOutcome (op.is_there o)
  is_there_made (Gives v) = tt
  is_there_made (Fails TypeError) = tt
  is_there_made (Fails _) = tt

  path_made : (as' : List Text) (o : Outcome) → IsMadeOutcome (op.path_from facts as' o)
  path_made [] o = is_there_made o
  path_made (a ∷ as') (Gives v) = path_made as' (op.attribute facts a v)
  path_made (a ∷ as') (Fails k) = is_there_made (Fails k)

  not_made : (vs : Values) → IsMadeOutcome (op.not_of vs)
  not_made (a_value (Plain (Boolean b)) no_values) = tt
  not_made _ = tt

  negated_made : (vs : Values) → IsMadeOutcome (op.negated vs)
  negated_made (a_value (Plain (Long n)) no_values) = checked_made (neg_ℤ n)
  negated_made _ = tt

  empty_made : (vs : Values) → IsMadeOutcome (op.is_empty vs)
  empty_made (a_value (SetOf no_values) no_values) = tt
  empty_made (a_value (SetOf (a_value v vs)) no_values) = tt
  empty_made _ = tt

  equal_made : (vs : Values) → IsMadeOutcome (op.equal_of vs)
  equal_made (a_value x (a_value y no_values)) = tt
  equal_made _ = tt

  less_made : (vs : Values) → IsMadeOutcome (op.less_of vs)
  less_made (a_value (Plain (Long x)) (a_value (Plain (Long y)) no_values)) = tt
  less_made (a_value (ExtensionOf x) (a_value (ExtensionOf y) no_values)) = cond_made (op.are_comparable x y) _ _ tt tt
  less_made _ = tt

  less_eq_made : (vs : Values) → IsMadeOutcome (op.less_eq_of vs)
  less_eq_made (a_value (Plain (Long x)) (a_value (Plain (Long y)) no_values)) = tt
  less_eq_made (a_value (ExtensionOf x) (a_value (ExtensionOf y) no_values)) = cond_made (op.are_comparable x y) _ _ tt tt
  less_eq_made _ = tt

  arithmetic_made : (f : ℤ → ℤ → ℤ) (vs : Values) → IsMadeOutcome (op.arithmetic f vs)
  arithmetic_made f (a_value (Plain (Long x)) (a_value (Plain (Long y)) no_values)) = checked_made (f x y)
  arithmetic_made f _ = tt

  within_made : (a : Uid) (o : Option (List Uid)) → IsMadeOutcome (op.within_members facts a o)
  within_made a (Some bs) = tt
  within_made a None = tt

  in_made : (vs : Values) → IsMadeOutcome (op.in_of facts vs)
  in_made (a_value (Plain (Entity a)) (a_value (Plain (Entity b)) no_values)) = tt
  in_made (a_value (Plain (Entity a)) (a_value (SetOf vs) no_values)) = within_made a (op.uids_in vs)
  in_made _ = tt

  contains_made : (vs : Values) → IsMadeOutcome (op.contains_of vs)
  contains_made (a_value (SetOf ws) (a_value v no_values)) = tt
  contains_made _ = tt

  two_sets_made : (f : Values → Values → Bool) (vs : Values) → IsMadeOutcome (op.of_two_sets f vs)
  two_sets_made f (a_value (SetOf vs) (a_value (SetOf ws) no_values)) = tt
  two_sets_made f _ = tt

  like_made : (ps : List PatternElem) (vs : Values) → IsMadeOutcome (op.like_of ps vs)
  like_made ps (a_value (Plain (String s)) no_values) = tt
  like_made ps _ = tt

  is_made : (ty : Name) (vs : Values) → IsMadeOutcome (op.is_of ty vs)
  is_made ty (a_value (Plain (Entity u)) no_values) = tt
  is_made ty _ = tt

  has_made : (a : Text) (vs : Values) → IsMadeOutcome (op.has_of facts a vs)
  has_made a (a_value v no_values) = is_there_made (op.attribute facts a v)
  has_made a _ = tt

  has_path_made : (a : Text) (as' : List Text) (vs : Values) → IsMadeOutcome (op.has_path_of facts a as' vs)
  has_path_made a as' (a_value v no_values) = path_made as' (op.attribute facts a v)
  has_path_made a as' _ = tt

  module _ (good : HoldsMade facts) where
    attribute_held_made : (u : Uid) (a : Text) (o : Option Held) → facts.entity u ≡ o → IsMadeOutcome (op.attribute_held a o)
    attribute_held_made u a None e = tt
    attribute_held_made u a (Some h) e = or_fails_made _ (h.attribute a) (option_made (h.attribute a) (λ v i. good.attribute u h a v e i))

    tag_held_made : (u : Uid) (a : Text) (o : Option Held) → facts.entity u ≡ o → IsMadeOutcome (op.tag_held a o)
    tag_held_made u a None e = tt
    tag_held_made u a (Some h) e = or_fails_made _ (h.tag a) (option_made (h.tag a) (λ v i. good.tag u h a v e i))

    attribute_made : (a : Text) (v : Value) → IsMadeAgain facts v → IsMadeOutcome (op.attribute facts a v)
    attribute_made a (RecordOf ks vs) h = or_fails_made _ (found ks vs a) (found_made ks vs a h)
    attribute_made a (Plain (Entity u)) h = attribute_held_made u a (facts.entity u) refl
    attribute_made a _ h = tt

    attribute_of_made : (a : Text) (vs : Values) → AreMadeAgain facts vs → IsMadeOutcome (op.attribute_of facts a vs)
    attribute_of_made a (a_value v no_values) h = attribute_made a v h.0
    attribute_of_made a no_values h = tt
    attribute_of_made a (a_value v (a_value w ws)) h = tt

    tag_made : (vs : Values) → IsMadeOutcome (op.tag_of facts vs)
    tag_made (a_value (Plain (Entity u)) (a_value (Plain (String a)) no_values)) = tag_held_made u a (facts.entity u) refl
    tag_made _ = tt

    called_made : (n : Name) (o : Option Function) (vs : Values) → AreMadeAgain facts vs → facts.function n ≡ o → IsMadeOutcome (op.called o vs)
    called_made n None vs h e = tt
    called_made n (Some f) vs h e =
        cond_made (op.takes f.takes (op.count vs)) _ _ (or_fails_made _ (f.answer vs) (option_made (f.answer vs) (λ v i. good.answer n f vs v e h i))) tt

    applied_made : (o : Operator) (vs : Values) → AreMadeAgain facts vs → IsMadeOutcome (applied facts o vs)
    applied_made Not vs h = not_made vs
    applied_made Neg vs h = negated_made vs
    applied_made IsEmpty vs h = empty_made vs
    applied_made Equal vs h = equal_made vs
    applied_made Less vs h = less_made vs
    applied_made LessEq vs h = less_eq_made vs
    applied_made Add vs h = arithmetic_made (λ x y. x +ℤ y) vs
    applied_made Sub vs h = arithmetic_made (λ x y. x -ℤ y) vs
    applied_made Mul vs h = arithmetic_made (λ x y. x *ℤ y) vs
    applied_made In vs h = in_made vs
    applied_made Contains vs h = contains_made vs
    applied_made ContainsAll vs h = two_sets_made op.has_all vs
    applied_made ContainsAny vs h = two_sets_made op.has_some vs
    applied_made GetTag vs h = tag_made vs
    applied_made HasTag vs h = is_there_made (op.tag_of facts vs)
    applied_made (GetAttr a) vs h = attribute_of_made a vs h
    applied_made (HasAttr a) vs h = has_made a vs
    applied_made (HasPath a as') vs h = has_path_made a as' vs
    applied_made (Like ps) vs h = like_made ps vs
    applied_made (tree.Is ty) vs h = is_made ty vs
    applied_made MakeSet vs h = (rising_rises vs, rising_made vs h)
    applied_made (MakeRecord ks) vs h = h
    applied_made (Call n) vs h = called_made n (facts.function n) vs h refl

    -- ---- answers

    abbrev pub AreMadeAnswers : Answers → Type 0
    AreMadeAnswers (AllEvaluated vs) = AreMadeAgain facts vs
    AreMadeAnswers ps = Unit {0}

    answer_made : (o : Outcome) → IsMadeOutcome o → IsMadeAnswer facts (answer_of o)
    answer_made (Gives v) h = h
    answer_made (Fails k) h = tt

    last_made : (f : Tree → Tree) (p : Answer) → IsMadeAnswer facts (last_answer f p)
    last_made f (Evaluated (Plain (Boolean b))) = tt
    last_made f (Evaluated _) = tt
    last_made f (ResidualTree r) = tt
    last_made f (Failed k) = tt

    and_made : (p q : Answer) (r : Tree) → IsMadeAnswer facts (and_answer facts p q r)
    and_made (ResidualTree s) q r = tt
    and_made (Evaluated (Plain (Boolean true))) q r = last_made (And (Lit (Boolean true))) q
    and_made (Evaluated (Plain (Boolean false))) q r = tt
    and_made (Evaluated _) q r = tt
    and_made (Failed k) q r = tt

    or_made : (p q : Answer) (r : Tree) → IsMadeAnswer facts (or_answer facts p q r)
    or_made (ResidualTree s) q r = tt
    or_made (Evaluated (Plain (Boolean false))) q r = last_made (Or (Lit (Boolean false))) q
    or_made (Evaluated (Plain (Boolean true))) q r = tt
    or_made (Evaluated _) q r = tt
    or_made (Failed k) q r = tt

    if_made : (p q s : Answer) (y n : Tree) → IsMadeAnswer facts q → IsMadeAnswer facts s → IsMadeAnswer facts (if_answer facts p q s y n)
    if_made (ResidualTree r) q s y n h k = tt
    if_made (Evaluated (Plain (Boolean true))) q s y n h k = h
    if_made (Evaluated (Plain (Boolean false))) q s y n h k = k
    if_made (Evaluated _) q s y n h k = tt
    if_made (Failed e) q s y n h k = tt

    next_made : (p : Answer) (ps : Answers) → IsMadeAnswer facts p → AreMadeAnswers ps → AreMadeAnswers (and_next facts p ps)
    next_made (Failed k) ps h i = tt
    next_made (Evaluated v) (AllEvaluated vs) h i = (h, i)
    next_made (Evaluated v) (SomeResiduals rs) h i = tt
    next_made (Evaluated v) (SomeFailed k) h i = tt
    next_made (ResidualTree r) (AllEvaluated vs) h i = tt
    next_made (ResidualTree r) (SomeResiduals rs) h i = tt
    next_made (ResidualTree r) (SomeFailed k) h i = tt

    module _ (holds : LeafAnswers) (leaves : AreMadeLeaves facts holds) where
      built_made : (o : Operator) (ps : Answers) → AreMadeAnswers ps → IsMadeAnswer facts (built_answer facts o ps)
      built_made o (AllEvaluated vs) h = answer_made (applied facts o vs) (applied_made o vs h)
      built_made o (SomeResiduals rs) h = tt
      built_made o (SomeFailed k) h = tt

      mutual
        pub plain_made : (t : Tree) → IsMadeAnswer facts (projected_in facts holds t)
        plain_made (Lit l) = tt
        plain_made (Var v) = leaves.variable v
        plain_made (Unknown n ty) = leaves.unknown n ty
        plain_made (Apply o ts) = built_made o (all_projected_in facts holds ts) (all_plain_made ts)
        plain_made _ = tt

        pub all_plain_made : (ts : Trees) → AreMadeAnswers (all_projected_in facts holds ts)
        all_plain_made no_trees = tt
        all_plain_made (a_tree t ts) = next_made (projected_in facts holds t) (all_projected_in facts holds ts) (plain_made t) (all_plain_made ts)

      entry_made : (a : Text) (r : Tree) (b : Bool) (o : Option Tree) → IsMadeAnswer facts (entry_answer facts holds a r b o)
      entry_made a r b None = tt
      entry_made a r true (Some t) = plain_made t
      entry_made a r false (Some t) = tt

      attribute_left_made : (a : Text) (r : Tree) → IsMadeAnswer facts (attribute_answer facts holds a r)
      attribute_left_made a (Apply (MakeRecord ks) rs) = entry_made a (Apply (MakeRecord ks) rs) (are_projectable rs) (found_tree ks rs a)
      attribute_left_made a _ = tt

      has_entry_made : (a : Text) (r : Tree) (b : Bool) (o : Option Tree) → IsMadeAnswer facts (has_entry_answer a r b o)
      has_entry_made a r true (Some t) = tt
      has_entry_made a r true None = tt
      has_entry_made a r false o = tt

      has_left_made : (a : Text) (r : Tree) → IsMadeAnswer facts (has_answer a r)
      has_left_made a (Apply (MakeRecord ks) rs) = has_entry_made a (Apply (MakeRecord ks) rs) (are_projectable rs) (found_tree ks rs a)
      has_left_made a _ = tt

      is_left_made : (ty : Name) (r : Tree) → IsMadeAnswer facts (is_answer ty r)
      is_left_made ty (Unknown n (Some (EntityType u))) = tt
      is_left_made ty _ = tt

      equal_left_made : (b : Bool) (r s : Tree) → IsMadeAnswer facts (equal_answer b r s)
      equal_left_made true r s = tt
      equal_left_made false r s = tt

      left_made : (o : Operator) (rs : Trees) → IsMadeAnswer facts (residual_answer facts holds o rs)
      left_made (GetAttr a) (a_tree r no_trees) = attribute_left_made a r
      left_made (HasAttr a) (a_tree r no_trees) = has_left_made a r
      left_made (tree.Is ty) (a_tree r no_trees) = is_left_made ty r
      left_made Equal (a_tree r (a_tree s no_trees)) = equal_left_made (types_differ (stated_type r) (stated_type s)) r s
      left_made _ _ = tt

      apply_made : (o : Operator) (ps : Answers) → AreMadeAnswers ps → IsMadeAnswer facts (apply_answer facts holds o ps)
      apply_made o (AllEvaluated vs) h = answer_made (applied facts o vs) (applied_made o vs h)
      apply_made o (SomeResiduals rs) h = left_made o rs
      apply_made o (SomeFailed k) h = tt

      mutual
        pub made : (t : Tree) → IsMadeAnswer facts (partial_in facts holds t)
        made (Lit l) = tt
        made (Var v) = leaves.variable v
        made (Slot s) = leaves.slot s
        made (Unknown n ty) = leaves.unknown n ty
        made (If t y n) = if_made (partial_in facts holds t) (partial_in facts holds y) (partial_in facts holds n) y n (made y) (made n)
        made (And l r) = and_made (partial_in facts holds l) (partial_in facts holds r) r
        made (Or l r) = or_made (partial_in facts holds l) (partial_in facts holds r) r
        made (Apply o ts) = apply_made o (all_partial_in facts holds ts) (all_made ts)

        pub all_made : (ts : Trees) → AreMadeAnswers (all_partial_in facts holds ts)
        all_made no_trees = tt
        all_made (a_tree t ts) = next_made (partial_in facts holds t) (all_partial_in facts holds ts) (made t) (all_made ts)

-- ---- a value's tree evaluated again, whatever is held of leaves

longs_again : (facts : Facts) (holds : LeafAnswers) (bs : List ℕ) → all_partial_in facts holds (longs_of bs) ≡ AllEvaluated (long_values bs)
longs_again facts holds [] = refl
longs_again facts holds (b ∷ bs) = rw (longs_again facts holds bs) refl

mutual
  pub value_again : (facts : Facts) (holds : LeafAnswers) (v : Value) → IsMadeAgain facts v → partial_in facts holds (tree_of facts v) ≡ Evaluated v
  value_again facts holds (Plain l) h = refl
  value_again facts holds (SetOf vs) h = rw (values_again facts holds vs h.1) (ap (λ ws. Evaluated (SetOf ws)) (rising_same vs h.0))
  value_again facts holds (RecordOf ks vs) h = rw (values_again facts holds vs h) refl
  value_again facts holds (ExtensionOf e) h = rw (longs_again facts holds e.key) (ap answer_of h)

  pub values_again : (facts : Facts) (holds : LeafAnswers) (vs : Values) → AreMadeAgain facts vs →
      all_partial_in facts holds (trees_of facts vs) ≡ AllEvaluated vs
  values_again facts holds no_values h = refl
  values_again facts holds (a_value v vs) h = rw (value_again facts holds v h.0, values_again facts holds vs h.1) refl
