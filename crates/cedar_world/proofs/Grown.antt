-- What an evaluation answers, or leaves of a tree, is no higher than the tree may grow.
use Rattle.std.proofs.Common.{◌≡◌, ◌≤◌, ℕ, suc, max, Bool, true, false, cond, Option, Some, None, List, [], ◌∷◌, refl, sym, ◌∙◌, subst, arith, Ordering, codes}
use Rattle.std.proofs.Math.Nat.{le-max_left, le-max_right, max-le}
use Rattle.std.specs.Option.{option_map}
use Rattle.std.specs.declared.cmp.Ordering.TheVariants as ordering
use Rattle.cedar_language.specs.Uid.{Text, Name, Uid}
use Rattle.cedar_language.specs.Tree as tree
use Rattle.cedar_language.specs.Tree.{Boolean, String, Entity, Operator, Equal, Less, GetTag, GetAttr, HasAttr, MakeSet, MakeRecord, Call, Tree, Lit, Var, Slot, Unknown, If, And, Or, Apply, Trees, no_trees, a_tree, EntityType, Principal, Action, Resource, Context}
use Rattle.cedar_language.specs.Value.{Value, Plain, SetOf, RecordOf, ExtensionOf, Values, no_values, a_value, Kind, Outcome, Gives, Fails}
use Rattle.cedar_language.specs.Order.{same_text, rising, put, placed, value_cmp}
use Rattle.cedar_language.specs.Facts.{Held, Function, Facts}
use Rattle.cedar_language.specs.Constructing.{is_the_constructor, constructor_function, constructed, construction, longs_of, bytes_of}
use Rattle.cedar_language.specs.Height.{height, heights}
use Rattle.cedar_language.specs.Operators as op
use Rattle.cedar_language.specs.Operators.{found, applied, or_fails, called}
use Rattle.cedar_partial_evaluation.specs.MadeAgain.{tree_of, trees_of}
use Rattle.cedar_partial_evaluation.specs.Partial.{Answer, Evaluated, ResidualTree, Failed, Answers, AllEvaluated, SomeResiduals, SomeFailed, answer_of, best_effort, last_answer, and_answer, or_answer, if_answer, and_next, are_projectable, LeafAnswers, built_answer, projected_in, all_projected_in, found_tree, entry_answer, has_entry_answer, stated_type, types_differ, equal_answer, residual_answer, apply_answer, partial_in, all_partial_in}
use Rattle.cedar_world.proofs.OrdinaryErrors.{IsPlainly, applied_plain}
use Rattle.cedar_world.specs.Heights.{value_height, value_heights, Heights, read_height, grown, all_grown, grown_answer, AreWithin, AnswersStayWithin}

-- ---- values

abbrev value_in : Outcome → ℕ
value_in (Gives v) = value_height v
value_in (Fails k) = 0

abbrev value_of : Option Value → ℕ
value_of (Some v) = value_height v
value_of None = 0

pub some_value : (v : Value) → 1 ≤ value_height v
some_value (Plain l) = omega arith
some_value _ = omega arith

first_high : (v : Value) (vs : Values) (n : ℕ) → value_heights (a_value v vs) ≤ n → value_height v ≤ n
first_high v vs n h = omega (arith, le-max_left (value_height v) (value_heights vs))

rest_high : (v : Value) (vs : Values) (n : ℕ) → value_heights (a_value v vs) ≤ n → value_heights vs ≤ n
rest_high v vs n h = omega (arith, le-max_right (value_height v) (value_heights vs))

placed_high : (o : Ordering) (v w : Value) (ws vs : Values) (n : ℕ) → value_height v ≤ n → value_height w ≤ n → value_heights ws ≤ n → value_heights vs ≤ n → value_heights (placed o v w ws vs) ≤ n
placed_high ordering.Less v w ws vs n a b c d = max-le a (max-le b c)
placed_high ordering.Equal v w ws vs n a b c d = max-le b c
placed_high ordering.Greater v w ws vs n a b c d = max-le b d

put_high : (v : Value) (ws : Values) (n : ℕ) → value_height v ≤ n → value_heights ws ≤ n → value_heights (put v ws) ≤ n
put_high v no_values n a b = max-le a b
put_high v (a_value w ws) n a b =
    placed_high (value_cmp v w) v w ws (put v ws) n a (first_high w ws n b) (rest_high w ws n b) (put_high v ws n a (rest_high w ws n b))

rising_high : (vs : Values) (n : ℕ) → value_heights vs ≤ n → value_heights (rising vs) ≤ n
rising_high no_values n a = a
rising_high (a_value v vs) n a = put_high v (rising vs) n (first_high v vs n a) (rising_high vs n (rest_high v vs n a))

cond_high : (b : Bool) (o p : Outcome) (n : ℕ) → value_in o ≤ n → value_in p ≤ n → value_in (cond b o p) ≤ n
cond_high true o p n a b = a
cond_high false o p n a b = b

or_fails_high : (k : Kind) (o : Option Value) (n : ℕ) → value_of o ≤ n → value_in (or_fails k o) ≤ n
or_fails_high k (Some v) n a = a
or_fails_high k None n a = a

option_high : (o : Option Value) (n : ℕ) → ((v : Value) → o ≡ Some v → value_height v ≤ n) → value_of o ≤ n
option_high (Some v) n f = f v refl
option_high None n f = omega arith

found_step : (b : Bool) (v : Value) (o : Option Value) (n : ℕ) → value_height v ≤ n → value_of o ≤ n → value_of (cond b (Some v) o) ≤ n
found_step true v o n a b = a
found_step false v o n a b = b

found_high : (ks : List Text) (vs : Values) (a : Text) (n : ℕ) → value_heights vs ≤ n → value_of (found ks vs a) ≤ n
found_high (k ∷ ks) (a_value v vs) a n h = found_step (same_text k a) v (found ks vs a) n (first_high v vs n h) (found_high ks vs a n (rest_high v vs n h))
found_high _ _ a n h = omega arith

low : (o : Outcome) (n : ℕ) → IsPlainly o → value_in o ≤ suc n
low (Gives (Plain l)) n h = omega arith
low (Fails k) n h = omega arith
low _ n h = absurd h

-- ---- values as trees

longs_grow : (h : Heights) (bs : List ℕ) → all_grown h (longs_of bs) ≤ 1
longs_grow h [] = omega arith
longs_grow h (b ∷ bs) = max-le (omega arith) (longs_grow h bs)

mutual
  pub written_grows : (h : Heights) (facts : Facts) (v : Value) → grown h (tree_of facts v) ≤ value_height v
  written_grows h facts (Plain l) = omega arith
  written_grows h facts (SetOf vs) = max-le (omega arith) (omega (arith, all_written_grow h facts vs))
  written_grows h facts (RecordOf ks vs) = max-le (omega arith) (omega (arith, all_written_grow h facts vs))
  written_grows h facts (ExtensionOf e) = construction_grows h (longs_grow h e.key)
    where
      construction_grows : (h : Heights) → all_grown h (longs_of e.key) ≤ 1 → grown h (construction e) ≤ 2
      construction_grows h l = omega (arith, l)

  pub all_written_grow : (h : Heights) (facts : Facts) (vs : Values) → all_grown h (trees_of facts vs) ≤ value_heights vs
  all_written_grow h facts no_values = omega arith
  all_written_grow h facts (a_value v vs) =
      max-le (omega (arith, written_grows h facts v, le-max_left (value_height v) (value_heights vs)))
      (omega (arith, all_written_grow h facts vs, le-max_right (value_height v) (value_heights vs)))

-- ---- what the constructor gives

constructed_high : (vs : Values) (n : ℕ) → value_heights vs ≤ n → value_of (constructed vs) ≤ suc n
constructed_high (a_value (Plain (Entity u)) (a_value (Plain (Boolean b)) vs)) n h = by_key (bytes_of vs) (first_high (Plain (Entity u)) (a_value (Plain (Boolean b)) vs) n h)
  where
    by_key : (o : Option (List ℕ)) → 1 ≤ n → value_of (option_map (λ key. ExtensionOf (record { type_name = u.type_name; ordered = b; key = key })) o) ≤ suc n
    by_key (Some key) l = omega (arith, l)
    by_key None l = omega arith
constructed_high _ n h = omega arith

-- ---- below a limit

pub both_within : (limit x y : ℕ) → max x y ≤ limit → (x ≤ limit) × (y ≤ limit)
both_within limit x y m = (omega (arith, le-max_left x y), omega (arith, le-max_right x y))

pub below_within : (limit r n : ℕ) → max r (suc n) ≤ limit → n ≤ limit
below_within limit r n m = omega (arith, le-max_right r (suc n))

pub three_within : (limit x y z : ℕ) → suc (max x (max y z)) ≤ limit → (x ≤ limit) × (y ≤ limit) × (z ≤ limit)
three_within limit x y z m =
    let (left, rest) = both_within limit x (max y z) (omega arith) in
    let (middle, right) = both_within limit y z rest in
    (left, middle, right)

module _ (h : Heights) (limit : ℕ) (facts : Facts) (holds : LeafAnswers) (within : AreWithin h limit facts holds) where
  attribute_held_high : (u : Uid) (a : Text) (o : Option Held) → facts.entity u ≡ o → h.held a ≤ limit → value_in (op.attribute_held a o) ≤ h.held a
  attribute_held_high u a None e m = omega arith
  attribute_held_high u a (Some d) e m = or_fails_high _ (d.attribute a) (h.held a) (option_high (d.attribute a) (h.held a) (λ v i. within.attribute u d a v e i m))

  tag_held_high : (u : Uid) (a : Text) (o : Option Held) → facts.entity u ≡ o → h.tagged ≤ limit → value_in (op.tag_held a o) ≤ h.tagged
  tag_held_high u a None e m = omega arith
  tag_held_high u a (Some d) e m = or_fails_high _ (d.tag a) h.tagged (option_high (d.tag a) h.tagged (λ v i. within.tag u d a v e i m))

  attribute_high : (a : Text) (v : Value) (n : ℕ) → value_height v ≤ n → max (h.held a) (suc n) ≤ limit → value_in (op.attribute facts a v) ≤ max (h.held a) (suc n)
  attribute_high a (RecordOf ks vs) n l m =
      or_fails_high _ (found ks vs a) _ (omega (arith, found_high ks vs a (value_heights vs) (omega arith), l, le-max_right (h.held a) (suc n)))
  attribute_high a (Plain (Entity u)) n l m = omega (arith, attribute_held_high u a (facts.entity u) refl (both_within limit (h.held a) (suc n) m).0, le-max_left (h.held a) (suc n))
  attribute_high a _ n l m = omega arith

  by_function : (f : Name) (b : Bool) → is_the_constructor f ≡ b → (o : Option Function) → facts.function f ≡ o → (vs : Values) (n : ℕ) → value_heights vs ≤ n → max (cond b 0 h.answered) (suc n) ≤ limit → value_in (called o vs) ≤ max (cond b 0 h.answered) (suc n)
  by_function f b is None e vs n l m = omega arith
  by_function f false is (Some g) e vs n l m =
      cond_high (op.takes g.takes (op.count vs)) _ _ _
      (or_fails_high _ (g.answer vs) _ (omega (arith, option_high (g.answer vs) h.answered (λ v i. within.function f g vs v is e i (both_within limit h.answered (suc n) m).0), le-max_left h.answered (suc n)))) (omega arith)
  by_function f true is (Some g) e vs n l m =
      cond_high (op.takes g.takes (op.count vs)) _ _ _
      (or_fails_high _ (g.answer vs) _ (subst (λ (c : Function). value_of (c.answer vs) ≤ max 0 (suc n)) (constructor_is g e) (omega (arith, constructed_high vs n l, le-max_right 0 (suc n))))) (omega arith)
    where
      some_same : {A : Type 0} (x y : A) → Some x ≡ Some y → x ≡ y
      some_same x y i = cc

      constructor_is : (g : Function) → facts.function f ≡ Some g → constructor_function ≡ g
      constructor_is g e = some_same constructor_function g (sym (within.constructor f is) ∙ e)

  applied_high : (o : Operator) (vs : Values) (n : ℕ) → value_heights vs ≤ n → max (read_height h o) (suc n) ≤ limit → value_in (applied facts o vs) ≤ max (read_height h o) (suc n)
  applied_high GetTag (a_value (Plain (Entity u)) (a_value (Plain (String a)) no_values)) n l m =
      omega (arith, tag_held_high u a (facts.entity u) refl (both_within limit h.tagged (suc n) m).0, le-max_left h.tagged (suc n))
  applied_high GetTag _ n l m = omega arith
  applied_high (GetAttr a) (a_value v no_values) n l m = attribute_high a v n (first_high v no_values n l) m
  applied_high (GetAttr a) _ n l m = omega arith
  applied_high MakeSet vs n l m = omega (arith, rising_high vs n l, le-max_right 0 (suc n))
  applied_high (MakeRecord ks) vs n l m = omega (arith, l, le-max_right 0 (suc n))
  applied_high (Call f) vs n l m = by_function f (is_the_constructor f) refl (facts.function f) refl vs n l m
  applied_high o vs n l m = omega (arith, low (applied facts o vs) n (applied_plain facts o vs tt), le-max_right (read_height h o) (suc n))

  -- ---- answers

  abbrev grown_answers : Answers → ℕ
  grown_answers (AllEvaluated vs) = value_heights vs
  grown_answers (SomeResiduals rs) = all_grown h rs
  grown_answers (SomeFailed k) = 0

  answer_grows : (o : Outcome) (n : ℕ) → value_in o ≤ n → grown_answer h (answer_of o) ≤ n
  answer_grows (Gives v) n l = l
  answer_grows (Fails k) n l = l

  effort_grows : (p : Answer) (t : Tree) (n : ℕ) → grown_answer h p ≤ n → grown h t ≤ n → grown h (best_effort facts p t) ≤ n
  effort_grows (Evaluated v) t n l m = omega (arith, written_grows h facts v, l)
  effort_grows (ResidualTree r) t n l m = l
  effort_grows (Failed k) t n l m = m

  last_and_grows : (p : Answer) (n : ℕ) → grown_answer h p ≤ n → 1 ≤ n → grown_answer h (last_answer (And (Lit (Boolean true))) p) ≤ suc n
  last_and_grows (Evaluated (Plain (Boolean b))) n l m = omega arith
  last_and_grows (ResidualTree r) n l m = omega (arith, l, m)
  last_and_grows _ n l m = omega arith

  last_or_grows : (p : Answer) (n : ℕ) → grown_answer h p ≤ n → 1 ≤ n → grown_answer h (last_answer (Or (Lit (Boolean false))) p) ≤ suc n
  last_or_grows (Evaluated (Plain (Boolean b))) n l m = omega arith
  last_or_grows (ResidualTree r) n l m = omega (arith, l, m)
  last_or_grows _ n l m = omega arith

  and_grows : (p q : Answer) (t : Tree) (n : ℕ) → grown_answer h p ≤ n → grown_answer h q ≤ n → grown h t ≤ n → 1 ≤ n → grown_answer h (and_answer facts p q t) ≤ suc n
  and_grows (ResidualTree r) q t n a b c d = omega (arith, a, effort_grows q t n b c)
  and_grows (Evaluated (Plain (Boolean true))) q t n a b c d = last_and_grows q n b d
  and_grows _ q t n a b c d = omega arith

  or_grows : (p q : Answer) (t : Tree) (n : ℕ) → grown_answer h p ≤ n → grown_answer h q ≤ n → grown h t ≤ n → 1 ≤ n → grown_answer h (or_answer facts p q t) ≤ suc n
  or_grows (ResidualTree r) q t n a b c d = omega (arith, a, effort_grows q t n b c)
  or_grows (Evaluated (Plain (Boolean false))) q t n a b c d = last_or_grows q n b d
  or_grows _ q t n a b c d = omega arith

  if_grows : (p q s : Answer) (y z : Tree) (n : ℕ) → grown_answer h p ≤ n → grown_answer h q ≤ n → grown_answer h s ≤ n → grown h y ≤ n → grown h z ≤ n → grown_answer h (if_answer facts p q s y z) ≤ suc n
  if_grows (ResidualTree r) q s y z n a b c d e = omega (arith, a, effort_grows q y n b d, effort_grows s z n c e)
  if_grows (Evaluated (Plain (Boolean true))) q s y z n a b c d e = omega (arith, b)
  if_grows (Evaluated (Plain (Boolean false))) q s y z n a b c d e = omega (arith, c)
  if_grows _ q s y z n a b c d e = omega arith

  next_grows : (p : Answer) (ps : Answers) (n : ℕ) → grown_answer h p ≤ n → grown_answers ps ≤ n → grown_answers (and_next facts p ps) ≤ n
  next_grows (Evaluated v) (AllEvaluated vs) n a b = max-le a b
  next_grows (Evaluated v) (SomeResiduals rs) n a b = max-le (omega (arith, written_grows h facts v, a)) b
  next_grows (ResidualTree r) (AllEvaluated vs) n a b = max-le a (omega (arith, all_written_grow h facts vs, b))
  next_grows (ResidualTree r) (SomeResiduals rs) n a b = max-le a b
  next_grows _ _ n a b = omega arith

  built_grows : (o : Operator) (ps : Answers) (n : ℕ) → grown_answers ps ≤ n → max (read_height h o) (suc n) ≤ limit → grown_answer h (built_answer facts o ps) ≤ max (read_height h o) (suc n)
  built_grows o (AllEvaluated vs) n l m = answer_grows (applied facts o vs) _ (applied_high o vs n l m)
  built_grows o (SomeResiduals rs) n l m = max-le (le-max_left (read_height h o) (suc n)) (omega (arith, l, le-max_right (read_height h o) (suc n)))
  built_grows o (SomeFailed k) n l m = omega arith

  mutual
    pub projected_grows : (t : Tree) → grown h t ≤ limit → grown_answer h (projected_in facts holds t) ≤ grown h t
    projected_grows (Var v) m = within.variable v m
    projected_grows (Unknown n ty) m = within.unknown n ty
    projected_grows (Apply o ts) m =
        built_grows o (all_projected_in facts holds ts) (all_grown h ts) (all_projected_grow ts (below_within limit (read_height h o) (all_grown h ts) m)) m
    projected_grows _ m = omega arith

    pub all_projected_grow : (ts : Trees) → all_grown h ts ≤ limit → grown_answers (all_projected_in facts holds ts) ≤ all_grown h ts
    all_projected_grow no_trees m = omega arith
    all_projected_grow (a_tree t ts) m =
        next_grows (projected_in facts holds t) (all_projected_in facts holds ts) _
        (omega (arith, projected_grows t (both_within limit (grown h t) (all_grown h ts) m).0, le-max_left (grown h t) (all_grown h ts)))
        (omega (arith, all_projected_grow ts (both_within limit (grown h t) (all_grown h ts) m).1, le-max_right (grown h t) (all_grown h ts)))

  -- an entry of a record is lower
  abbrev grown_entry : Option Tree → ℕ
  grown_entry (Some t) = grown h t
  grown_entry None = 0

  entry_step : (b : Bool) (t : Tree) (o : Option Tree) (n : ℕ) → grown h t ≤ n → grown_entry o ≤ n → grown_entry (cond b (Some t) o) ≤ n
  entry_step true t o n a b = a
  entry_step false t o n a b = b

  entry_grows : (ks : List Text) (ts : Trees) (a : Text) → grown_entry (found_tree ks ts a) ≤ all_grown h ts
  entry_grows (k ∷ ks) (a_tree t ts) a =
      entry_step (same_text k a) t (found_tree ks ts a) _ (le-max_left (grown h t) (all_grown h ts)) (omega (arith, entry_grows ks ts a, le-max_right (grown h t) (all_grown h ts)))
  entry_grows _ _ a = omega arith

  entry_answer_grows : (a : Text) (r : Tree) (b : Bool) (o : Option Tree) → grown_entry o ≤ grown h r → grown h r ≤ limit → grown_answer h (entry_answer facts holds a r b o) ≤ max (h.held a) (suc (max (grown h r) 0))
  entry_answer_grows a r b None l m = omega arith
  entry_answer_grows a r true (Some t) l m = omega (arith, projected_grows t (omega arith), l, le-max_right (h.held a) (suc (max (grown h r) 0)), le-max_left (grown h r) 0)
  entry_answer_grows a r false (Some t) l m = omega arith

  record_entry_grows : (ks : List Text) (rs : Trees) (a : Text) → grown_entry (found_tree ks rs a) ≤ grown h (Apply (MakeRecord ks) rs)
  record_entry_grows ks rs a = omega (arith, entry_grows ks rs a, le-max_right 0 (suc (all_grown h rs)))

  has_entry_grows : (a : Text) (r : Tree) (b : Bool) (o : Option Tree) → grown_answer h (has_entry_answer a r b o) ≤ max 0 (suc (max (grown h r) 0))
  has_entry_grows a r true (Some t) = omega arith
  has_entry_grows a r _ _ = omega arith

  equal_left_grows : (b : Bool) (r s : Tree) → grown_answer h (equal_answer b r s) ≤ max 0 (suc (max (grown h r) (max (grown h s) 0)))
  equal_left_grows true r s = omega arith
  equal_left_grows false r s = omega arith

  left_grows : (o : Operator) (rs : Trees) → all_grown h rs ≤ limit → grown_answer h (residual_answer facts holds o rs) ≤ grown h (Apply o rs)
  left_grows (GetAttr a) (a_tree (Apply (MakeRecord ks) rs) no_trees) m =
      entry_answer_grows a (Apply (MakeRecord ks) rs) (are_projectable rs) (found_tree ks rs a) (record_entry_grows ks rs a) (both_within limit (grown h (Apply (MakeRecord ks) rs)) 0 m).0
  left_grows (GetAttr a) (a_tree r no_trees) m = omega arith
  left_grows (HasAttr a) (a_tree (Apply (MakeRecord ks) rs) no_trees) m = has_entry_grows a (Apply (MakeRecord ks) rs) (are_projectable rs) (found_tree ks rs a)
  left_grows (HasAttr a) (a_tree r no_trees) m = omega arith
  left_grows (tree.Is ty) (a_tree (Unknown n (Some (EntityType u))) no_trees) m = omega arith
  left_grows (tree.Is ty) (a_tree r no_trees) m = omega arith
  left_grows Equal (a_tree r (a_tree s no_trees)) m = equal_left_grows (types_differ (stated_type r) (stated_type s)) r s
  left_grows _ _ m = omega arith

  apply_grows : (o : Operator) (ps : Answers) (n : ℕ) → grown_answers ps ≤ n → max (read_height h o) (suc n) ≤ limit → grown_answer h (apply_answer facts holds o ps) ≤ max (read_height h o) (suc n)
  apply_grows o (AllEvaluated vs) n l m = answer_grows (applied facts o vs) _ (applied_high o vs n l m)
  apply_grows o (SomeResiduals rs) n l m =
      omega (arith, left_grows o rs (omega (arith, both_within limit (read_height h o) (suc n) m)), l, le-max_left (read_height h o) (suc n), le-max_right (read_height h o) (suc n))
  apply_grows o (SomeFailed k) n l m = omega arith

  pub some_grown : (t : Tree) → 1 ≤ grown h t
  some_grown (Var Principal) = within.some_named (codes "principal")
  some_grown (Var Action) = within.some_named (codes "action")
  some_grown (Var Resource) = within.some_named (codes "resource")
  some_grown (Var Context) = within.some_context
  some_grown (Unknown n ty) = within.some_named n
  some_grown (Apply o ts) = omega (arith, le-max_right (read_height h o) (suc (all_grown h ts)))
  some_grown _ = omega arith

  mutual
    -- what isn't written into stays as high
    pub height_grows : (t : Tree) → height t ≤ grown h t
    height_grows (Var v) = some_grown (Var v)
    height_grows (Unknown n ty) = within.some_named n
    height_grows (If a b c) = omega (arith, height_grows a, height_grows b, height_grows c)
    height_grows (And a b) = omega (arith, height_grows a, height_grows b)
    height_grows (Or a b) = omega (arith, height_grows a, height_grows b)
    height_grows (Apply o ts) = omega (arith, heights_grow ts, le-max_right (read_height h o) (suc (all_grown h ts)))
    height_grows _ = omega arith

    heights_grow : (ts : Trees) → heights ts ≤ all_grown h ts
    heights_grow no_trees = omega arith
    heights_grow (a_tree t ts) = omega (arith, height_grows t, heights_grow ts)

  mutual
    pub grows : (t : Tree) → grown h t ≤ limit → grown_answer h (partial_in facts holds t) ≤ grown h t
    grows (Lit l) m = omega arith
    grows (Var v) m = within.variable v m
    grows (Slot s) m = within.slot s
    grows (Unknown n ty) m = within.unknown n ty
    grows (If a b c) m =
        let (x, y, z) = three_within limit (grown h a) (grown h b) (grown h c) m in
        if_grows (partial_in facts holds a) (partial_in facts holds b) (partial_in facts holds c) b c (max (grown h a) (max (grown h b) (grown h c)))
        (omega (arith, grows a x)) (omega (arith, grows b y)) (omega (arith, grows c z)) (omega arith) (omega arith)
    grows (And a b) m =
        let (x, y) = both_within limit (grown h a) (grown h b) (omega arith) in
        and_grows (partial_in facts holds a) (partial_in facts holds b) b (max (grown h a) (grown h b)) (omega (arith, grows a x)) (omega (arith, grows b y)) (omega arith) (omega (arith, some_grown a))
    grows (Or a b) m =
        let (x, y) = both_within limit (grown h a) (grown h b) (omega arith) in
        or_grows (partial_in facts holds a) (partial_in facts holds b) b (max (grown h a) (grown h b)) (omega (arith, grows a x)) (omega (arith, grows b y)) (omega arith) (omega (arith, some_grown a))
    grows (Apply o ts) m = apply_grows o (all_partial_in facts holds ts) (all_grown h ts) (all_grow ts (below_within limit (read_height h o) (all_grown h ts) m)) m

    pub all_grow : (ts : Trees) → all_grown h ts ≤ limit → grown_answers (all_partial_in facts holds ts) ≤ all_grown h ts
    all_grow no_trees m = omega arith
    all_grow (a_tree t ts) m =
        next_grows (partial_in facts holds t) (all_partial_in facts holds ts) _
        (omega (arith, grows t (both_within limit (grown h t) (all_grown h ts) m).0, le-max_left (grown h t) (all_grown h ts)))
        (omega (arith, all_grow ts (both_within limit (grown h t) (all_grown h ts) m).1, le-max_right (grown h t) (all_grown h ts)))

pub answers_stay_within : AnswersStayWithin
answers_stay_within h limit facts holds within t m = grows h limit facts holds within t m
