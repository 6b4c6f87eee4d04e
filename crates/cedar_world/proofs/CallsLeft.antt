-- What is left of a tree calls functions whose names pass, and errs finely, where its leaves and operators do.
use Rattle.std.proofs.Common.{◌≡◌, ℕ, Bool, true, false, cond, ◌&&◌, Option, Some, None, List, [], ◌∷◌, refl}
use Rattle.std.proofs.lemmas.Bool.{and_from, and_parts}
use Rattle.cedar_language.specs.Uid.{Text, Name}
use Rattle.cedar_language.specs.Tree.{Boolean, EntityType, Operator, Equal, GetAttr, HasAttr, MakeRecord, Variable, SlotId, ValueType, Tree, Lit, Var, Slot, Unknown, If, And, Or, Apply, Trees, no_trees, a_tree}
use Rattle.cedar_language.specs.Tree as tree
use Rattle.cedar_language.specs.Value.{Value, Plain, SetOf, RecordOf, ExtensionOf, Values, no_values, a_value, Kind, TypeError, RecordAttrDoesNotExist}
use Rattle.cedar_language.specs.Constructing.{the_constructor, longs_of}
use Rattle.cedar_language.specs.Order.{same_text}
use Rattle.cedar_language.specs.Facts.{Facts}
use Rattle.cedar_language.specs.Operators as operators
use Rattle.cedar_partial_evaluation.specs.MadeAgain.{tree_of, trees_of}
use Rattle.cedar_partial_evaluation.specs.Partial.{Answer, Evaluated, ResidualTree, Failed, Answers, AllEvaluated, SomeResiduals, SomeFailed, answer_of, best_effort, last_answer, and_answer, or_answer, if_answer, and_next, are_projectable, LeafAnswers, built_answer, projected_in, all_projected_in, found_tree, entry_answer, has_entry_answer, stated_type, types_differ, equal_answer, residual_answer, apply_answer, partial_in, all_partial_in}
use Rattle.cedar_grammar.specs.Calls.{calls_none_but}
use Rattle.cedar_world.specs.Lookups.{calls_among, all_call_among}

-- any error is fine
abbrev pub AnyKind : Kind → Type 0
AnyKind k = Unit {0}

module _ (slots : Bool) (passes : Name → Bool) (IsFine : Kind → Type 0) where
  -- what is left calls what passes, and holds slots only where these may stand; an error is fine
  abbrev pub IsKept : Answer → Type 0
  IsKept (Evaluated v) = Unit {0}
  IsKept (ResidualTree t) = calls_among slots passes t ≡ true
  IsKept (Failed k) = IsFine k

  abbrev pub AreKept : Answers → Type 0
  AreKept (AllEvaluated vs) = Unit {0}
  AreKept (SomeResiduals rs) = all_call_among slots passes rs ≡ true
  AreKept (SomeFailed k) = IsFine k

  -- the tree, where there is one, calls what passes
  abbrev Passes : Option Tree → Type 0
  Passes (Some t) = calls_among slots passes t ≡ true
  Passes None = Unit {0}

  -- what brings in calls and errors besides those of leaves
  pub record Keeps (facts : Facts) : Type 0 where
    pub constructs : passes the_constructor ≡ true
    pub type_error : IsFine TypeError
    pub no_attribute : IsFine RecordAttrDoesNotExist
    pub applied : (o : Operator) (vs : Values) → calls_none_but passes o ≡ true → IsKept (answer_of (operators.applied facts o vs))

  pub record AreKeptLeaves (holds : LeafAnswers) : Type 0 where
    pub variable : (v : Variable) → IsKept (holds.variable v)
    pub unknown : (n : Text) (ty : Option ValueType) → IsKept (holds.unknown n ty)
    pub slot : slots ≡ true → (s : SlotId) → IsKept (holds.slot s)

  found_step : (b : Bool) (t : Tree) (o : Option Tree) → calls_among slots passes t ≡ true → Passes o → Passes (cond b (Some t) o)
  found_step true t o h k = h
  found_step false t o h k = k

  found_passes : (ks : List Text) (ts : Trees) (a : Text) → all_call_among slots passes ts ≡ true → Passes (found_tree ks ts a)
  found_passes (k ∷ ks) (a_tree t ts) a h =
      let (ht, hts) = and_parts (calls_among slots passes t) (all_call_among slots passes ts) h in
      found_step (same_text k a) t (found_tree ks ts a) ht (found_passes ks ts a hts)
  found_passes _ _ a h = tt

  longs_pass : (bs : List ℕ) → all_call_among slots passes (longs_of bs) ≡ true
  longs_pass [] = refl
  longs_pass (b ∷ bs) = longs_pass bs

  module _ (facts : Facts) (keeps : Keeps facts) where
    mutual
      pub value_passes : (v : Value) → calls_among slots passes (tree_of facts v) ≡ true
      value_passes (Plain l) = refl
      value_passes (SetOf vs) = values_pass vs
      value_passes (RecordOf ks vs) = values_pass vs
      value_passes (ExtensionOf e) = and_from (passes the_constructor) (all_call_among slots passes (longs_of e.key)) keeps.constructs (longs_pass e.key)

      values_pass : (vs : Values) → all_call_among slots passes (trees_of facts vs) ≡ true
      values_pass no_values = refl
      values_pass (a_value v vs) = and_from (calls_among slots passes (tree_of facts v)) (all_call_among slots passes (trees_of facts vs)) (value_passes v) (values_pass vs)

    best_effort_passes : (p : Answer) (t : Tree) → IsKept p → calls_among slots passes t ≡ true → calls_among slots passes (best_effort facts p t) ≡ true
    best_effort_passes (Evaluated v) t h i = value_passes v
    best_effort_passes (ResidualTree r) t h i = h
    best_effort_passes (Failed k) t h i = i

    and_last_kept : (q : Answer) → IsKept q → IsKept (last_answer (And (Lit (Boolean true))) q)
    and_last_kept (Evaluated (Plain (Boolean b))) h = tt
    and_last_kept (Evaluated _) h = keeps.type_error
    and_last_kept _ h = h

    or_last_kept : (q : Answer) → IsKept q → IsKept (last_answer (Or (Lit (Boolean false))) q)
    or_last_kept (Evaluated (Plain (Boolean b))) h = tt
    or_last_kept (Evaluated _) h = keeps.type_error
    or_last_kept _ h = h

    pub and_kept : (p q : Answer) (r : Tree) → IsKept p → IsKept q → calls_among slots passes r ≡ true → IsKept (and_answer facts p q r)
    and_kept (ResidualTree s) q r h i j = and_from (calls_among slots passes s) (calls_among slots passes (best_effort facts q r)) h (best_effort_passes q r i j)
    and_kept (Evaluated (Plain (Boolean true))) q r h i j = and_last_kept q i
    and_kept (Evaluated (Plain (Boolean false))) q r h i j = tt
    and_kept (Evaluated _) q r h i j = keeps.type_error
    and_kept (Failed k) q r h i j = h

    or_kept : (p q : Answer) (r : Tree) → IsKept p → IsKept q → calls_among slots passes r ≡ true → IsKept (or_answer facts p q r)
    or_kept (ResidualTree s) q r h i j = and_from (calls_among slots passes s) (calls_among slots passes (best_effort facts q r)) h (best_effort_passes q r i j)
    or_kept (Evaluated (Plain (Boolean false))) q r h i j = or_last_kept q i
    or_kept (Evaluated (Plain (Boolean true))) q r h i j = tt
    or_kept (Evaluated _) q r h i j = keeps.type_error
    or_kept (Failed k) q r h i j = h

    if_kept : (p q s : Answer) (y n : Tree) → IsKept p → IsKept q → IsKept s → calls_among slots passes y ≡ true → calls_among slots passes n ≡ true → IsKept (if_answer facts p q s y n)
    if_kept (ResidualTree r) q s y n h i j k l =
        and_from (calls_among slots passes r) (calls_among slots passes (best_effort facts q y) && calls_among slots passes (best_effort facts s n)) h
        (and_from (calls_among slots passes (best_effort facts q y)) (calls_among slots passes (best_effort facts s n)) (best_effort_passes q y i k) (best_effort_passes s n j l))
    if_kept (Evaluated (Plain (Boolean true))) q s y n h i j k l = i
    if_kept (Evaluated (Plain (Boolean false))) q s y n h i j k l = j
    if_kept (Evaluated _) q s y n h i j k l = keeps.type_error
    if_kept (Failed e) q s y n h i j k l = h

    next_kept : (p : Answer) (ps : Answers) → IsKept p → AreKept ps → AreKept (and_next facts p ps)
    next_kept (Failed k) ps h i = h
    next_kept (Evaluated v) (AllEvaluated vs) h i = tt
    next_kept (Evaluated v) (SomeResiduals rs) h i = and_from (calls_among slots passes (tree_of facts v)) (all_call_among slots passes rs) (value_passes v) i
    next_kept (ResidualTree r) (AllEvaluated vs) h i = and_from (calls_among slots passes r) (all_call_among slots passes (trees_of facts vs)) h (values_pass vs)
    next_kept (ResidualTree r) (SomeResiduals rs) h i = and_from (calls_among slots passes r) (all_call_among slots passes rs) h i
    next_kept _ (SomeFailed k) h i = i

    module _ (holds : LeafAnswers) (leaves : AreKeptLeaves holds) where
      built_kept : (o : Operator) (ps : Answers) → calls_none_but passes o ≡ true → AreKept ps → IsKept (built_answer facts o ps)
      built_kept o (AllEvaluated vs) c h = keeps.applied o vs c
      built_kept o (SomeResiduals rs) c h = and_from (calls_none_but passes o) (all_call_among slots passes rs) c h
      built_kept o (SomeFailed k) c h = h

      mutual
        projected_kept : (t : Tree) → calls_among slots passes t ≡ true → IsKept (projected_in facts holds t)
        projected_kept (Lit l) h = tt
        projected_kept (Var v) h = leaves.variable v
        projected_kept (Unknown n ty) h = leaves.unknown n ty
        projected_kept (Apply o ts) h =
            let (c, i) = and_parts (calls_none_but passes o) (all_call_among slots passes ts) h in
            built_kept o (all_projected_in facts holds ts) c (all_projected_kept ts i)
        projected_kept _ h = h

        all_projected_kept : (ts : Trees) → all_call_among slots passes ts ≡ true → AreKept (all_projected_in facts holds ts)
        all_projected_kept no_trees h = tt
        all_projected_kept (a_tree t ts) h =
            let (ht, hts) = and_parts (calls_among slots passes t) (all_call_among slots passes ts) h in
            next_kept (projected_in facts holds t) (all_projected_in facts holds ts) (projected_kept t ht) (all_projected_kept ts hts)

      entry_kept : (a : Text) (r : Tree) (b : Bool) (o : Option Tree) → all_call_among slots passes (a_tree r no_trees) ≡ true → Passes o → IsKept (entry_answer facts holds a r b o)
      entry_kept a r b None h i = keeps.no_attribute
      entry_kept a r true (Some t) h i = projected_kept t i
      entry_kept a r false (Some t) h i = h

      has_entry_kept : (a : Text) (r : Tree) (b : Bool) (o : Option Tree) → all_call_among slots passes (a_tree r no_trees) ≡ true → IsKept (has_entry_answer a r b o)
      has_entry_kept a r true (Some t) h = tt
      has_entry_kept a r true None h = tt
      has_entry_kept a r false o h = h

      equal_kept : (b : Bool) (r s : Tree) → all_call_among slots passes (a_tree r (a_tree s no_trees)) ≡ true → IsKept (equal_answer b r s)
      equal_kept true r s h = tt
      equal_kept false r s h = h

      left_kept : (o : Operator) (rs : Trees) → calls_none_but passes o ≡ true → all_call_among slots passes rs ≡ true → IsKept (residual_answer facts holds o rs)
      left_kept (GetAttr a) (a_tree (Apply (MakeRecord ks) rs) no_trees) c h =
          let there = (and_parts (all_call_among slots passes rs) true h).0 in
          entry_kept a (Apply (MakeRecord ks) rs) (are_projectable rs) (found_tree ks rs a) h (found_passes ks rs a there)
      left_kept (GetAttr a) (a_tree r no_trees) c h = h
      left_kept (HasAttr a) (a_tree (Apply (MakeRecord ks) rs) no_trees) c h = has_entry_kept a (Apply (MakeRecord ks) rs) (are_projectable rs) (found_tree ks rs a) h
      left_kept (HasAttr a) (a_tree r no_trees) c h = h
      left_kept (tree.Is ty) (a_tree (Unknown n (Some (EntityType u))) no_trees) c h = tt
      left_kept (tree.Is ty) (a_tree r no_trees) c h = h
      left_kept Equal (a_tree r (a_tree s no_trees)) c h = equal_kept (types_differ (stated_type r) (stated_type s)) r s h
      left_kept o rs c h = and_from (calls_none_but passes o) (all_call_among slots passes rs) c h

      apply_kept : (o : Operator) (ps : Answers) → calls_none_but passes o ≡ true → AreKept ps → IsKept (apply_answer facts holds o ps)
      apply_kept o (AllEvaluated vs) c h = keeps.applied o vs c
      apply_kept o (SomeResiduals rs) c h = left_kept o rs c h
      apply_kept o (SomeFailed k) c h = h

      mutual
        pub kept : (t : Tree) → calls_among slots passes t ≡ true → IsKept (partial_in facts holds t)
        kept (Lit l) h = tt
        kept (Var v) h = leaves.variable v
        kept (Slot s) h = leaves.slot h s
        kept (Unknown n ty) h = leaves.unknown n ty
        kept (If t y n) h =
            let (ht, rest) = and_parts (calls_among slots passes t) (calls_among slots passes y && calls_among slots passes n) h in
            let (hy, hn) = and_parts (calls_among slots passes y) (calls_among slots passes n) rest in
            if_kept (partial_in facts holds t) (partial_in facts holds y) (partial_in facts holds n) y n (kept t ht) (kept y hy) (kept n hn) hy hn
        kept (And l r) h =
            let (hl, hr) = and_parts (calls_among slots passes l) (calls_among slots passes r) h in
            and_kept (partial_in facts holds l) (partial_in facts holds r) r (kept l hl) (kept r hr) hr
        kept (Or l r) h =
            let (hl, hr) = and_parts (calls_among slots passes l) (calls_among slots passes r) h in
            or_kept (partial_in facts holds l) (partial_in facts holds r) r (kept l hl) (kept r hr) hr
        kept (Apply o ts) h =
            let (c, i) = and_parts (calls_none_but passes o) (all_call_among slots passes ts) h in
            apply_kept o (all_partial_in facts holds ts) c (all_kept ts i)

        all_kept : (ts : Trees) → all_call_among slots passes ts ≡ true → AreKept (all_partial_in facts holds ts)
        all_kept no_trees h = tt
        all_kept (a_tree t ts) h =
            let (ht, hts) = and_parts (calls_among slots passes t) (all_call_among slots passes ts) h in
            next_kept (partial_in facts holds t) (all_partial_in facts holds ts) (kept t ht) (all_kept ts hts)
