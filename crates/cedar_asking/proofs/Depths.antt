-- How deep evaluations nest, by how high a tree may grow; and how high data is with what is told in the places of its unknowns.
use Rattle.std.proofs.Common.{◌≡◌, ◌≤◌, ℕ, suc, max, Bool, true, false, ◌&&◌, Option, Some, None, List, [], ◌∷◌, refl, sym, subst, arith}
use Rattle.std.proofs.Math.Nat.{le-max_left, le-max_right, max-le}
use Rattle.std.specs.declared.alloc.Global.{Global}
use Rattle.std.specs.declared.rc.RcStr.{RcStr}
use Rattle.cedar_grammar.specs.Build.{Keyed}
use Rattle.cedar_grammar.specs.Policy.{condition}
use Rattle.cedar_language.specs.Answering.{Effect}
use Rattle.cedar_language.specs.Constructing.{longs_of}
use Rattle.cedar_language.specs.Facts.{Facts}
use Rattle.cedar_language.specs.Height.{height, heights}
use Rattle.cedar_language.specs.Restricted.{is_restricted, are_restricted}
use Rattle.cedar_language.specs.Tree.{ValueType, Boolean, Long, String, Entity, GetAttr, MakeSet, MakeRecord, Call, Variable, SlotId, Operator, Tree, Lit, Var, Slot, Unknown, If, And, Or, Apply, Trees, no_trees, a_tree}
use Rattle.cedar_language.specs.Uid.{Text}
use Rattle.cedar_language.specs.Value.{Value, Plain, SetOf, RecordOf, ExtensionOf, Values, no_values, a_value}
use Rattle.cedar_partial_evaluation.specs.Partial.{Answer, Evaluated, ResidualTree, Failed, LeafAnswers, partial_in}
use Rattle.cedar_world.specs.Heights.{value_height, value_heights, Heights, variable_height, read_height, grown, all_grown, grown_answer, AreWithin, told_height}
use Rattle.cedar_world.proofs.Grown.{both_within, below_within, three_within, some_grown, height_grows, grows}
use Rattle.cedar_interpreter.specs.Depths.{left_height, read_again, evaluation_depth, evaluation_depths}
use Rattle.cedar_interpreter.proofs.Branches.{branch_low, behind_low}
use Rattle.cedar_restricted.specs.Expressing.{Expresses, ExpressAll}
use Rattle.cedar_restricted.specs.Laws.{WrittenValuesAreGround, GroundTreesAreRestricted}
use Rattle.cedar_substitution.specs.Told.{told_for}
use Rattle.cedar_substitution.specs.Typed.{StandsFor, Tells, SubstitutesValues}
use Rattle.cedar_requests.proofs.PutIn.{put_in, all_put_in, substituted_is}
use Rattle.cedar_evaluator.specs.Evaluations.{Found, Satisfied, Unsatisfied, Erred, Open, Finds}
use Rattle.cedar_evaluator.specs.Residuals.{clause_policy}
use Rattle.cedar_evaluator.proofs.Taken.{clause_of}

-- ---- evaluations

-- the same leaves with other slots
pub other_slots : (h : Heights) (limit : ℕ) (facts : Facts) (a b : LeafAnswers) → AreWithin h limit facts a → ((v : Variable) → a.variable v ≡ b.variable v) → ((n : Text) (ty : Option ValueType) → a.unknown n ty ≡ b.unknown n ty)
    → ((s : SlotId) → grown_answer h (b.slot s) ≤ 1) → AreWithin h limit facts b
other_slots h limit facts a b within variable unknown slot = record {
  some_named = within.some_named;
  some_context = within.some_context;
  variable = λ v low. subst (λ (x : Answer). grown_answer h x ≤ variable_height h v) (variable v) (within.variable v low);
  unknown = λ n ty. subst (λ (x : Answer). grown_answer h x ≤ h.named n) (unknown n ty) (within.unknown n ty);
  slot = slot;
  attribute = within.attribute;
  tag = within.tag;
  constructor = within.constructor;
  function = within.function;
}

module _ (h : Heights) (limit : ℕ) (facts : Facts) (holds : LeafAnswers) (within : AreWithin h limit facts holds) where
  left_grows : (b : Answer) → left_height b ≤ grown_answer h b
  left_grows (Evaluated v) = omega arith
  left_grows (ResidualTree r) = height_grows h limit facts holds within r
  left_grows (Failed k) = omega arith

  again_grows : (op : Operator) (ts : Trees) → all_grown h ts ≤ limit → read_again facts holds op ts ≤ all_grown h ts
  again_grows (GetAttr a) (a_tree t no_trees) m =
      omega (arith, left_grows (partial_in facts holds t), grows h limit facts holds within t (both_within limit (grown h t) 0 m).0, le-max_left (grown h t) 0)
  again_grows _ _ m = omega arith

  mutual
    -- an evaluation nests no deeper than its tree may grow, where that is within the limit
    pub depth_grows : (t : Tree) → grown h t ≤ limit → evaluation_depth facts holds t ≤ grown h t
    depth_grows (Lit l) m = omega arith
    depth_grows (Var v) m = some_grown h limit facts holds within (Var v)
    depth_grows (Slot s) m = omega arith
    depth_grows (Unknown n ty) m = within.some_named n
    depth_grows (If t y n) m =
        let (low, then, other) = three_within limit (grown h t) (grown h y) (grown h n) m in
        omega (arith, depth_grows t low, depth_grows y then, depth_grows n other, branch_low (partial_in facts holds t) (evaluation_depth facts holds y) (evaluation_depth facts holds n))
    depth_grows (And l r) m =
        let (left, right) = both_within limit (grown h l) (grown h r) (omega arith) in
        omega (arith, depth_grows l left, depth_grows r right, branch_low (partial_in facts holds l) (evaluation_depth facts holds r) 0)
    depth_grows (Or l r) m =
        let (left, right) = both_within limit (grown h l) (grown h r) (omega arith) in
        omega (arith, depth_grows l left, depth_grows r right, branch_low (partial_in facts holds l) 0 (evaluation_depth facts holds r))
    depth_grows (Apply op ts) m =
        let low = below_within limit (read_height h op) (all_grown h ts) m in
        omega (arith, depths_grow ts low, again_grows op ts low, le-max_right (read_height h op) (suc (all_grown h ts)))

    depths_grow : (ts : Trees) → all_grown h ts ≤ limit → evaluation_depths facts holds ts ≤ all_grown h ts
    depths_grow no_trees m = omega arith
    depths_grow (a_tree t ts) m =
        let (first, rest) = both_within limit (grown h t) (all_grown h ts) m in
        omega (arith, depth_grows t first, depths_grow ts rest, behind_low (partial_in facts holds t) (evaluation_depths facts holds ts))

  -- ---- what is taken up again

  two_high : (t : Tree) → grown h (And (Lit (Boolean true)) t) ≤ suc (grown h t)
  two_high t = omega (arith, some_grown h limit facts holds within t)

  -- a policy of this one clause grows by one level
  pub clause_grows : (effect : Effect) (annotations : List (Keyed Text)) (c : Tree) → grown h (condition (clause_policy effect c annotations)) ≤ suc (grown h c)
  clause_grows effect annotations (Lit (Boolean b)) = omega arith
  clause_grows effect annotations (Lit (Long n)) = two_high (Lit (Long n))
  clause_grows effect annotations (Lit (String s)) = two_high (Lit (String s))
  clause_grows effect annotations (Lit (Entity u)) = two_high (Lit (Entity u))
  clause_grows effect annotations (Var v) = two_high (Var v)
  clause_grows effect annotations (Slot s) = two_high (Slot s)
  clause_grows effect annotations (Unknown n ty) = two_high (Unknown n ty)
  clause_grows effect annotations (If t y n) = two_high (If t y n)
  clause_grows effect annotations (And l r) = two_high (And l r)
  clause_grows effect annotations (Or l r) = two_high (Or l r)
  clause_grows effect annotations (Apply op ts) = two_high (Apply op ts)

-- what was found of a policy leaves no more than what it was found by
pub found_grows : (h : Heights) (b : Answer) (f : Found) (n : ℕ) → Finds b f → grown_answer h b ≤ n → 1 ≤ n → grown h (clause_of f) ≤ n
found_grows h b Satisfied n is l m = m
found_grows h b Unsatisfied n is l m = m
found_grows h b (Erred f) n is l m = m
found_grows h b (Open r) n is l m = subst (λ (x : Answer). grown_answer h x ≤ n) is l

-- ---- values as they are written

longs_low : (bs : List ℕ) → heights (longs_of bs) ≤ 1
longs_low [] = omega arith
longs_low (b ∷ bs) = max-le (omega arith) (longs_low bs)

construction_low : (bs : List ℕ) → suc (max 1 (max 1 (heights (longs_of bs)))) ≤ 2
construction_low bs = omega (arith, longs_low bs)

mutual
  expressed_low : (v : Value) (t : Tree) → Expresses v t → height t ≤ value_height v
  expressed_low (Plain l) t is = subst (λ (x : Tree). height x ≤ 1) (sym is) (omega arith)
  expressed_low (SetOf vs) t (ts, is, all) = subst (λ (x : Tree). height x ≤ suc (value_heights vs)) (sym is) (omega (arith, all_expressed_low vs ts all))
  expressed_low (RecordOf ks vs) t (ts, is, all) = subst (λ (x : Tree). height x ≤ suc (value_heights vs)) (sym is) (omega (arith, all_expressed_low vs ts all))
  expressed_low (ExtensionOf e) t is = subst (λ (x : Tree). height x ≤ 2) (sym is) (construction_low e.key)

  all_expressed_low : (vs : Values) (ts : Trees) → ExpressAll vs ts → heights ts ≤ value_heights vs
  all_expressed_low no_values no_trees all = omega arith
  all_expressed_low no_values (a_tree t ts) all = absurd all
  all_expressed_low (a_value v vs) no_trees all = absurd all
  all_expressed_low (a_value v vs) (a_tree t ts) all = omega (arith, expressed_low v t all.0, all_expressed_low vs ts all.1)

-- ---- data with what is told in the places of its unknowns

module _ (h : Heights) (some_named : (n : Text) → 1 ≤ h.named n) (told : List (RcStr Global × Value)) (named : (n : Text) → told_height (told_for told n) ≤ h.named n) where
  stands_low : (o : Option Value) (n : Text) (ty : Option ValueType) (t : Tree) → told_height o ≤ h.named n → StandsFor o n ty t → height t ≤ h.named n
  stands_low None n ty t l is = subst (λ (x : Tree). height x ≤ h.named n) (sym is) l
  stands_low (Some v) n ty t l is = omega (arith, expressed_low v t is, l)

  module _ (f : Text → Option ValueType → Tree) (tells : Tells told f) where
    mutual
      put_low : (t : Tree) → is_restricted t ≡ true → height (put_in f t) ≤ grown h t
      put_low (Lit l) d = omega arith
      put_low (Unknown n ty) d = stands_low (told_for told n) n ty (f n ty) (named n) (tells n ty)
      put_low (Apply MakeSet ts) d = omega (arith, each_put_low ts d, le-max_right (read_height h MakeSet) (suc (all_grown h ts)))
      put_low (Apply (MakeRecord ks) ts) d = omega (arith, each_put_low ts d, le-max_right (read_height h (MakeRecord ks)) (suc (all_grown h ts)))
      put_low (Apply (Call g) ts) d = omega (arith, each_put_low ts d, le-max_right (read_height h (Call g)) (suc (all_grown h ts)))
      put_low t d = cc

      each_put_low : (ts : Trees) → are_restricted ts ≡ true → heights (all_put_in f ts) ≤ all_grown h ts
      each_put_low no_trees d = omega arith
      each_put_low (a_tree t ts) d = omega (arith, put_low t (first_true _ _ d), each_put_low ts (second_true _ _ d))
        where
          first_true : (a b : Bool) → (a && b) ≡ true → a ≡ true
          first_true true b e = refl
          first_true false b e = e

          second_true : (a b : Bool) → (a && b) ≡ true → b ≡ true
          second_true true b e = e
          second_true false b e = cc

  pub substituted_low : WrittenValuesAreGround → GroundTreesAreRestricted → (t u : Tree) → is_restricted t ≡ true → SubstitutesValues told t u → height u ≤ grown h t
  substituted_low written ground t u d (f, tells, is) =
      subst (λ (x : Tree). height x ≤ grown h t) (sym (substituted_is written ground told f tells t u d is.rising is.made)) (put_low f tells t d)
