-- How deep an evaluation nests where calls name unknowns.
use Rattle.std.proofs.Common.{◌≡◌, ◌≤◌, ℕ, suc, arith, refl, sym, ap, subst, inl, inr, Bool, true, false, ◌&&◌, ◌||◌, None}
use Rattle.std.specs.Prelude.{◌⊎◌}
use Rattle.cedar_language.specs.Uid.{Text, Name}
use Rattle.cedar_language.specs.Tree.{Literal, String, Operator, GetAttr, Call, Tree, Lit, Var, Slot, Unknown, If, And, Or, Apply, Trees, no_trees, a_tree}
use Rattle.cedar_language.specs.Facts.{Facts}
use Rattle.cedar_language.specs.Height.{height, heights}
use Rattle.cedar_language.specs.Order.{same_name}
use Rattle.cedar_partial_evaluation.specs.Partial.{Answer, Evaluated, ResidualTree, Failed, LeafAnswers, partial_in}
use Rattle.cedar_partial_evaluation.specs.ReadUnknowns.{unknown_function, unknown_or_call, read_call, read_unknowns, all_read, is_unknown_call, calls_unknown, some_calls_unknown, UnknownsAreRead}
use Rattle.cedar_interpreter.specs.Depths.{left_height, read_again, branch_depth, depth_behind, evaluation_depth, evaluation_depths}
use Rattle.cedar_interpreter.specs.Naming.{naming_again, naming_depth, naming_depths, naming_in, as_read, ArePlain, GivesTexts, NamesAreRead}
use Rattle.cedar_interpreter.proofs.Branches.{branch_read, behind_read}
use Rattle.cedar_interpreter.proofs.Naming.{none_left, none_right, first_none, last_none, without, reads, operands_plain, as_read_is}

-- ---- where nothing is named

module _ (naming : Bool) (facts : Facts) (holds : LeafAnswers) where
  again_without : (op : Operator) (ts : Trees) → (naming && some_calls_unknown ts) ≡ false → naming_again naming facts holds op ts ≡ read_again facts holds op ts
  again_without (GetAttr a) (a_tree t no_trees) h = ap left_height (without naming facts holds t (none_left naming (calls_unknown t) false h))
  again_without op ts h = refl

  mutual
    depth_without : (t : Tree) → (naming && calls_unknown t) ≡ false → naming_depth naming facts holds t ≡ evaluation_depth facts holds t
    depth_without (Lit l) h = refl
    depth_without (Var v) h = refl
    depth_without (Slot s) h = refl
    depth_without (Unknown n ty) h = refl
    depth_without (If t y n) h =
        let rest = none_right naming (calls_unknown t) (calls_unknown y || calls_unknown n) h in
        rw (without naming facts holds t (none_left naming (calls_unknown t) (calls_unknown y || calls_unknown n) h), depth_without t (none_left naming (calls_unknown t) (calls_unknown y || calls_unknown n) h), depth_without y (none_left naming (calls_unknown y) (calls_unknown n) rest), depth_without n (none_right naming (calls_unknown y) (calls_unknown n) rest)) refl
    depth_without (And l r) h = rw (without naming facts holds l (none_left naming (calls_unknown l) (calls_unknown r) h), depth_without l (none_left naming (calls_unknown l) (calls_unknown r) h), depth_without r (none_right naming (calls_unknown l) (calls_unknown r) h)) refl
    depth_without (Or l r) h = rw (without naming facts holds l (none_left naming (calls_unknown l) (calls_unknown r) h), depth_without l (none_left naming (calls_unknown l) (calls_unknown r) h), depth_without r (none_right naming (calls_unknown l) (calls_unknown r) h)) refl
    depth_without (Apply op ts) h =
        let inside = none_right naming (is_unknown_call op) (some_calls_unknown ts) h in
        rw (depths_without ts inside, again_without op ts inside) refl

    depths_without : (ts : Trees) → (naming && some_calls_unknown ts) ≡ false → naming_depths naming facts holds ts ≡ evaluation_depths facts holds ts
    depths_without no_trees h = refl
    depths_without (a_tree t ts) h = rw (without naming facts holds t (none_left naming (calls_unknown t) (some_calls_unknown ts) h), depth_without t (none_left naming (calls_unknown t) (some_calls_unknown ts) h), depths_without ts (none_right naming (calls_unknown t) (some_calls_unknown ts) h)) refl

-- ---- where calls are read as unknowns

-- a call on a literal is one level higher than the unknown
no_literal : (b : Bool) (f : Name) (t : Tree) (us : Trees) (l : Literal) → unknown_or_call b f t us ≡ Lit l → ⊥
no_literal true f (Lit (String n)) no_trees l h = cc
no_literal b f t us l h = cc

call_no_literal : (op : Operator) (us : Trees) (l : Literal) → read_call op us ≡ Lit l → ⊥
call_no_literal (Call f) (a_tree t us) l h = no_literal (same_name f unknown_function) f t us l h
call_no_literal op us l h = cc

was_literal : (t : Tree) (l : Literal) → read_unknowns t ≡ Lit l → t ≡ Lit l
was_literal (Lit m) l h = h
was_literal (Apply op ts) l h = absurd (call_no_literal op (all_read ts) l h)
was_literal t l h = cc

first_is : (t u : Tree) (ts us : Trees) → a_tree t ts ≡ a_tree u us → (t ≡ u) × (ts ≡ us)
first_is t u ts us h = (cc, cc)

was_one : (ts : Trees) (l : Literal) → all_read ts ≡ a_tree (Lit l) no_trees → ts ≡ a_tree (Lit l) no_trees
was_one no_trees l h = cc
was_one (a_tree t no_trees) l h = ap (λ u. a_tree u no_trees) (was_literal t l (first_is (read_unknowns t) (Lit l) no_trees no_trees h).0)
was_one (a_tree t (a_tree u us)) l h = let unmet : a_tree (read_unknowns u) (all_read us) ≡ no_trees = (first_is (read_unknowns t) (Lit l) (a_tree (read_unknowns u) (all_read us)) no_trees h).1 in cc

-- a call that is read, and one that stays
abbrev IsCallRead : Name → Trees → Tree → Type 0
IsCallRead f us r = ((n : Text) × (us ≡ a_tree (Lit (String n)) no_trees) × (r ≡ Unknown n None)) ⊎ (r ≡ Apply (Call f) us)

call_read : (b : Bool) (f : Name) (t : Tree) (us : Trees) → IsCallRead f (a_tree t us) (unknown_or_call b f t us)
call_read true f (Lit (String n)) no_trees = inl (n, refl, refl)
call_read b f t us = inr refl

-- how a construct is read: as the unknown that it names, or as the same construct
abbrev pub IsAppliedRead : Operator → Trees → Type 0
IsAppliedRead op us = ((f : Name) × (n : Text) × (us ≡ a_tree (Lit (String n)) no_trees) × (op ≡ Call f) × (read_call op us ≡ Unknown n None)) ⊎ (read_call op us ≡ Apply op us)

pub applied_read : (op : Operator) (us : Trees) → IsAppliedRead op us
applied_read (Call f) (a_tree t us) = here (call_read (same_name f unknown_function) f t us)
  where
    here : IsCallRead f (a_tree t us) (read_call (Call f) (a_tree t us)) → ((g : Name) × (n : Text) × (a_tree t us ≡ a_tree (Lit (String n)) no_trees) × (Call f ≡ Call g) × (read_call (Call f) (a_tree t us) ≡ Unknown n None)) ⊎ (read_call (Call f) (a_tree t us) ≡ Apply (Call f) (a_tree t us))
    here (inl (n, is, r)) = inl (f, n, is, refl, r)
    here (inr r) = inr r
applied_read op us = inr refl

construct_height : (op : Operator) (ts : Trees) → heights ts ≤ suc (heights (all_read ts)) → IsAppliedRead op (all_read ts) → height (Apply op ts) ≤ suc (height (read_call op (all_read ts)))
construct_height op ts low (inl (f, n, is, o, r)) = rw (r, was_one ts (String n) is) (omega arith)
construct_height op ts low (inr r) = rw r (omega (arith, low))

mutual
  height_read : (t : Tree) → height t ≤ suc (height (read_unknowns t))
  height_read (Lit l) = omega arith
  height_read (Var v) = omega arith
  height_read (Slot s) = omega arith
  height_read (Unknown n ty) = omega arith
  height_read (If t y n) = omega (arith, height_read t, height_read y, height_read n)
  height_read (And l r) = omega (arith, height_read l, height_read r)
  height_read (Or l r) = omega (arith, height_read l, height_read r)
  height_read (Apply op ts) = construct_height op ts (heights_read ts) (applied_read op (all_read ts))

  heights_read : (ts : Trees) → heights ts ≤ suc (heights (all_read ts))
  heights_read no_trees = omega arith
  heights_read (a_tree t ts) = omega (arith, height_read t, heights_read ts)

left_read : (a : Answer) → left_height a ≤ suc (left_height (as_read a))
left_read (Evaluated v) = omega arith
left_read (ResidualTree r) = height_read r
left_read (Failed k) = omega arith

module _ (unread : UnknownsAreRead) (facts : Facts) (holds : LeafAnswers) (gives : GivesTexts facts) (leaves : ArePlain holds) where
  is_read : (t : Tree) → calls_unknown (read_unknowns t) ≡ false → partial_in facts holds (read_unknowns t) ≡ as_read (naming_in true facts holds t)
  is_read t h = as_read_is unread _ _ (reads unread facts holds leaves gives t h)

  branch_at : (t : Tree) → calls_unknown (read_unknowns t) ≡ false → (met unmet more other : ℕ) → met ≤ suc more → unmet ≤ suc other →
      branch_depth (naming_in true facts holds t) met unmet ≤ suc (branch_depth (partial_in facts holds (read_unknowns t)) more other)
  branch_at t h met unmet more other k l = subst (λ (b : Answer). branch_depth (naming_in true facts holds t) met unmet ≤ suc (branch_depth b more other)) (sym (is_read t h)) (branch_read (naming_in true facts holds t) met unmet more other k l)

  behind_at : (t : Tree) → calls_unknown (read_unknowns t) ≡ false → (depth more : ℕ) → depth ≤ suc more →
      depth_behind (naming_in true facts holds t) depth ≤ suc (depth_behind (partial_in facts holds (read_unknowns t)) more)
  behind_at t h depth more k = subst (λ (b : Answer). depth_behind (naming_in true facts holds t) depth ≤ suc (depth_behind b more)) (sym (is_read t h)) (behind_read (naming_in true facts holds t) depth more k)

  again_read : (op : Operator) (ts : Trees) → some_calls_unknown (all_read ts) ≡ false → naming_again true facts holds op ts ≤ suc (read_again facts holds op (all_read ts))
  again_read (GetAttr a) (a_tree t no_trees) h =
      subst (λ b. left_height (naming_in true facts holds t) ≤ suc (left_height b)) (sym (is_read t (first_none (calls_unknown (read_unknowns t)) false h))) (left_read (naming_in true facts holds t))
  again_read op ts h = omega arith

  construct_depth : (op : Operator) (ts : Trees) → naming_depths true facts holds ts ≤ suc (evaluation_depths facts holds (all_read ts)) → naming_again true facts holds op ts ≤ suc (read_again facts holds op (all_read ts)) →
      IsAppliedRead op (all_read ts) → naming_depth true facts holds (Apply op ts) ≤ suc (evaluation_depth facts holds (read_call op (all_read ts)))
  construct_depth op ts low again (inl (f, n, is, o, r)) = rw (r, was_one ts (String n) is, o) (omega arith)
  construct_depth op ts low again (inr r) = rw r (omega (arith, low, again))

  mutual
    depth_read : (t : Tree) → calls_unknown (read_unknowns t) ≡ false → naming_depth true facts holds t ≤ suc (evaluation_depth facts holds (read_unknowns t))
    depth_read (Lit l) h = omega arith
    depth_read (Var v) h = omega arith
    depth_read (Slot s) h = omega arith
    depth_read (Unknown n ty) h = omega arith
    depth_read (If t y n) h =
        let rest = last_none (calls_unknown (read_unknowns t)) (calls_unknown (read_unknowns y) || calls_unknown (read_unknowns n)) h in
        omega (arith, depth_read t (first_none _ _ h), branch_at t (first_none _ _ h) (naming_depth true facts holds y) (naming_depth true facts holds n) (evaluation_depth facts holds (read_unknowns y)) (evaluation_depth facts holds (read_unknowns n)) (depth_read y (first_none _ _ rest)) (depth_read n (last_none _ _ rest)))
    depth_read (And l r) h = omega (arith, depth_read l (first_none _ _ h), branch_at l (first_none _ _ h) (naming_depth true facts holds r) 0 (evaluation_depth facts holds (read_unknowns r)) 0 (depth_read r (last_none _ _ h)) (omega arith))
    depth_read (Or l r) h = omega (arith, depth_read l (first_none _ _ h), branch_at l (first_none _ _ h) 0 (naming_depth true facts holds r) 0 (evaluation_depth facts holds (read_unknowns r)) (omega arith) (depth_read r (last_none _ _ h)))
    depth_read (Apply op ts) h =
        let inside = operands_plain unread facts holds leaves op (all_read ts) (is_unknown_call op) refl h in
        construct_depth op ts (depths_read ts inside) (again_read op ts inside) (applied_read op (all_read ts))

    depths_read : (ts : Trees) → some_calls_unknown (all_read ts) ≡ false → naming_depths true facts holds ts ≤ suc (evaluation_depths facts holds (all_read ts))
    depths_read no_trees h = omega arith
    depths_read (a_tree t ts) h = omega (arith, depth_read t (first_none _ _ h), behind_at t (first_none _ _ h) (naming_depths true facts holds ts) (evaluation_depths facts holds (all_read ts)) (depths_read ts (last_none _ _ h)))

pub names_are_read : UnknownsAreRead → NamesAreRead
names_are_read unread = record {
  without = λ naming facts holds t h. (without naming facts holds t h, depth_without naming facts holds t h);
  reads = λ facts holds gives leaves t h. (is_read unread facts holds gives leaves t h, depth_read unread facts holds gives leaves t h);
}
