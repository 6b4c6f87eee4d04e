-- Trees that call no unknown name none, and still don't with the entities of a link in the places of their slots.
use Rattle.std.proofs.Common.{◌≡◌, Bool, true, false, ◌&&◌, ◌||◌, not, Option, Some, None, refl}
use Rattle.cedar_language.specs.Uid.{Name, Uid}
use Rattle.cedar_language.specs.Tree.{SlotId, Variable, Operator, Call, Tree, Lit, Var, Slot, Unknown, If, And, Or, Apply, Trees, no_trees, a_tree}
use Rattle.cedar_language.specs.Slots.{Slots, bound_slot, bound_tree, bound_trees}
use Rattle.cedar_partial_evaluation.specs.Mentions.{mentions_only, all_mention_only}
use Rattle.cedar_partial_evaluation.specs.ReadUnknowns.{is_unknown_call, calls_unknown, some_calls_unknown}
use Rattle.cedar_grammar.specs.Calls.{calls_none_but, calls_only, all_call_only}
use Rattle.cedar_grammar.specs.Functions.{is_the_unknown}
use Rattle.cedar_evaluator.proofs.Lists.{and_left, and_right, and_both}
use Rattle.std.proofs.lemmas.Bool.{or_from as neither}
use Rattle.cedar_lemmas.proofs.Booleans.{not_is_true as not_so}

-- ---- no unknown stands in them

module _ (passes : Name → Bool) where
  mutual
    pub no_unknown : (t : Tree) → calls_only passes t ≡ true → mentions_only (λ v. true) true t ≡ true
    no_unknown (Lit l) h = refl
    no_unknown (Var v) h = refl
    no_unknown (Slot s) h = refl
    no_unknown (Unknown n ty) h = cc
    no_unknown (If t y n) h =
        let rest = and_right (calls_only passes t) (calls_only passes y && calls_only passes n) h in
        and_both (mentions_only (λ v. true) true t) _ (no_unknown t (and_left (calls_only passes t) _ h))
        (and_both (mentions_only (λ v. true) true y) _ (no_unknown y (and_left (calls_only passes y) _ rest)) (no_unknown n (and_right (calls_only passes y) _ rest)))
    no_unknown (And l r) h = and_both (mentions_only (λ v. true) true l) _ (no_unknown l (and_left (calls_only passes l) _ h)) (no_unknown r (and_right (calls_only passes l) _ h))
    no_unknown (Or l r) h = and_both (mentions_only (λ v. true) true l) _ (no_unknown l (and_left (calls_only passes l) _ h)) (no_unknown r (and_right (calls_only passes l) _ h))
    no_unknown (Apply op ts) h = no_unknowns ts (and_right (calls_none_but passes op) _ h)

    no_unknowns : (ts : Trees) → all_call_only passes ts ≡ true → all_mention_only (λ v. true) true ts ≡ true
    no_unknowns no_trees h = refl
    no_unknowns (a_tree t ts) h = and_both (mentions_only (λ v. true) true t) _ (no_unknown t (and_left (calls_only passes t) _ h)) (no_unknowns ts (and_right (calls_only passes t) _ h))

-- ---- no call names one

abbrev pub is_other : Name → Bool
is_other name = not (is_the_unknown name)

other_call : (op : Operator) → calls_none_but is_other op ≡ true → is_unknown_call op ≡ false
other_call (Call f) h = not_so (is_the_unknown f) h
other_call _ h = refl

mutual
  pub no_call : (t : Tree) → calls_only is_other t ≡ true → calls_unknown t ≡ false
  no_call (Lit l) h = refl
  no_call (Var v) h = refl
  no_call (Slot s) h = refl
  no_call (Unknown n ty) h = cc
  no_call (If t y n) h =
      let rest = and_right (calls_only is_other t) (calls_only is_other y && calls_only is_other n) h in
      neither (calls_unknown t) _ (no_call t (and_left (calls_only is_other t) _ h))
      (neither (calls_unknown y) _ (no_call y (and_left (calls_only is_other y) _ rest)) (no_call n (and_right (calls_only is_other y) _ rest)))
  no_call (And l r) h = neither (calls_unknown l) _ (no_call l (and_left (calls_only is_other l) _ h)) (no_call r (and_right (calls_only is_other l) _ h))
  no_call (Or l r) h = neither (calls_unknown l) _ (no_call l (and_left (calls_only is_other l) _ h)) (no_call r (and_right (calls_only is_other l) _ h))
  no_call (Apply op ts) h = neither (is_unknown_call op) _ (other_call op (and_left (calls_none_but is_other op) _ h)) (no_calls ts (and_right (calls_none_but is_other op) _ h))

  no_calls : (ts : Trees) → all_call_only is_other ts ≡ true → some_calls_unknown ts ≡ false
  no_calls no_trees h = refl
  no_calls (a_tree t ts) h = neither (calls_unknown t) _ (no_call t (and_left (calls_only is_other t) _ h)) (no_calls ts (and_right (calls_only is_other t) _ h))

-- ---- entities in the places of slots

module _ (f : Variable → Bool) (b : Slots) where
  slot_mentions : (s : SlotId) (o : Option Uid) → mentions_only f true (bound_slot s o) ≡ true
  slot_mentions s (Some u) = refl
  slot_mentions s None = refl

  mutual
    pub bound_mentions : (t : Tree) → mentions_only f true (bound_tree b t) ≡ mentions_only f true t
    bound_mentions (Lit l) = refl
    bound_mentions (Var v) = refl
    bound_mentions (Slot s) = slot_mentions s (b s)
    bound_mentions (Unknown n ty) = refl
    bound_mentions (If t y n) = λ i. bound_mentions t i && (bound_mentions y i && bound_mentions n i)
    bound_mentions (And l r) = λ i. bound_mentions l i && bound_mentions r i
    bound_mentions (Or l r) = λ i. bound_mentions l i && bound_mentions r i
    bound_mentions (Apply op ts) = all_bound_mention ts

    all_bound_mention : (ts : Trees) → all_mention_only f true (bound_trees b ts) ≡ all_mention_only f true ts
    all_bound_mention no_trees = refl
    all_bound_mention (a_tree t ts) = λ i. bound_mentions t i && all_bound_mention ts i
