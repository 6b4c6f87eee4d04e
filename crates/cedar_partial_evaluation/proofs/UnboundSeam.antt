-- What later values settle of residuals without slots.
use Rattle.std.proofs.Common.{◌≡◌, ◌⊎◌, true, false, not, Option, Some, List, refl, sym, ap, subst, inl, inr, ◌∙◌}
use Rattle.cedar_language.specs.Uid.{Name}
use Rattle.cedar_language.specs.Tree.{Boolean, Context, Operator, Equal, GetAttr, HasAttr, Tree, Lit, Var, Slot, Unknown, If, And, Or, Apply, Trees, no_trees, a_tree}
use Rattle.cedar_language.specs.Tree as tree
use Rattle.cedar_language.specs.Value.{Plain, no_values, UnlinkedSlot}
use Rattle.cedar_language.specs.Order.{same_name}
use Rattle.cedar_language.specs.Facts.{Facts}
use Rattle.cedar_language.specs.Meaning.{Slots, slot_outcome, meaning}
use Rattle.cedar_partial_evaluation.specs.Settling.{Settling, Open, Errs, Is, Settlings, SomeErrs, kindless, boolean, and_settled, or_settled, if_settled, and_more, Below, apply_settled, LeafSettlings, or_entry, stated_in, or_type, settled_in, all_settled_in, types_in}
use Rattle.cedar_partial_evaluation.specs.MadeAgain.{HoldsMade}
use Rattle.cedar_partial_evaluation.specs.Partial.{Answer, ResidualTree, Failed, Answers, AllEvaluated, answer_of, and_next, LeafAnswers, residual_answer, apply_answer, partial_in}
use Rattle.cedar_partial_evaluation.specs.Fair.{read, AreMadeLeaves}
use Rattle.cedar_partial_evaluation.specs.Seam.{Carries}
use Rattle.cedar_partial_evaluation.specs.Unbound.{unbound, UnboundAnswersAreFair}
use Rattle.cedar_partial_evaluation.specs.UnboundSeam.{CarriesUnbound, UnboundResidualsSettle, UnboundAnswersArePrompt}
use Rattle.cedar_partial_evaluation.specs.Filling.{IsFilling, request_filled, filled, GivesEach}
use Rattle.cedar_language.specs.Authorization as authorization
use Rattle.cedar_partial_evaluation.specs.Linking.{no_slots}
use Rattle.cedar_partial_evaluation.specs.Question.{Question, Told, Extends, AreMadeTold, IsAccepted, settled_of, held_of}
use Rattle.cedar_partial_evaluation.proofs.Question.{slot_below, meets_below, weak_carries, telling_carries, held_made}
use Rattle.cedar_partial_evaluation.proofs.Filling.{below_closed, context_not, means_filled, reads_below, answers_prompt}
use Rattle.cedar_partial_evaluation.proofs.Alike.{residual_alike, applied_alike}
use Rattle.cedar_partial_evaluation.proofs.Linking.{with_slots}
use Rattle.cedar_partial_evaluation.proofs.Sound.{errs_more, entry_errs, applied_errs, type_errs}
use Rattle.cedar_partial_evaluation.proofs.Seam.{is_answered, equal_answered, left_carries}
use Rattle.cedar_partial_evaluation.proofs.Carried.{below_trans, answer_type, carried}

-- ---- a leaf that errs leaves each result as it is, or makes it an error

abbrev Worse : Settling → Settling → Type 0
Worse x y = (y ≡ x) ⊎ (y ≡ Errs)

abbrev AllWorse : Settlings → Settlings → Type 0
AllWorse xs ys = (ys ≡ xs) ⊎ (ys ≡ SomeErrs)

boolean_worse : (x y : Settling) → Worse x y → Worse (boolean x) (boolean y)
boolean_worse x y (inl e) = inl (ap boolean e)
boolean_worse x y (inr e) = inr (rw e refl)

and_right_worse : (x y w : Settling) → Worse y w → Worse (and_settled x y) (and_settled x w)
and_right_worse Open y w k = inl refl
and_right_worse Errs y w k = inl refl
and_right_worse (Is (Plain (Boolean true))) y w k = boolean_worse y w k
and_right_worse (Is (Plain (Boolean false))) y w k = inl refl
and_right_worse (Is _) y w k = inl refl

and_worse : (x y z w : Settling) → Worse x z → Worse y w → Worse (and_settled x y) (and_settled z w)
and_worse x y z w (inl e) k = rw e (and_right_worse x y w k)
and_worse x y z w (inr e) k = inr (rw e refl)

or_right_worse : (x y w : Settling) → Worse y w → Worse (or_settled x y) (or_settled x w)
or_right_worse Open y w k = inl refl
or_right_worse Errs y w k = inl refl
or_right_worse (Is (Plain (Boolean false))) y w k = boolean_worse y w k
or_right_worse (Is (Plain (Boolean true))) y w k = inl refl
or_right_worse (Is _) y w k = inl refl

or_worse : (x y z w : Settling) → Worse x z → Worse y w → Worse (or_settled x y) (or_settled z w)
or_worse x y z w (inl e) k = rw e (or_right_worse x y w k)
or_worse x y z w (inr e) k = inr (rw e refl)

branch_worse : (x y u w v : Settling) → Worse y w → Worse u v → Worse (if_settled x y u) (if_settled x w v)
branch_worse Open y u w v k l = inl refl
branch_worse Errs y u w v k l = inl refl
branch_worse (Is (Plain (Boolean true))) y u w v k l = k
branch_worse (Is (Plain (Boolean false))) y u w v k l = l
branch_worse (Is _) y u w v k l = inl refl

if_worse : (x y u z w v : Settling) → Worse x z → Worse y w → Worse u v → Worse (if_settled x y u) (if_settled z w v)
if_worse x y u z w v (inl e) k l = rw e (branch_worse x y u w v k l)
if_worse x y u z w v (inr e) k l = inr (rw e refl)

more_worse : (x z : Settling) (xs zs : Settlings) → Worse x z → AllWorse xs zs → AllWorse (and_more x xs) (and_more z zs)
more_worse x z xs zs (inr e) k = inr (rw e (errs_more zs))
more_worse x z xs zs (inl e) (inr f) = inr (rw f refl)
more_worse x z xs zs (inl e) (inl f) = inl (rw (e, f) refl)

apply_worse : (facts : Facts) (op : Operator) (xs zs : Settlings) → AllWorse xs zs → Worse (apply_settled facts op xs) (apply_settled facts op zs)
apply_worse facts op xs zs (inl e) = inl (ap (apply_settled facts op) e)
apply_worse facts op xs zs (inr e) = inr (rw e refl)

still_below : (x y : Settling) → Below x Errs → Worse x y → Below x y
still_below Open y h w = tt
still_below Errs y h (inl e) = sym e
still_below Errs y h (inr e) = sym e
still_below (Is v) y h w = cc

-- the same with no slot bound
abbrev without : LeafAnswers → LeafAnswers
without holds = record { variable = holds.variable; unknown = holds.unknown; slot = λ s. Failed UnlinkedSlot }

module _ (facts : Facts) (holds : LeafAnswers) where
  left_same : (op : Operator) (rs : Trees) → residual_answer facts (without holds) op rs ≡ residual_answer facts holds op rs
  left_same op rs = residual_alike facts (without holds) holds (λ v. refl) (λ n ty. refl) op rs

  apply_same : (op : Operator) (ps : Answers) → apply_answer facts (without holds) op ps ≡ apply_answer facts holds op ps
  apply_same op ps = applied_alike facts (without holds) holds (λ v. refl) (λ n ty. refl) op ps

module _ (facts : Facts) (good : HoldsMade facts) (later : LeafSettlings) (holds : LeafAnswers) (carries : CarriesUnbound facts later holds) (leaves : AreMadeLeaves facts holds) where
  same_entry : (op : Operator) (ts : Trees) (x : Settling) → or_entry (unbound later) op ts x ≡ or_entry later op ts x
  same_entry (GetAttr a) (a_tree (Var Context) no_trees) Open = refl
  same_entry (HasAttr a) (a_tree (Var Context) no_trees) Open = refl
  same_entry op ts x = refl

  entry_worse : (op : Operator) (ts : Trees) (x y : Settling) → Worse x y → Worse (or_entry later op ts x) (or_entry (unbound later) op ts y)
  entry_worse op ts x y (inl e) = inl (rw e (same_entry op ts x))
  entry_worse op ts x y (inr e) = inr (rw e (entry_errs (unbound later) op ts))

  same_stated : (t : Tree) → stated_in (unbound later) t ≡ stated_in later t
  same_stated (Var v) = refl
  same_stated (Unknown n ty) = refl
  same_stated _ = refl

  type_worse : (op : Operator) (os : List (Option Name)) (x y : Settling) → Worse x y → Worse (or_type op os x) (or_type op os y)
  type_worse op os x y (inl e) = inl (ap (or_type op os) e)
  type_worse op os x y (inr e) = inr (ap (or_type op os) e ∙ type_errs op os)

  -- the types that are known stay, or some operand errs
  abbrev TypesWorse : Trees → Type 0
  TypesWorse ts = (types_in facts (unbound later) ts ≡ types_in facts later ts) ⊎ (all_settled_in facts (unbound later) ts ≡ SomeErrs)

  one_more_worse : (t : Tree) (ts : Trees) → Worse (settled_in facts later t) (settled_in facts (unbound later) t) → TypesWorse ts → TypesWorse (a_tree t ts)
  one_more_worse t ts (inl e) (inl f) = inl (rw (e, same_stated t, f) refl)
  one_more_worse t ts (inl e) (inr f) = inr (rw f refl)
  one_more_worse t ts (inr e) w = inr (rw e (errs_more (all_settled_in facts (unbound later) ts)))

  applied_worse : (op : Operator) (ts : Trees) → TypesWorse ts →
      Worse (or_entry later op ts (apply_settled facts op (all_settled_in facts later ts))) (or_entry (unbound later) op ts (apply_settled facts op (all_settled_in facts (unbound later) ts))) →
      Worse (settled_in facts later (Apply op ts)) (settled_in facts (unbound later) (Apply op ts))
  applied_worse op ts (inl e) w =
      subst (λ (os : List (Option Name)). Worse (settled_in facts later (Apply op ts)) (or_type op os (or_entry (unbound later) op ts (apply_settled facts op (all_settled_in facts (unbound later) ts)))))
      (sym e)
      (type_worse op (types_in facts later ts) (or_entry later op ts (apply_settled facts op (all_settled_in facts later ts)))
      (or_entry (unbound later) op ts (apply_settled facts op (all_settled_in facts (unbound later) ts))) w)
  applied_worse op ts (inr e) w = inr (rw e (applied_errs (unbound later) op (types_in facts (unbound later) ts) ts))

  mutual
    worse : (t : Tree) → Worse (settled_in facts later t) (settled_in facts (unbound later) t)
    worse (Lit l) = inl refl
    worse (Var v) = inl refl
    worse (Slot s) = inr refl
    worse (Unknown n ty) = inl refl
    worse (If t y n) = if_worse _ _ _ _ _ _ (worse t) (worse y) (worse n)
    worse (And l r) = and_worse _ _ _ _ (worse l) (worse r)
    worse (Or l r) = or_worse _ _ _ _ (worse l) (worse r)
    worse (Apply op ts) =
        applied_worse op ts (types_worse ts)
        (entry_worse op ts _ _ (apply_worse facts op (all_settled_in facts later ts) (all_settled_in facts (unbound later) ts) (all_worse ts)))

    all_worse : (ts : Trees) → AllWorse (all_settled_in facts later ts) (all_settled_in facts (unbound later) ts)
    all_worse no_trees = inl refl
    all_worse (a_tree t ts) = more_worse _ _ _ _ (worse t) (all_worse ts)

    types_worse : (ts : Trees) → TypesWorse ts
    types_worse no_trees = inl refl
    types_worse (a_tree t ts) = one_more_worse t ts (worse t) (types_worse ts)

  without_carries : Carries facts (unbound later) (without holds)
  without_carries = record {
    variable = carries.variable;
    never_errs = carries.never_errs;
    unknown = carries.unknown;
    name_never_errs = carries.name_never_errs;
    typed = carries.typed;
    slot = λ s. refl;
    in_context = λ a. rw (apply_same facts holds (GetAttr a) (and_next facts (holds.variable Context) (AllEvaluated no_values))) (carries.in_context a);
    has_in_context = λ a. rw (apply_same facts holds (HasAttr a) (and_next facts (holds.variable Context) (AllEvaluated no_values))) (carries.has_in_context a);
    variable_type = carries.variable_type;
    untold = carries.untold;
  }

  without_leaves : AreMadeLeaves facts (without holds)
  without_leaves = record { variable = leaves.variable; unknown = leaves.unknown; slot = λ s. tt }

  left_below : (op : Operator) (rs : Trees) →
      Below (apply_settled facts op (all_settled_in facts (unbound later) rs)) (read facts (unbound later) (residual_answer facts holds op rs))
  left_below op rs = rw (left_same facts holds op rs) at (left_carries facts good (unbound later) (without holds) without_carries without_leaves op rs)

  is_below : (ty u : Name) (p : Answer) → answer_type facts (unbound later) p ≡ Some u →
      Below (Is (Plain (Boolean (same_name u ty)))) (read facts (unbound later) (apply_answer facts holds (tree.Is ty) (and_next facts p (AllEvaluated no_values))))
  is_below ty u p h =
      rw (apply_same facts holds (tree.Is ty) (and_next facts p (AllEvaluated no_values))) at (is_answered facts good (unbound later) (without holds) without_carries without_leaves ty u p h)

  equal_below : (u w : Name) (p q : Answer) → answer_type facts (unbound later) p ≡ Some u → answer_type facts (unbound later) q ≡ Some w → not (same_name u w) ≡ true →
      Below (Is (Plain (Boolean false))) (read facts (unbound later) (apply_answer facts holds Equal (and_next facts p (and_next facts q (AllEvaluated no_values)))))
  equal_below u w p q h k d =
      rw (apply_same facts holds Equal (and_next facts p (and_next facts q (AllEvaluated no_values)))) at (equal_answered facts good (unbound later) (without holds) without_carries without_leaves u w p q h k d)

pub unbound_residuals_settle : UnboundResidualsSettle
unbound_residuals_settle facts good later holds carries leaves t =
    carried facts good later (unbound later) (λ t h. still_below _ _ h (worse facts good later holds carries leaves t)) holds carries leaves
    (left_below facts good later holds carries leaves) (is_below facts good later holds carries leaves) (equal_below facts good later holds carries leaves) t

-- what holds with slots bound, where the same is carried without
abbrev holding : LeafAnswers → Slots → LeafAnswers
holding holds slots = record { variable = holds.variable; unknown = holds.unknown; slot = λ s. answer_of (slot_outcome (slots s)) }

bound_carries : (facts : Facts) (later : LeafSettlings) (holds : LeafAnswers) (slots : Slots) → Carries facts (with_slots later no_slots) (holding holds no_slots) →
    CarriesUnbound facts (with_slots later slots) (holding holds slots)
bound_carries facts later holds slots c = record {
  variable = c.variable;
  never_errs = c.never_errs;
  unknown = c.unknown;
  name_never_errs = c.name_never_errs;
  typed = c.typed;
  slot = λ s. slot_below facts (unbound (with_slots later slots)) (slots s);
  in_context = λ a. rw (applied_alike facts (holding holds no_slots) (holding holds slots) (λ v. refl) (λ n ty. refl) (GetAttr a) (and_next facts (holds.variable Context) (AllEvaluated no_values))) at (c.in_context a);
  has_in_context = λ a. rw (applied_alike facts (holding holds no_slots) (holding holds slots) (λ v. refl) (λ n ty. refl) (HasAttr a) (and_next facts (holds.variable Context) (AllEvaluated no_values))) at (c.has_in_context a);
  variable_type = c.variable_type;
  untold = c.untold;
}

question_carries : (facts : Facts) (good : HoldsMade facts) (q : Question) (slots : Slots) (told later : Told) → Extends told later → AreMadeTold facts told →
    IsAccepted facts told q.context → IsAccepted facts later q.context → CarriesUnbound facts (settled_of facts q slots later) (held_of facts q slots told)
question_carries facts good q slots told later e are_made now then =
    bound_carries facts (settled_of facts q no_slots later) (held_of facts q no_slots told) slots (telling_carries facts good q no_slots told later e are_made now then)

pub unbound_answers_are_prompt : UnboundAnswersArePrompt
unbound_answers_are_prompt facts good q slots told later e are_made then_made now then t r h =
    let carried : Below (settled_in facts (settled_of facts q slots later) t) (settled_in facts (unbound (settled_of facts q slots later)) r) =
    rw h at
    (unbound_residuals_settle facts good (settled_of facts q slots later) (held_of facts q slots told) (question_carries facts good q slots told later e are_made now then)
    (held_made facts good q slots told are_made) t) in
    below_trans _ (settled_in facts (settled_of facts q no_slots later) r) _ carried (meets_below _ _ _ (answers_prompt facts good q no_slots later then_made then r))

-- ---- under a filling

filling_carries : (facts : Facts) (good : HoldsMade facts) (q : Question) (slots : Slots) (told filling : Told) (known : authorization.Known) → Extends told filling → AreMadeTold facts told →
    IsFilling facts q filling known → CarriesUnbound facts (filled facts q slots filling) (held_of facts q slots told)
filling_carries facts good q slots told filling known extends are_made fills =
    bound_carries facts (filled facts q no_slots filling) (held_of facts q no_slots told) slots (weak_carries facts good q no_slots told filling extends are_made (context_not facts q filling known fills))

-- a residual means without slots what its tree means with them
pub residual_means : (facts : Facts) (good : HoldsMade facts) (q : Question) (slots : Slots) (told filling : Told) (known : authorization.Known) → Extends told filling → AreMadeTold facts told →
    IsFilling facts q filling known → (t r : Tree) → GivesEach filling t → partial_in facts (held_of facts q slots told) t ≡ ResidualTree r →
    settled_in facts (filled facts q slots filling) t ≡ settled_in facts (filled facts q no_slots filling) r
residual_means facts good q slots told filling known extends are_made fills t r given h =
    let carried : Below (settled_in facts (filled facts q slots filling) t) (settled_in facts (filled facts q no_slots filling) r) =
    rw h at
    (unbound_residuals_settle facts good (filled facts q slots filling) (held_of facts q slots told)
    (filling_carries facts good q slots told filling known extends are_made fills) (held_made facts good q slots told are_made) t) in
    below_closed _ _ (meaning facts (request_filled known slots filling) t) (means_filled facts q filling known fills slots t given) carried

pub unbound_answers_are_fair : UnboundAnswersAreFair
unbound_answers_are_fair facts good q slots told later filling known e further are_made then_made fills t r given h =
    let means : settled_in facts (filled facts q slots filling) t ≡ kindless (meaning facts (request_filled known slots filling) t) = means_filled facts q filling known fills slots t given in
    let first : settled_in facts (filled facts q slots filling) t ≡ settled_in facts (filled facts q no_slots filling) r =
    residual_means facts good q slots told filling known (λ n v i. further n v (e n v i)) are_made fills t r given h in
    first ∙ below_closed _ _ (meaning facts (request_filled known slots filling) t) (sym first ∙ means) (reads_below facts q filling known fills good no_slots later further then_made r)
