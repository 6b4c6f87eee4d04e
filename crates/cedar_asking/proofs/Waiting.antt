-- Until a name is told that stands in what is left of a policy, joining what is said then with the last answer changes nothing.
use Rattle.std.proofs.Common.{◌≡◌, ◌∙◌, ◌&&◌, ◌||◌, refl, ap, sym, subst, true≢false, Bool, true, false, cond, is_some, Option, Some, None, List, map}
use Rattle.std.specs.Cmp.{both_ways}
use Rattle.std.specs.FinMap as finite
use Rattle.std.specs.Option.{option_or}
use Rattle.cedar_language.specs.Answering.{Judged, HasErred, HasId, some, satisfied_permit, satisfied_forbid, residual_permit, residual_forbid, in_must, in_may, Decision, kept}
use Rattle.cedar_language.specs.OrderLaws.{text_cmp_total, text_cmp_same}
use Rattle.cedar_language.specs.Tree.{Tree, Lit, Var, Slot, Unknown, If, And, Or, Apply, Trees, no_trees, a_tree}
use Rattle.cedar_language.specs.Uid.{Text}
use Rattle.cedar_language.specs.Value.{Value, Kind}
use Rattle.cedar_partial_evaluation.specs.Question.{Extends}
use Rattle.cedar_partial_evaluation.specs.Unknowns.{EachUnknownOf}
use Rattle.cedar_partial_evaluation.specs.Waiting.{IsUntoldIn}
use Rattle.cedar_world.specs.Answer.{Answer, has_id}
use Rattle.cedar_world.specs.Asking.{Told}
use Rattle.cedar_world.specs.Joined.{IsJoined}
use Rattle.cedar_world.specs.Standing.{Says, answer_by, AnswersAreMade}
use Rattle.cedar_replies.specs.declared.error_kind.ErrorKind.{ErrorKind}
use Rattle.cedar_evaluator.specs.Evaluations.{Kept}
use Rattle.cedar_evaluator.specs.Responses.{Holding, judged_held, holding_of, without_false}
use Rattle.cedar_evaluator.proofs.Counted.{CountAlike, same_decision, must_pass, must_pass_back, may_pass, may_pass_back}
use Rattle.cedar_evaluator.proofs.Grouped.{true_count_alike}
use Rattle.cedar_evaluator.proofs.Standings.{judged}
use Rattle.cedar_evaluator.proofs.Lists.{IsAmong, contained, or_left, some_of}
use Rattle.cedar_asking.specs.Laws.{SaysHeld}
use Rattle.cedar_asking.specs.Waiting.{LeftIsUntold}
use Rattle.cedar_asking.proofs.Firsts.{all_among, each_of}
use Rattle.cedar_asking.proofs.Sayings.{err_once_held}

-- ---- what is untold was so before

module _ (old told : Told) (extends : Extends old told) where
  untold_before : (n : Text) (o : Option Value) → finite.get old n ≡ o → finite.get told n ≡ None → finite.get old n ≡ None
  untold_before n None is none = is
  untold_before n (Some v) is none = let both : ◌≡◌ {A = Option Value} None (Some v) = sym none ∙ extends n v is in cc

  mutual
    tree_before : (t : Tree) → IsUntoldIn told t → IsUntoldIn old t
    tree_before (Lit l) h = tt
    tree_before (Var v) h = tt
    tree_before (Slot s) h = tt
    tree_before (Unknown n ty) h = untold_before n (finite.get old n) refl h
    tree_before (If t y n) h = (tree_before t h.0, tree_before y h.1, tree_before n h.2)
    tree_before (And l r) h = (tree_before l h.0, tree_before r h.1)
    tree_before (Or l r) h = (tree_before l h.0, tree_before r h.1)
    tree_before (Apply op ts) h = trees_before ts h

    trees_before : (ts : Trees) → EachUnknownOf (λ n ty. finite.get told n ≡ None) ts → EachUnknownOf (λ n ty. finite.get old n ≡ None) ts
    trees_before no_trees h = tt
    trees_before (a_tree t ts) h = (tree_before t h.0, trees_before ts h.1)

  pub left_before : (h : Holding) → LeftIsUntold h told → LeftIsUntold h old
  left_before h still = (
    all_among (λ (x : Text × Tree). IsUntoldIn old x.1) h.open_permits (λ x a. tree_before x.1 (each_of (λ (x : Text × Tree). IsUntoldIn told x.1) h.open_permits still.0 x a)),
    all_among (λ (x : Text × Tree). IsUntoldIn old x.1) h.open_forbids (λ x a. tree_before x.1 (each_of (λ (x : Text × Tree). IsUntoldIn told x.1) h.open_forbids still.1 x a)),
  )

-- ---- lists in which the same policies count

pub alike_through : (xs ys zs : List Judged) → CountAlike xs ys → CountAlike ys zs → CountAlike xs zs
alike_through xs ys zs a b = record {
  there = λ j i c. a.there j (b.there j i c) c;
  back = λ j i c. b.back j (a.back j i c) c;
}

pub alike_first : (ks : List Kept) (h : Holding) → h ≡ without_false (holding_of ks) → CountAlike (judged_held h) (map judged ks)
alike_first ks h is = subst (λ (x : Holding). CountAlike (judged_held x) (map judged ks)) (sym is) (true_count_alike ks)

-- ---- a reason that must be is one that may be

must_within : (js : List Judged) (j : Judged) → IsAmong j js → (a b : Bool) → some satisfied_forbid js ≡ a → cond (a || b) (satisfied_forbid j) (satisfied_permit j) ≡ true →
    cond a (satisfied_forbid j || residual_forbid j) (satisfied_permit j || residual_permit j || residual_forbid j) ≡ true
must_within js j c true b e p = or_left (satisfied_forbid j) (residual_forbid j) p
must_within js j c false true e p = absurd (true≢false (sym (some_of satisfied_forbid js j c p) ∙ e))
must_within js j c false false e p = or_left (satisfied_permit j || residual_permit j) (residual_forbid j) (or_left (satisfied_permit j) (residual_permit j) p)

must_may : (js : List Judged) (id : Text) → HasId js (in_must js) id → HasId js (in_may js) id
must_may js id (j, c, is, p) = (j, c, is, must_within js j (contained js j c) (some satisfied_forbid js) (some residual_forbid js) refl p)

-- ---- joined with what says the same

must_joined : (y m n : Bool) → n ≡ m → (m ≡ true → y ≡ true) → (y && (m || n)) ≡ m
must_joined true true n e f = refl
must_joined false true n e f = f refl
must_joined true false n e f = e
must_joined false false n e f = refl

may_joined : (y m n a : Bool) → a ≡ y → (y && (a || (m || n))) ≡ y
may_joined true m n a e = or_left a (m || n) e
may_joined false m n a e = refl

kept_itself : (d : Option Decision) → kept d d ≡ d
kept_itself (Some d) = refl
kept_itself None = refl

or_none : (o p : Option Kind) → p ≡ None → option_or o p ≡ o
or_none None p e = e
or_none (Some k) p e = refl

same_unit : (x y : Option (Unit {0})) → is_some x ≡ is_some y → x ≡ y
same_unit None None e = refl
same_unit None (Some y) e = cc
same_unit (Some x) None e = cc
same_unit (Some x) (Some y) e = refl

none_of : {X : Type 0} (o : Option X) → ((x : X) → o ≡ Some x → ⊥) → o ≡ None
none_of None f = refl
none_of (Some x) f = absurd (f x refl)

-- ---- answers that are the same

-- at each id
abbrev pub SameAtEach : Answer → Answer → Type 0
SameAtEach a b =
    (a.decision ≡ b.decision) × ((id : Text) → finite.get a.must id ≡ finite.get b.must id) ×
    ((id : Text) → finite.get a.may id ≡ finite.get b.may id) × ((id : Text) → finite.get a.erring id ≡ finite.get b.erring id)

pub same_answer : (a b : Answer) → SameAtEach a b → a ≡ b
same_answer a b h =
    let must : a.must ≡ b.must = finite.same_map text_cmp_total text_cmp_same a.must b.must h.1 in
    let may : a.may ≡ b.may = finite.same_map text_cmp_total text_cmp_same a.may b.may h.2 in
    let erring : a.erring ≡ b.erring = finite.same_map text_cmp_total text_cmp_same a.erring b.erring h.3 in
    λ i. record { decision = h.0 i; must = must i; may = may i; erring = erring i }

pub at_each : (a b : Answer) → a ≡ b → SameAtEach a b
at_each a b is = (ap (λ x. x.decision) is, λ id. ap (λ x. finite.get x.must id) is, λ id. ap (λ x. finite.get x.may id) is, λ id. ap (λ x. finite.get x.erring id) is)

module _ (made : AnswersAreMade) (h : Holding) (js : List Judged) (alike : CountAlike (judged_held h) js) (none : (id : Text) (k : Kind) → HasErred js id k → ⊥)
    (listed : List (Text × ErrorKind)) (last new answer : Answer) (first : SaysHeld h listed last) (says : Says js new) (joined : IsJoined last new answer) where
  abbrev held : List Judged
  held = judged_held h

  of_held : Says held (answer_by held)
  of_held = made held (err_once_held h)

  -- of the response, by the answer that says it
  must_held : (id : Text) → has_id last.must id ≡ true → HasId held (in_must held) id
  must_held id e = (of_held.must id).0 (sym (ap (λ m. has_id m id) first.must) ∙ e)

  held_may : (id : Text) → HasId held (in_may held) id → has_id last.may id ≡ true
  held_may id i = ap (λ m. has_id m id) first.may ∙ (of_held.may id).1 i

  same_must : (id : Text) → has_id new.must id ≡ has_id last.must id
  same_must id =
      both_ways (has_id new.must id) (has_id last.must id)
      (λ e. ap (λ m. has_id m id) first.must ∙ (of_held.must id).1 (must_pass_back held js alike id ((says.must id).0 e)))
      (λ e. (says.must id).1 (must_pass held js alike id (must_held id e)))

  same_may : (id : Text) → has_id new.may id ≡ has_id last.may id
  same_may id =
      both_ways (has_id new.may id) (has_id last.may id)
      (λ e. held_may id (may_pass_back held js alike id ((says.may id).0 e)))
      (λ e. (says.may id).1 (may_pass held js alike id ((of_held.may id).0 (sym (ap (λ m. has_id m id) first.may) ∙ e))))

  within : (id : Text) → has_id last.must id ≡ true → has_id last.may id ≡ true
  within id e = held_may id (must_may held id (must_held id e))

  none_errs : (id : Text) → finite.get new.erring id ≡ None
  none_errs id = none_of (finite.get new.erring id) (λ k e. none id k ((says.erring id k).0 e))

  decides : answer.decision ≡ last.decision
  decides = joined.decision ∙ ap (kept last.decision) (says.decision ∙ sym (first.decided ∙ same_decision held js alike)) ∙ kept_itself last.decision

  pub is_last : answer ≡ last
  is_last =
      same_answer answer last (
        decides,
        λ id. same_unit (finite.get answer.must id) (finite.get last.must id)
            (joined.must id ∙ must_joined (has_id last.may id) (has_id last.must id) (has_id new.must id) (same_must id) (within id)),
        λ id. same_unit (finite.get answer.may id) (finite.get last.may id)
            (joined.may id ∙ may_joined (has_id last.may id) (has_id last.must id) (has_id new.must id) (has_id new.may id) (same_may id)),
        λ id. joined.erring id ∙ or_none (finite.get last.erring id) (finite.get new.erring id) (none_errs id),
      )
