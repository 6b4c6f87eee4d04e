-- What is left of the policies of a response, by what was found of each.
use Rattle.std.proofs.Common.{◌≡◌, Bool, true, false, inl, inr, Some, List, ◌++◌, map, refl, sym, ◌∙◌, ap, subst}
use Rattle.std.specs.Map.{keys_of}
use Rattle.std.specs.declared.alloc.Global.{Global}
use Rattle.std.specs.declared.rc.Rc.{Rc}
use Rattle.cedar_grammar.specs.Build.{Keyed}
use Rattle.cedar_language.specs.Answering.{Effect, Permit, Forbid, Judged}
use Rattle.cedar_language.specs.Tree.{Tree, Lit, Boolean}
use Rattle.cedar_language.specs.Uid.{Text}
use Rattle.cedar_trees.specs.Bare.{bare}
use Rattle.cedar_trees.specs.declared.expr.Expr.{Expr}
use Rattle.cedar_policy_set.specs.Entries.{Entry, static_policy}
use Rattle.cedar_evaluator.specs.Evaluations.{Found, Satisfied, Unsatisfied, Erred, Open, Kept}
use Rattle.cedar_evaluator.specs.Given.{Noted}
use Rattle.cedar_evaluator.specs.Holding.{holding_in, has_erred}
use Rattle.cedar_evaluator.specs.Residuals.{clause_policy, left_satisfied, left_open, judged_satisfied, judged_false, judged_open, judged_residuals, residuals_with, is_any}
use Rattle.cedar_evaluator.specs.Responses.{Holding, if_effect, satisfied_id, false_id, open_id, satisfied_of, false_of, open_of, holding_of, without_false}
use Rattle.cedar_evaluator.specs.declared.partial_response.ErrorState.{ErrorState}
use Rattle.cedar_evaluator.specs.declared.partial_response.PartialResponse.{PartialResponse}
use Rattle.cedar_evaluator.proofs.Lists.{IsAmong, mapped, unmapped}
use Rattle.cedar_evaluator.proofs.Members.{among_left, among_right, among_either, filtered, unfiltered, ungathered}
use Rattle.cedar_evaluator.proofs.Grouped.{of_effect, is_satisfied_id, is_open_id, satisfied_there, open_there}

-- what was satisfied is taken up as `true`, what was open as what was left, and anything else as `false`
abbrev pub clause_of : Found → Tree
clause_of Satisfied = Lit (Boolean true)
clause_of Unsatisfied = Lit (Boolean false)
clause_of (Erred f) = Lit (Boolean false)
clause_of (Open r) = r

-- it isn't satisfied, whatever is told, and isn't taken up
abbrev pub is_out : Found → Bool
is_out Unsatisfied = true
is_out (Erred f) = true
is_out f = false

pub out_clause : (f : Found) → is_out f ≡ true → clause_of f ≡ Lit (Boolean false)
out_clause Satisfied out = cc
out_clause Unsatisfied out = refl
out_clause (Erred f) out = refl
out_clause (Open t) out = cc

-- so this policy is taken up
pub record IsLeftOf (k : Kept) (e : Text × Entry) : Type 0 where
  pub id : e.0 ≡ k.id
  pub annotations : List (Keyed Text)
  pub policy : e.1 ≡ static_policy (clause_policy k.effect (clause_of k.found) annotations)

abbrev Open_at : Type 0
Open_at = Rc (Expr (Unit {0})) Global × Noted

abbrev False_at : Type 0
False_at = ErrorState × Noted

is_false_id : (id : Text) (x : Text × Bool) (f : Found) → false_id id f ≡ Some x → (clause_of f ≡ Lit (Boolean false)) × (id ≡ x.0)
is_false_id id x Satisfied h = cc
is_false_id id x Unsatisfied h = let same : (id, false) ≡ x = cc in (refl, ap (λ (y : Text × Bool). y.0) same)
is_false_id id x (Erred f) h = let same : (id, true) ≡ x = cc in (refl, ap (λ (y : Text × Bool). y.0) same)
is_false_id id x (Open t) h = cc

-- what is held is what was kept, of those that aren't satisfied perhaps not all
pub record HoldsKept (ks : List Kept) (h : Holding) : Type 0 where
  pub satisfied_permits : h.satisfied_permits ≡ satisfied_of Permit ks
  pub false_permits : (x : Text × Bool) → IsAmong x h.false_permits → IsAmong x (false_of Permit ks)
  pub open_permits : h.open_permits ≡ open_of Permit ks
  pub satisfied_forbids : h.satisfied_forbids ≡ satisfied_of Forbid ks
  pub false_forbids : (x : Text × Bool) → IsAmong x h.false_forbids → IsAmong x (false_of Forbid ks)
  pub open_forbids : h.open_forbids ≡ open_of Forbid ks

pub all_kept : (ks : List Kept) (h : Holding) → h ≡ holding_of ks → HoldsKept ks h
all_kept ks h is = record {
  satisfied_permits = ap (λ (h : Holding). h.satisfied_permits) is;
  false_permits = λ x. subst (λ (h : Holding). IsAmong x h.false_permits) is;
  open_permits = ap (λ (h : Holding). h.open_permits) is;
  satisfied_forbids = ap (λ (h : Holding). h.satisfied_forbids) is;
  false_forbids = λ x. subst (λ (h : Holding). IsAmong x h.false_forbids) is;
  open_forbids = ap (λ (h : Holding). h.open_forbids) is;
}

pub true_kept : (ks : List Kept) (h : Holding) → h ≡ without_false (holding_of ks) → HoldsKept ks h
true_kept ks h is = record {
  satisfied_permits = ap (λ (h : Holding). h.satisfied_permits) is;
  false_permits = λ x a. absurd (subst (λ (h : Holding). IsAmong x h.false_permits) is a);
  open_permits = ap (λ (h : Holding). h.open_permits) is;
  satisfied_forbids = ap (λ (h : Holding). h.satisfied_forbids) is;
  false_forbids = λ x a. absurd (subst (λ (h : Holding). IsAmong x h.false_forbids) is a);
  open_forbids = ap (λ (h : Holding). h.open_forbids) is;
}

module _ (ks : List Kept) where
  abbrev IsLeft : Text × Entry → Type 0
  IsLeft e = (k : Kept) × IsAmong k ks × IsLeftOf k e

  left_by : (k : Kept) (effect : Effect) (clause : Tree) (annotations : List (Keyed Text)) (id : Text) → IsAmong k ks → k.effect ≡ effect → clause_of k.found ≡ clause → k.id ≡ id → IsLeft (id, static_policy (clause_policy effect clause annotations))
  left_by k effect clause annotations id a same found named =
      (k, a, record { id = sym named; annotations = annotations; policy = λ i. static_policy (clause_policy (sym same i) (sym found i) annotations) })

  satisfied_left : (effect : Effect) (es : List (Text × Noted)) → keys_of es ≡ satisfied_of effect ks → (p : Judged × (Text × Entry)) → IsAmong p (map (judged_satisfied effect) es) → IsLeft p.1
  satisfied_left effect es keys p a =
      let (x, among, is) = unmapped (judged_satisfied effect) es p a in
      let (k, in_ks, by) = ungathered (λ (k : Kept). if_effect effect k.effect (satisfied_id k.id k.found)) x.0 ks (subst (IsAmong x.0) keys (mapped (λ (e : Text × Noted). e.0) es x among)) in
      let (same, found_id) = of_effect effect k.effect (satisfied_id k.id k.found) x.0 by in
      let (found, named) = is_satisfied_id k.id x.0 k.found found_id in
      subst (λ (p : Judged × (Text × Entry)). IsLeft p.1) is (left_by k effect (Lit (Boolean true)) x.1.value x.0 in_ks same (ap clause_of found) named)

  false_left : (effect : Effect) (es : List (Text × False_at)) → ((x : Text × Bool) → IsAmong x (map (λ (e : Text × False_at). (e.0, has_erred e.1.0)) es) → IsAmong x (false_of effect ks)) → (p : Judged × (Text × Entry)) → IsAmong p (map (judged_false effect) es) → IsLeft p.1
  false_left effect es within p a =
      let (x, among, is) = unmapped (judged_false effect) es p a in
      let (k, in_ks, by) = ungathered (λ (k : Kept). if_effect effect k.effect (false_id k.id k.found)) (x.0, has_erred x.1.0) ks
      (within (x.0, has_erred x.1.0) (mapped (λ (e : Text × False_at). (e.0, has_erred e.1.0)) es x among)) in
      let (same, found_id) = of_effect effect k.effect (false_id k.id k.found) (x.0, has_erred x.1.0) by in
      let (found, named) = is_false_id k.id (x.0, has_erred x.1.0) k.found found_id in
      subst (λ (p : Judged × (Text × Entry)). IsLeft p.1) is (left_by k effect (Lit (Boolean false)) x.1.1.value x.0 in_ks same found named)

  open_left : (effect : Effect) (es : List (Text × Open_at)) → map (λ e. (e.0, bare e.1.0.value)) es ≡ open_of effect ks → (p : Judged × (Text × Entry)) → IsAmong p (map (judged_open effect) es) → IsLeft p.1
  open_left effect es keys p a =
      let (x, among, is) = unmapped (judged_open effect) es p a in
      let (k, in_ks, by) = ungathered (λ (k : Kept). if_effect effect k.effect (open_id k.id k.found)) (x.0, bare x.1.0.value) ks
      (subst (IsAmong (x.0, bare x.1.0.value)) keys (mapped (λ (e : Text × Open_at). (e.0, bare e.1.0.value)) es x among)) in
      let (same, found_id) = of_effect effect k.effect (open_id k.id k.found) (x.0, bare x.1.0.value) by in
      let (found, named) = is_open_id k.id (x.0, bare x.1.0.value) k.found found_id in
      subst (λ (p : Judged × (Text × Entry)). IsLeft p.1) is (left_by k effect (bare x.1.0.value) x.1.1.value x.0 in_ks same (ap clause_of found) named)

  module _ (first : PartialResponse) (holds : HoldsKept ks (holding_in first)) where
    abbrev sp : List (Judged × (Text × Entry))
    sp = map (judged_satisfied Permit) first.satisfied_permits

    abbrev fp : List (Judged × (Text × Entry))
    fp = map (judged_false Permit) first.false_permits

    abbrev op : List (Judged × (Text × Entry))
    op = map (judged_open Permit) first.residual_permits

    abbrev sf : List (Judged × (Text × Entry))
    sf = map (judged_satisfied Forbid) first.satisfied_forbids

    abbrev ff : List (Judged × (Text × Entry))
    ff = map (judged_false Forbid) first.false_forbids

    abbrev of : List (Judged × (Text × Entry))
    of = map (judged_open Forbid) first.residual_forbids

    abbrev two : List (Judged × (Text × Entry))
    two = sp ++ fp

    abbrev three : List (Judged × (Text × Entry))
    three = two ++ op

    abbrev four : List (Judged × (Text × Entry))
    four = three ++ sf

    abbrev five : List (Judged × (Text × Entry))
    five = four ++ ff

    left_in : (p : Judged × (Text × Entry)) → IsAmong p (judged_residuals first) → IsLeft p.1
    left_in p a =
        elim (among_either p five of a) [
          | inr h ↦ open_left Forbid first.residual_forbids holds.open_forbids p h
          | inl h ↦ elim (among_either p four ff h) [
            | inr h ↦ false_left Forbid first.false_forbids holds.false_forbids p h
            | inl h ↦ elim (among_either p three sf h) [
              | inr h ↦ satisfied_left Forbid first.satisfied_forbids holds.satisfied_forbids p h
              | inl h ↦ elim (among_either p two op h) [
                | inr h ↦ open_left Permit first.residual_permits holds.open_permits p h
                | inl h ↦ elim (among_either p sp fp h) [
                  | inr h ↦ false_left Permit first.false_permits holds.false_permits p h
                  | inl h ↦ satisfied_left Permit first.satisfied_permits holds.satisfied_permits p h
                ]
              ]
            ]
          ]
        ]

    -- what is left is left of a policy that was kept
    pub is_left : (e : Text × Entry) → IsAmong e (residuals_with is_any first) → IsLeft e
    is_left e a =
        let (p, among, is) = unmapped (λ (p : Judged × (Text × Entry)). p.1) _ e a in
        let (there, any) = unfiltered (λ (p : Judged × (Text × Entry)). is_any p.0) p (judged_residuals first) among in
        subst IsLeft is (left_in p there)

    -- ---- and something is left of each that may be satisfied

    abbrev HasLeft : Kept → List (Judged × (Text × Entry)) → Type 0
    HasLeft k ps = (p : Judged × (Text × Entry)) × IsAmong p ps × IsLeftOf k p.1

    has_satisfied : (effect : Effect) (es : List (Text × Noted)) → keys_of es ≡ satisfied_of effect ks → (k : Kept) → IsAmong k ks → k.effect ≡ effect → k.found ≡ Satisfied → HasLeft k (map (judged_satisfied effect) es)
    has_satisfied effect es keys k a same found =
        let (x, among, is) = unmapped (λ (e : Text × Noted). e.0) es k.id (subst (IsAmong k.id) (sym keys) (satisfied_there ks effect k a same found)) in
        let left : IsLeftOf k (left_satisfied effect x) = record { id = is; annotations = x.1.value; policy = λ i. static_policy (clause_policy (sym same i) (clause_of (sym found i)) x.1.value) } in
        (judged_satisfied effect x, mapped (judged_satisfied effect) es x among, left)

    has_open : (effect : Effect) (es : List (Text × Open_at)) → map (λ e. (e.0, bare e.1.0.value)) es ≡ open_of effect ks → (k : Kept) (t : Tree) → IsAmong k ks → k.effect ≡ effect → k.found ≡ Open t → HasLeft k (map (judged_open effect) es)
    has_open effect es keys k t a same found =
        let (x, among, is) = unmapped (λ (e : Text × Open_at). (e.0, bare e.1.0.value)) es (k.id, t) (subst (IsAmong (k.id, t)) (sym keys) (open_there ks effect k t a same found)) in
        let clause : bare x.1.0.value ≡ clause_of k.found = ap (λ (y : Text × Tree). y.1) is ∙ ap clause_of (sym found) in
        let left : IsLeftOf k (left_open effect x) = record { id = ap (λ (y : Text × Tree). y.0) is; annotations = x.1.1.value; policy = λ i. static_policy (clause_policy (sym same i) (clause i) x.1.1.value) } in
        (judged_open effect x, mapped (judged_open effect) es x among, left)

    in_left : (k : Kept) (xs ys : List (Judged × (Text × Entry))) → HasLeft k xs → HasLeft k (xs ++ ys)
    in_left k xs ys (p, a, is) = (p, among_left p xs ys a, is)

    in_right : (k : Kept) (xs ys : List (Judged × (Text × Entry))) → HasLeft k ys → HasLeft k (xs ++ ys)
    in_right k xs ys (p, a, is) = (p, among_right p xs ys a, is)

    permit_left : (k : Kept) → HasLeft k three → HasLeft k (judged_residuals first)
    permit_left k h = in_left k five of (in_left k four ff (in_left k three sf h))

    has_left : (k : Kept) (effect : Effect) (found : Found) → is_out found ≡ false → IsAmong k ks → k.effect ≡ effect → k.found ≡ found → HasLeft k (judged_residuals first)
    has_left k e Unsatisfied out a same is = cc
    has_left k e (Erred f) out a same is = cc
    has_left k Permit Satisfied out a same is =
        permit_left k (in_left k two op (in_left k sp fp (has_satisfied Permit first.satisfied_permits holds.satisfied_permits k a same is)))
    has_left k Permit (Open t) out a same is = permit_left k (in_right k two op (has_open Permit first.residual_permits holds.open_permits k t a same is))
    has_left k Forbid Satisfied out a same is =
        in_left k five of (in_left k four ff (in_right k three sf (has_satisfied Forbid first.satisfied_forbids holds.satisfied_forbids k a same is)))
    has_left k Forbid (Open t) out a same is = in_right k five of (has_open Forbid first.residual_forbids holds.open_forbids k t a same is)

    -- something is left of each policy that was kept and is satisfied or open
    pub left_of : (k : Kept) → is_out k.found ≡ false → IsAmong k ks → (e : Text × Entry) × IsAmong e (residuals_with is_any first) × IsLeftOf k e
    left_of k out a =
        let (p, among, left) = has_left k k.effect k.found out a refl refl in
        (p.1, mapped (λ (p : Judged × (Text × Entry)). p.1) _ p (filtered (λ (p : Judged × (Text × Entry)). is_any p.0) p (judged_residuals first) among refl), left)
