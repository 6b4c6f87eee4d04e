-- One more policy in the group of its effect and of what was found of it.
use Rattle.std.proofs.Common.{◌≡◌, Bool, true, false, Some, List, [], ◌∷◌, ◌++◌, refl, sym, ◌∙◌, ap, subst}
use Rattle.std.specs.declared.alloc.Global.{Global}
use Rattle.std.specs.declared.rc.Rc.{Rc}
use Rattle.std.proofs.lemmas.List.{map_push}
use Rattle.cedar_language.specs.Answering.{Effect, Permit, Forbid}
use Rattle.cedar_language.specs.Uid.{Text}
use Rattle.cedar_extensions.specs.Failures.{Failure}
use Rattle.cedar_policies.specs.Policies.{policy_id, policy_syntax}
use Rattle.cedar_policies.specs.declared.policies.Policy.{Policy}
use Rattle.cedar_trees.specs.Bare.{bare}
use Rattle.cedar_trees.specs.declared.expr.Expr.{Expr}
use Rattle.cedar_evaluator.specs.Evaluations.{Annotations, Found, Satisfied, Unsatisfied, Erred, Open, Kept}
use Rattle.cedar_evaluator.specs.Given.{Noted}
use Rattle.cedar_evaluator.specs.Grouping.{with_kept, held_with, kept_as, Adds, AddsFalse}
use Rattle.cedar_evaluator.specs.Holding.{annotated_in, has_erred, holding_in, noted, noted_behind}
use Rattle.cedar_evaluator.specs.Responses.{Holding, false_id, errors_of, holding_of, without_false}
use Rattle.cedar_evaluator.specs.declared.partial_response.PartialResponse.{PartialResponse}
use Rattle.cedar_evaluator.specs.declared.partial_response.ErrorState.{ErrorState}
use Rattle.cedar_evaluator.proofs.Apart.{some_same}
use Rattle.cedar_evaluator.proofs.Keeping.{holding_more, errors_more}

abbrev Rest : Type 0
Rest = Rc (Expr (Unit {0})) Global

-- ---- whichever policies that aren't satisfied are held

held_errors : (b : Bool) (h : Holding) → (held_with b h).errors ≡ h.errors
held_errors true h = refl
held_errors false h = refl

satisfied_stays : (b : Bool) (id : Text) (effect : Effect) (annotations : Annotations) (h : Holding)
    → let k : Kept = record { id = id; effect = effect; annotations = annotations; found = Satisfied } in with_kept k (held_with b h) ≡ held_with b (with_kept k h)
satisfied_stays true id effect annotations h = refl
satisfied_stays false id Permit annotations h = refl
satisfied_stays false id Forbid annotations h = refl

open_stays : (b : Bool) (id : Text) (effect : Effect) (annotations : Annotations) (rest : Rest) (h : Holding)
    → let k : Kept = record { id = id; effect = effect; annotations = annotations; found = Open (bare rest.value) } in with_kept k (held_with b h) ≡ held_with b (with_kept k h)
open_stays true id effect annotations rest h = refl
open_stays false id Permit annotations rest h = refl
open_stays false id Forbid annotations rest h = refl

-- ---- a satisfied policy

module _ (b : Bool) (r : PartialResponse) (id : Text) (annotations : Noted) where
  permit_satisfied : Adds b (record { id = id; effect = Permit; annotations = annotations.value; found = Satisfied }) r (record r { satisfied_permits = r.satisfied_permits ++ (id, annotations) ∷ [] })
  permit_satisfied ks holds =
      let k : Kept = record { id = id; effect = Permit; annotations = annotations.value; found = Satisfied } in
      let group = r.satisfied_permits in
      let kept : Text × Noted = (id, annotations) in
      (λ i. record (holding_in r) {
        satisfied_permits = map_push (λ e. e.0) group kept i;
        annotated = record (annotated_in r) { satisfied_permits = map_push noted group kept i };
      })
      ∙ ap (with_kept k) holds ∙ satisfied_stays b id Permit annotations.value (holding_of ks) ∙ ap (held_with b) (sym (holding_more ks k))

  forbid_satisfied : Adds b (record { id = id; effect = Forbid; annotations = annotations.value; found = Satisfied }) r (record r { satisfied_forbids = r.satisfied_forbids ++ (id, annotations) ∷ [] })
  forbid_satisfied ks holds =
      let k : Kept = record { id = id; effect = Forbid; annotations = annotations.value; found = Satisfied } in
      let group = r.satisfied_forbids in
      let kept : Text × Noted = (id, annotations) in
      (λ i. record (holding_in r) {
        satisfied_forbids = map_push (λ e. e.0) group kept i;
        annotated = record (annotated_in r) { satisfied_forbids = map_push noted group kept i };
      })
      ∙ ap (with_kept k) holds ∙ satisfied_stays b id Forbid annotations.value (holding_of ks) ∙ ap (held_with b) (sym (holding_more ks k))

-- ---- an open one

module _ (b : Bool) (r : PartialResponse) (id : Text) (rest : Rest) (annotations : Noted) where
  permit_open : Adds b (record { id = id; effect = Permit; annotations = annotations.value; found = Open (bare rest.value) }) r (record r { residual_permits = r.residual_permits ++ (id, (rest, annotations)) ∷ [] })
  permit_open ks holds =
      let k : Kept = record { id = id; effect = Permit; annotations = annotations.value; found = Open (bare rest.value) } in
      let group = r.residual_permits in
      let kept : Text × (Rest × Noted) = (id, (rest, annotations)) in
      (λ i. record (holding_in r) {
        open_permits = map_push (λ e. (e.0, bare e.1.0.value)) group kept i;
        annotated = record (annotated_in r) { open_permits = map_push noted_behind group kept i };
      })
      ∙ ap (with_kept k) holds ∙ open_stays b id Permit annotations.value rest (holding_of ks) ∙ ap (held_with b) (sym (holding_more ks k))

  forbid_open : Adds b (record { id = id; effect = Forbid; annotations = annotations.value; found = Open (bare rest.value) }) r (record r { residual_forbids = r.residual_forbids ++ (id, (rest, annotations)) ∷ [] })
  forbid_open ks holds =
      let k : Kept = record { id = id; effect = Forbid; annotations = annotations.value; found = Open (bare rest.value) } in
      let group = r.residual_forbids in
      let kept : Text × (Rest × Noted) = (id, (rest, annotations)) in
      (λ i. record (holding_in r) {
        open_forbids = map_push (λ e. (e.0, bare e.1.0.value)) group kept i;
        annotated = record (annotated_in r) { open_forbids = map_push noted_behind group kept i };
      })
      ∙ ap (with_kept k) holds ∙ open_stays b id Forbid annotations.value rest (holding_of ks) ∙ ap (held_with b) (sym (holding_more ks k))

-- ---- one that isn't satisfied

-- among the permits or the forbids, with whether it erred
among_permits : Text → Annotations → Bool → Holding → Holding
among_permits id annotations erred h = record h { false_permits = h.false_permits ++ (id, erred) ∷ []; annotated = record h.annotated { false_permits = h.annotated.false_permits ++ (id, annotations) ∷ [] } }

among_forbids : Text → Annotations → Bool → Holding → Holding
among_forbids id annotations erred h = record h { false_forbids = h.false_forbids ++ (id, erred) ∷ []; annotated = record h.annotated { false_forbids = h.annotated.false_forbids ++ (id, annotations) ∷ [] } }

-- the errors are those of all
abbrev with_errors : List Kept → Holding → Holding
with_errors ks h = record h { errors = errors_of ks }

permit_grown : (id : Text) (annotations : Annotations) (found : Found) (erred : Bool) (ks : List Kept) (h : Holding) → false_id id found ≡ Some (id, erred)
    → among_permits id annotations erred (with_errors ks h) ≡ with_errors ks (with_kept (record { id = id; effect = Permit; annotations = annotations; found = found }) h)
unfolding among_permits
permit_grown id annotations Satisfied erred ks h is = absurd (cc is)
permit_grown id annotations Unsatisfied erred ks h is = let same = ap (λ (y : Text × Bool). y.1) (some_same (id, false) (id, erred) is) in ap (λ e. record h { false_permits = h.false_permits ++ (id, e) ∷ []; errors = errors_of ks; annotated = record h.annotated { false_permits = h.annotated.false_permits ++ (id, annotations) ∷ [] } }) same
permit_grown id annotations (Erred f) erred ks h is = let same = ap (λ (y : Text × Bool). y.1) (some_same (id, true) (id, erred) is) in ap (λ e. record h { false_permits = h.false_permits ++ (id, e) ∷ []; errors = errors_of ks; annotated = record h.annotated { false_permits = h.annotated.false_permits ++ (id, annotations) ∷ [] } }) same
permit_grown id annotations (Open t) erred ks h is = absurd (cc is)

forbid_grown : (id : Text) (annotations : Annotations) (found : Found) (erred : Bool) (ks : List Kept) (h : Holding) → false_id id found ≡ Some (id, erred)
    → among_forbids id annotations erred (with_errors ks h) ≡ with_errors ks (with_kept (record { id = id; effect = Forbid; annotations = annotations; found = found }) h)
unfolding among_forbids
forbid_grown id annotations Satisfied erred ks h is = absurd (cc is)
forbid_grown id annotations Unsatisfied erred ks h is = let same = ap (λ (y : Text × Bool). y.1) (some_same (id, false) (id, erred) is) in ap (λ e. record h { false_forbids = h.false_forbids ++ (id, e) ∷ []; errors = errors_of ks; annotated = record h.annotated { false_forbids = h.annotated.false_forbids ++ (id, annotations) ∷ [] } }) same
forbid_grown id annotations (Erred f) erred ks h is = let same = ap (λ (y : Text × Bool). y.1) (some_same (id, true) (id, erred) is) in ap (λ e. record h { false_forbids = h.false_forbids ++ (id, e) ∷ []; errors = errors_of ks; annotated = record h.annotated { false_forbids = h.annotated.false_forbids ++ (id, annotations) ∷ [] } }) same
forbid_grown id annotations (Open t) erred ks h is = absurd (cc is)

module _ (r : PartialResponse) (id : Text) (state : ErrorState) (annotations : Noted) (found : Found) (is : false_id id found ≡ Some (id, has_erred state)) where
  permit_false : AddsFalse true (record { id = id; effect = Permit; annotations = annotations.value; found = found }) r (record r { false_permits = r.false_permits ++ (id, (state, annotations)) ∷ [] })
  unfolding among_permits
  permit_false ks holds =
      let k : Kept = record { id = id; effect = Permit; annotations = annotations.value; found = found } in
      let all = ks ++ k ∷ [] in
      let group = r.false_permits in
      let kept : Text × (ErrorState × Noted) = (id, (state, annotations)) in
      (λ i. record (holding_in r) {
        false_permits = map_push (λ e. (e.0, has_erred e.1.0)) group kept i;
        annotated = record (annotated_in r) { false_permits = map_push noted_behind group kept i };
      })
      ∙ ap (among_permits id annotations.value (has_erred state)) holds ∙ permit_grown id annotations.value found (has_erred state) all (holding_of ks) is ∙ ap (with_errors all) (sym (holding_more ks k))

  forbid_false : AddsFalse true (record { id = id; effect = Forbid; annotations = annotations.value; found = found }) r (record r { false_forbids = r.false_forbids ++ (id, (state, annotations)) ∷ [] })
  unfolding among_forbids
  forbid_false ks holds =
      let k : Kept = record { id = id; effect = Forbid; annotations = annotations.value; found = found } in
      let all = ks ++ k ∷ [] in
      let group = r.false_forbids in
      let kept : Text × (ErrorState × Noted) = (id, (state, annotations)) in
      (λ i. record (holding_in r) {
        false_forbids = map_push (λ e. (e.0, has_erred e.1.0)) group kept i;
        annotated = record (annotated_in r) { false_forbids = map_push noted_behind group kept i };
      })
      ∙ ap (among_forbids id annotations.value (has_erred state)) holds ∙ forbid_grown id annotations.value found (has_erred state) all (holding_of ks) is ∙ ap (with_errors all) (sym (holding_more ks k))

-- nothing but its error is held of it where such policies aren't kept
left_out : (id : Text) (effect : Effect) (annotations : Annotations) (found : Found) (erred : Bool) (all : List Kept) (h : Holding) → false_id id found ≡ Some (id, erred)
    → with_errors all (without_false h) ≡ with_errors all (without_false (with_kept (record { id = id; effect = effect; annotations = annotations; found = found }) h))
left_out id effect annotations Satisfied erred all h is = absurd (cc is)
left_out id Permit annotations Unsatisfied erred all h is = refl
left_out id Forbid annotations Unsatisfied erred all h is = refl
left_out id Permit annotations (Erred f) erred all h is = refl
left_out id Forbid annotations (Erred f) erred all h is = refl
left_out id effect annotations (Open t) erred all h is = absurd (cc is)

pub none_false : (b : Bool) → b ≡ false → (k : Kept) (erred : Bool) → false_id k.id k.found ≡ Some (k.id, erred) → (r : PartialResponse) → AddsFalse b k r r
none_false true off k erred is r ks holds = absurd (cc off)
none_false false off k erred is r ks holds =
    holds ∙ left_out k.id k.effect k.annotations k.found erred (ks ++ k ∷ []) (holding_of ks) is ∙ ap (λ h. with_errors (ks ++ k ∷ []) (without_false h)) (sym (holding_more ks k))

-- ---- the policy itself

module _ (b : Bool) (r : PartialResponse) (p : Policy) (kept : Text × Noted) (own : noted kept ≡ (policy_id p, (policy_syntax p).annotations)) where
  pub satisfied_permit : Permit ≡ (policy_syntax p).effect → (group : List (Text × Noted)) → group ≡ r.satisfied_permits ++ (kept.0, kept.1) ∷ [] → Adds b (kept_as p Satisfied) r (record r { satisfied_permits = group })
  satisfied_permit effect group is =
      subst (λ (k : Kept). Adds b k r (record r { satisfied_permits = group })) (λ i. record { id = (own i).0; effect = effect i; annotations = (own i).1; found = Satisfied })
      (subst (λ (es : List (Text × Noted)). Adds b (record { id = kept.0; effect = Permit; annotations = kept.1.value; found = Satisfied }) r (record r { satisfied_permits = es })) (sym is) (permit_satisfied b r kept.0 kept.1))

  pub satisfied_forbid : Forbid ≡ (policy_syntax p).effect → (group : List (Text × Noted)) → group ≡ r.satisfied_forbids ++ (kept.0, kept.1) ∷ [] → Adds b (kept_as p Satisfied) r (record r { satisfied_forbids = group })
  satisfied_forbid effect group is =
      subst (λ (k : Kept). Adds b k r (record r { satisfied_forbids = group })) (λ i. record { id = (own i).0; effect = effect i; annotations = (own i).1; found = Satisfied })
      (subst (λ (es : List (Text × Noted)). Adds b (record { id = kept.0; effect = Forbid; annotations = kept.1.value; found = Satisfied }) r (record r { satisfied_forbids = es })) (sym is) (forbid_satisfied b r kept.0 kept.1))

  module _ (rest : Rest) where
    pub open_permit : Permit ≡ (policy_syntax p).effect → (group : List (Text × (Rest × Noted))) → group ≡ r.residual_permits ++ (kept.0, (rest, kept.1)) ∷ [] → Adds b (kept_as p (Open (bare rest.value))) r (record r { residual_permits = group })
    open_permit effect group is =
        subst (λ (k : Kept). Adds b k r (record r { residual_permits = group })) (λ i. record { id = (own i).0; effect = effect i; annotations = (own i).1; found = Open (bare rest.value) })
        (subst (λ (es : List (Text × (Rest × Noted))). Adds b (record { id = kept.0; effect = Permit; annotations = kept.1.value; found = Open (bare rest.value) }) r (record r { residual_permits = es })) (sym is) (permit_open b r kept.0 rest kept.1))

    pub open_forbid : Forbid ≡ (policy_syntax p).effect → (group : List (Text × (Rest × Noted))) → group ≡ r.residual_forbids ++ (kept.0, (rest, kept.1)) ∷ [] → Adds b (kept_as p (Open (bare rest.value))) r (record r { residual_forbids = group })
    open_forbid effect group is =
        subst (λ (k : Kept). Adds b k r (record r { residual_forbids = group })) (λ i. record { id = (own i).0; effect = effect i; annotations = (own i).1; found = Open (bare rest.value) })
        (subst (λ (es : List (Text × (Rest × Noted))). Adds b (record { id = kept.0; effect = Forbid; annotations = kept.1.value; found = Open (bare rest.value) }) r (record r { residual_forbids = es })) (sym is) (forbid_open b r kept.0 rest kept.1))

  module _ (on : b ≡ true) (state : ErrorState) (found : Found) (fits : false_id (policy_id p) found ≡ Some (policy_id p, has_erred state)) where
    fits_there : false_id kept.0 found ≡ Some (kept.0, has_erred state)
    fits_there = subst (λ (id : Text). false_id id found ≡ Some (id, has_erred state)) (ap (λ (n : Text × Annotations). n.0) (sym own)) fits

    pub false_permit : Permit ≡ (policy_syntax p).effect → (group : List (Text × (ErrorState × Noted))) → group ≡ r.false_permits ++ (kept.0, (state, kept.1)) ∷ [] → AddsFalse b (kept_as p found) r (record r { false_permits = group })
    false_permit effect group is =
        subst (λ (c : Bool). AddsFalse c (kept_as p found) r (record r { false_permits = group })) (sym on)
        (subst (λ (k : Kept). AddsFalse true k r (record r { false_permits = group })) (λ i. record { id = (own i).0; effect = effect i; annotations = (own i).1; found = found })
        (subst (λ (es : List (Text × (ErrorState × Noted))). AddsFalse true (record { id = kept.0; effect = Permit; annotations = kept.1.value; found = found }) r (record r { false_permits = es })) (sym is) (permit_false r kept.0 state kept.1 found fits_there)))

    pub false_forbid : Forbid ≡ (policy_syntax p).effect → (group : List (Text × (ErrorState × Noted))) → group ≡ r.false_forbids ++ (kept.0, (state, kept.1)) ∷ [] → AddsFalse b (kept_as p found) r (record r { false_forbids = group })
    false_forbid effect group is =
        subst (λ (c : Bool). AddsFalse c (kept_as p found) r (record r { false_forbids = group })) (sym on)
        (subst (λ (k : Kept). AddsFalse true k r (record r { false_forbids = group })) (λ i. record { id = (own i).0; effect = effect i; annotations = (own i).1; found = found })
        (subst (λ (es : List (Text × (ErrorState × Noted))). AddsFalse true (record { id = kept.0; effect = Forbid; annotations = kept.1.value; found = found }) r (record r { false_forbids = es })) (sym is) (forbid_false r kept.0 state kept.1 found fits_there)))

-- ---- with its error, if it errs

module _ (b : Bool) (p : Policy) (before after : PartialResponse) where
  pub adds_unsatisfied : AddsFalse b (kept_as p Unsatisfied) before after → Adds b (kept_as p Unsatisfied) before after
  adds_unsatisfied more ks holds =
      more ks (holds ∙ (λ i. record (held_with b (holding_of ks)) { errors = (held_errors b (holding_of ks) ∙ sym (errors_more ks (kept_as p Unsatisfied))) i }))

  pub adds_erring : (f : Failure) (told : PartialResponse) → holding_in told ≡ record (holding_in before) { errors = (holding_in before).errors ++ (policy_id p, f) ∷ [] } → AddsFalse b (kept_as p (Erred f)) told after → Adds b (kept_as p (Erred f)) before after
  adds_erring f told is more ks holds =
      let k = kept_as p (Erred f) in
      more ks
      (is ∙ (λ i. record (holds i) { errors = (ap (λ (h : Holding). h.errors ++ (policy_id p, f) ∷ []) holds ∙ ap (λ l. l ++ (policy_id p, f) ∷ []) (held_errors b (holding_of ks)) ∙ sym (errors_more ks k)) i }))
