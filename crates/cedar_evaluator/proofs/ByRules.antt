-- A response of which nothing is left is the answer of the rules to its policies.
use Rattle.std.proofs.Common.{◌≡◌, ℕ, Bool, true, false, ◌||◌, cond, List, [], ◌∷◌, ◌++◌, map, filter, refl, sym, ◌∙◌, ap, subst}
use Rattle.std.specs.List.{filter_map, cons_option}
use Rattle.std.proofs.lemmas.List.Folds.{list_any-append}
use Rattle.cedar_language.specs.Answering.{Effect, Permit, Forbid, Allow, Deny, Judged, some, satisfied_permit, satisfied_forbid, is_reason, ids_with}
use Rattle.cedar_language.specs.Tree.{Tree}
use Rattle.cedar_language.specs.Uid.{Text}
use Rattle.cedar_partial_evaluation.specs.Leaves.{LeavesDontMatter}
use Rattle.cedar_partial_evaluation.specs.Partial.{KnownIsMeaning}
use Rattle.cedar_entities.specs.declared.store.Entities.{Entities}
use Rattle.cedar_extensions.specs.Failures.{Failure, OfKind, LimitMet, MemoryRanOut}
use Rattle.cedar_extensions.specs.Table.{Table}
use Rattle.cedar_evaluator.specs.Asking.{Inquiry}
use Rattle.cedar_policy_set.specs.Entries.{Entries, policies_of}
use Rattle.cedar_evaluator.specs.Authorizing.{Responds}
use Rattle.cedar_evaluator.specs.Concrete.{IsConcrete, has_no_value}
use Rattle.cedar_evaluator.specs.Deciding.{has_any}
use Rattle.cedar_evaluator.specs.Evaluations.{Found, Satisfied, Unsatisfied, Erred, Open, Kept}
use Rattle.cedar_evaluator.specs.Holding.{error_seen, holding_in}
use Rattle.cedar_evaluator.specs.Known.{is_limit, meets_limit, error_of, IsByRules, AnswersByRules}
use Rattle.cedar_evaluator.specs.Responses.{Holding, if_effect, satisfied_id, open_id, error_id, satisfied_of, open_of, errors_of, holding_of}
use Rattle.cedar_evaluator.specs.declared.partial_response.PartialResponse.{PartialResponse}
use Rattle.cedar_evaluator.specs.declared.response.Response.{Response}
use Rattle.cedar_evaluator.proofs.Deciding.{has_satisfied_permit, has_satisfied_forbid, must_held}
use Rattle.cedar_evaluator.proofs.Meant.{IsClosed, AreClosed, are_judged}
use Rattle.cedar_evaluator.proofs.Standings.{standing_found, judged}
use Rattle.cedar_lemmas.proofs.Booleans.{or_second as or_right, or_nothing as or_false}

-- ---- the satisfied policies of an effect

abbrev as_judged : Text → Effect → Found → Judged
as_judged id effect found = record { id = id; effect = effect; standing = standing_found found }

abbrev with_passing : (Judged → Bool) → Judged → List Judged → List Judged
with_passing f j rest = cond (f j) (j ∷ rest) rest

abbrev ids : List Judged → List Text
ids js = map (λ (j : Judged). j.id) js

one_permit : (id : Text) (effect : Effect) (found : Found) (rest : List Judged) (more : List Text) → ids rest ≡ more
    → ids (with_passing satisfied_permit (as_judged id effect found) rest) ≡ cons_option (if_effect Permit effect (satisfied_id id found)) more
one_permit id Permit Satisfied rest more h = ap (λ l. id ∷ l) h
one_permit id Permit Unsatisfied rest more h = h
one_permit id Permit (Erred (OfKind k)) rest more h = h
one_permit id Permit (Erred LimitMet) rest more h = h
one_permit id Permit (Erred MemoryRanOut) rest more h = h
one_permit id Permit (Open t) rest more h = h
one_permit id Forbid found rest more h = h

one_forbid : (id : Text) (effect : Effect) (found : Found) (rest : List Judged) (more : List Text) → ids rest ≡ more
    → ids (with_passing satisfied_forbid (as_judged id effect found) rest) ≡ cons_option (if_effect Forbid effect (satisfied_id id found)) more
one_forbid id Forbid Satisfied rest more h = ap (λ l. id ∷ l) h
one_forbid id Forbid Unsatisfied rest more h = h
one_forbid id Forbid (Erred (OfKind k)) rest more h = h
one_forbid id Forbid (Erred LimitMet) rest more h = h
one_forbid id Forbid (Erred MemoryRanOut) rest more h = h
one_forbid id Forbid (Open t) rest more h = h
one_forbid id Permit found rest more h = h

permit_ids : (ks : List Kept) → ids_with satisfied_permit (map judged ks) ≡ satisfied_of Permit ks
permit_ids [] = refl
permit_ids (k ∷ ks) = one_permit k.id k.effect k.found (filter satisfied_permit (map judged ks)) (satisfied_of Permit ks) (permit_ids ks)

forbid_ids : (ks : List Kept) → ids_with satisfied_forbid (map judged ks) ≡ satisfied_of Forbid ks
forbid_ids [] = refl
forbid_ids (k ∷ ks) = one_forbid k.id k.effect k.found (filter satisfied_forbid (map judged ks)) (satisfied_of Forbid ks) (forbid_ids ks)

-- some policy passes where an id of one that does is listed
one_passes : (j : Judged) (passes more : Bool) (rest : List Judged) → more ≡ has_any (ids rest) → (passes || more) ≡ has_any (ids (cond passes (j ∷ rest) rest))
one_passes j true more rest h = refl
one_passes j false more rest h = h

some_passes : (f : Judged → Bool) (js : List Judged) → some f js ≡ has_any (ids_with f js)
some_passes f [] = refl
some_passes f (j ∷ js) = one_passes j (f j) (some f js) (filter f js) (some_passes f js)

-- ---- nothing is open

one_closed : (e effect : Effect) (id : Text) (found : Found) (more : List (Text × Tree)) → IsClosed found → more ≡ [] → cons_option (if_effect e effect (open_id id found)) more ≡ []
one_closed Permit Permit id Satisfied more c h = h
one_closed Permit Permit id Unsatisfied more c h = h
one_closed Permit Permit id (Erred f) more c h = h
one_closed Permit Permit id (Open t) more c h = absurd (cc c.1)
one_closed Forbid Forbid id Satisfied more c h = h
one_closed Forbid Forbid id Unsatisfied more c h = h
one_closed Forbid Forbid id (Erred f) more c h = h
one_closed Forbid Forbid id (Open t) more c h = absurd (cc c.1)
one_closed Permit Forbid id found more c h = h
one_closed Forbid Permit id found more c h = h

none_open : (e : Effect) (ks : List Kept) → AreClosed ks → open_of e ks ≡ []
none_open e [] c = refl
none_open e (k ∷ ks) c = one_closed e k.effect k.id k.found (open_of e ks) c.0 (none_open e ks c.1)

-- ---- errors

one_error : (id : Text) (found : Found) (more others : List (Text × Failure)) → IsClosed found → more ≡ others → cons_option (error_id id found) more ≡ cons_option (error_of id (standing_found found)) others
one_error id Satisfied more others c h = h
one_error id Unsatisfied more others c h = h
one_error id (Erred (OfKind k)) more others c h = ap (λ l. (id, OfKind k) ∷ l) h
one_error id (Erred LimitMet) more others c h = absurd (cc c.0)
one_error id (Erred MemoryRanOut) more others c h = absurd (cc c.0)
one_error id (Open t) more others c h = h

pub errors_are : (ks : List Kept) → AreClosed ks → errors_of ks ≡ filter_map (λ (j : Judged). error_of j.id j.standing) (map judged ks)
errors_are [] c = refl
errors_are (k ∷ ks) c = one_error k.id k.found (errors_of ks) _ c.0 (errors_are ks c.1)

-- ---- the response

module _ (ks : List Kept) (whole : Response) (concrete : IsConcrete (holding_of ks) whole) where
  abbrev h : Holding
  h = holding_of ks

  abbrev js : List Judged
  js = map judged ks

  within_kept : meets_limit (map error_seen whole.diagnostics.errors.items) ≡ false → meets_limit (errors_of ks) ≡ false
  within_kept within =
      or_right (meets_limit (map has_no_value h.open_forbids ++ map has_no_value h.open_permits)) (meets_limit (errors_of ks))
      (sym (list_any-append (λ (e : Text × Failure). is_limit e.1) (map has_no_value h.open_forbids ++ map has_no_value h.open_permits) (errors_of ks)) ∙ ap meets_limit (sym concrete.errors) ∙ within)

  forbids : some satisfied_forbid js ≡ has_any (satisfied_of Forbid ks)
  forbids = some_passes satisfied_forbid js ∙ ap has_any (forbid_ids ks)

  permits : some satisfied_permit js ≡ has_any (satisfied_of Permit ks)
  permits = some_passes satisfied_permit js ∙ ap has_any (permit_ids ks)

  reasons_by : (b : Bool) → cond b (satisfied_of Forbid ks) (satisfied_of Permit ks) ≡ ids_with (λ j. cond b (satisfied_forbid j) (satisfied_permit j)) js
  reasons_by true = sym (forbid_ids ks)
  reasons_by false = sym (permit_ids ks)

  module _ (closed : AreClosed ks) where
    reasons_are : whole.diagnostics.reason ≡ ids_with (is_reason js) js
    reasons_are =
        concrete.reasons ∙ must_held h
        ∙ (λ i. cond (has_any (satisfied_of Forbid ks) || has_any (none_open Forbid ks closed i)) (satisfied_of Forbid ks) (satisfied_of Permit ks))
        ∙ ap (λ b. cond b (satisfied_of Forbid ks) (satisfied_of Permit ks)) (or_false (has_any (satisfied_of Forbid ks)) ∙ sym forbids)
        ∙ reasons_by (some satisfied_forbid js)

    by_rules : IsByRules js whole
    by_rules = record {
      decision = concrete.decision ∙ (λ i. cond ((has_satisfied_forbid h ∙ sym forbids) i) Deny (cond ((has_satisfied_permit h ∙ sym permits) i) Allow Deny));
      reasons = reasons_are;
      errors = concrete.errors ∙ (λ i. map has_no_value (none_open Forbid ks closed i) ++ map has_no_value (none_open Permit ks closed i) ++ errors_are ks closed i);
    }

pub answers_by_rules : LeavesDontMatter → KnownIsMeaning → (i : Inquiry) (store : Entities) (table : Table) (depth : ℕ) (es : Entries) (partial : PartialResponse) → Responds i store table depth es partial
    → (whole : Response) → IsConcrete (holding_in partial) whole → AnswersByRules i store table depth es whole
answers_by_rules law known i store table depth es partial responds whole concrete facts q given of within =
    let ks = responds.kept in
    let is = subst (λ (h : Holding). IsConcrete h whole) responds.holds concrete in
    let (closed, same) = are_judged law known i store table depth facts q given (policies_of es) ks of responds.each (within_kept ks whole is within) in
    subst (λ (js : List Judged). IsByRules js whole) same (by_rules ks whole is closed)
