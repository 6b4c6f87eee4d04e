-- Policies that are out of scope aren't satisfied: without those that aren't, what is kept of all is what is kept of the others.
use Rattle.std.proofs.Common.{◌≡◌, inr, ℕ, ◌+◌, ◌<◌, length, get_or, take, drop, false, Option, Some, None, List, [], ◌∷◌, ◌++◌, refl, sym, ◌∙◌, ap, subst}
use Rattle.std.specs.List.{IsDistinct, cons_option, filter_map, slice_get}
use Rattle.std.specs.List.Sorted.{IsStrictlyIncreasing}
use Rattle.std.specs.Map.{keys_of}
use Rattle.std.specs.Set.{is_member}
use Rattle.std.proofs.lemmas.List.{append-nil, map-append, take_more, take-append-drop}
use Rattle.std.proofs.lemmas.List.Elements.{filter_map-append}
use Rattle.cedar_language.specs.Uid.{Text}
use Rattle.cedar_language.specs.Answering.{Effect, Permit, Forbid}
use Rattle.cedar_language.specs.Order.{same_text}
use Rattle.cedar_entities.specs.declared.store.Entities.{Entities}
use Rattle.cedar_extensions.specs.Table.{Table}
use Rattle.cedar_grammar.specs.Policy.{scope_tree}
use Rattle.cedar_evaluator.specs.Asking.{Inquiry, request_held}
use Rattle.cedar_policy_set.specs.Entries.{Entry, Entries, policies_of}
use Rattle.cedar_policy_set.proofs.Distinct.{distinct_apart}
use Rattle.cedar_policy_set.specs.Scopes.{policy_stood}
use Rattle.cedar_policy_set.specs.Texts.{syntax_in}
use Rattle.cedar_evaluator.specs.Candidates.{IsOutOfScope, AreCandidates, policies_at}
use Rattle.cedar_evaluator.specs.Evaluations.{Unsatisfied, bindings_in, Annotations, Kept, IsKept, AreKept}
use Rattle.cedar_evaluator.specs.Grouping.{Keeps}
use Rattle.cedar_evaluator.specs.Responses.{Annotated, Holding, if_effect, satisfied_id, open_id, error_id, annotated, holding_of, without_false}
use Rattle.cedar_evaluator.specs.declared.partial_response.PartialResponse.{PartialResponse}
use Rattle.cedar_evaluator.proofs.HeldIds.{front_apart}
use Rattle.cedar_evaluator.proofs.ReadConditions.{out_of_scope_read}
use Rattle.cedar_evaluator.proofs.Scoped.{out_of_scope}
use Rattle.cedar_evaluator.proofs.Thinned.{Thinned, nothing, kept, left_out, thinned, thin_apart}

-- ---- what is kept of one more policy

-- one more policy's annotations before those that are held, but for the false ones
abbrev annotated_first : Kept → Annotated → Annotated
annotated_first k a = record {
  satisfied_permits = cons_option (if_effect Permit k.effect (annotated k (satisfied_id k.id k.found))) a.satisfied_permits;
  false_permits = [];
  open_permits = cons_option (if_effect Permit k.effect (annotated k (open_id k.id k.found))) a.open_permits;
  satisfied_forbids = cons_option (if_effect Forbid k.effect (annotated k (satisfied_id k.id k.found))) a.satisfied_forbids;
  false_forbids = [];
  open_forbids = cons_option (if_effect Forbid k.effect (annotated k (open_id k.id k.found))) a.open_forbids;
}

-- one more policy before those that are held, but for the false ones
abbrev with_first : Kept → Holding → Holding
with_first k h = record {
  satisfied_permits = cons_option (if_effect Permit k.effect (satisfied_id k.id k.found)) h.satisfied_permits;
  false_permits = [];
  open_permits = cons_option (if_effect Permit k.effect (open_id k.id k.found)) h.open_permits;
  satisfied_forbids = cons_option (if_effect Forbid k.effect (satisfied_id k.id k.found)) h.satisfied_forbids;
  false_forbids = [];
  open_forbids = cons_option (if_effect Forbid k.effect (open_id k.id k.found)) h.open_forbids;
  errors = cons_option (error_id k.id k.found) h.errors;
  annotated = annotated_first k h.annotated;
}

first_same : (k : Kept) (js ks : List Kept) → without_false (holding_of js) ≡ without_false (holding_of ks) → without_false (holding_of (k ∷ js)) ≡ without_false (holding_of (k ∷ ks))
first_same k js ks h = ap (with_first k) h

none_kept : (id : Text) (effect : Effect) (annotations : Annotations) (ks : List Kept)
    → without_false (holding_of (record { id = id; effect = effect; annotations = annotations; found = Unsatisfied } ∷ ks)) ≡ without_false (holding_of ks)
none_kept id Permit annotations ks = refl
none_kept id Forbid annotations ks = refl

-- ---- of the policies of a set

abbrev unsatisfied : Text × Entry → Kept
unsatisfied e = record { id = e.0; effect = (syntax_in e.1).effect; annotations = (syntax_in e.1).annotations; found = Unsatisfied }

module _ (i : Inquiry) (store : Entities) (table : Table) (depth : ℕ) where
  out_kept : (e : Text × Entry) → IsOutOfScope i store e.1 → IsKept i store table depth e (unsatisfied e)
  out_kept e out = record {
    id = refl;
    effect = refl;
    annotations = refl;
    found = λ facts served. out_of_scope facts (request_held i (bindings_in e.1)) (scope_tree (syntax_in e.1)) (syntax_in e.1).body (out facts served.entities);
    limit = λ met. absurd (cc met);
    named_limit = λ met. absurd (cc met);
    read = λ facts served. out_of_scope_read (syntax_in e.1) facts (request_held i (bindings_in e.1)) (out facts served.entities);
    read_limit = λ met. absurd (cc met);
  }

  -- what is kept of all, where these are kept of those that may be in scope
  record KeptOfAll (es : Entries) (ks : List Kept) : Type 0 where
    all : List Kept
    each : AreKept i store table depth es all
    same : without_false (holding_of all) ≡ without_false (holding_of ks)

  kept_of_all : {es fs : Entries} → Thinned (IsOutOfScope i store) es fs → (ks : List Kept) → AreKept i store table depth fs ks → KeptOfAll es ks
  kept_of_all nothing [] each = record { all = []; each = tt; same = refl }
  kept_of_all nothing (k ∷ ks) each = absurd each
  kept_of_all (kept e rest) [] each = absurd each
  kept_of_all (kept e rest) (k ∷ ks) each =
      let others = kept_of_all rest ks each.1 in
      record { all = k ∷ others.all; each = (each.0, others.each); same = first_same k others.all ks others.same }
  kept_of_all (left_out e out rest) ks each =
      let others = kept_of_all rest ks each in
      record { all = unsatisfied e ∷ others.all; each = (out_kept e out, others.each); same = none_kept e.0 (syntax_in e.1).effect (syntax_in e.1).annotations others.all ∙ others.same }

  -- where nothing is asked of policies that aren't satisfied, the candidates are enough
  pub candidates_keep : (es : Entries) (ps : List ℕ) (r : PartialResponse) → AreCandidates i store es ps → Keeps false i store table depth (policies_at es ps) r → Keeps false i store table depth (policies_of es) r
  candidates_keep es ps r candidates keeps =
      let all = kept_of_all (thinned (IsOutOfScope i store) es ps candidates.rising candidates.whole) keeps.kept keeps.each in
      record { kept = all.all; each = all.each; holds = keeps.holds ∙ sym all.same }

-- no id stands twice among the policies at positions that rise where none does among all
pub candidates_apart : (es : Entries) (ps : List ℕ) → IsStrictlyIncreasing ps → IsDistinct same_text (keys_of (policies_of es)) → IsDistinct same_text (keys_of (policies_at es ps))
candidates_apart es ps rising = thin_apart (thinned (λ e. Unit {0}) es ps rising (λ p e stands is. inr tt))

-- ---- the candidates in turn

more_at : (es : Entries) (ps : List ℕ) (k d : ℕ) → k < length ps → policies_at es (take (k + 1) ps) ≡ policies_at es (take k ps) ++ cons_option (policy_stood (slice_get es (get_or ps k d))) []
more_at es ps k d inside =
    let at : ℕ → Option (Text × Entry) = λ p. policy_stood (slice_get es p) in
    ap (filter_map at) (take_more ps k d inside) ∙ filter_map-append at (take k ps) (get_or ps k d ∷ [])

pub next_at : (es : Entries) (ps : List ℕ) (k d : ℕ) (e : Text × Entry) → k < length ps → policy_stood (slice_get es (get_or ps k d)) ≡ Some e → policies_at es (take (k + 1) ps) ≡ policies_at es (take k ps) ++ e ∷ []
next_at es ps k d e inside stands = more_at es ps k d inside ∙ ap (λ o. policies_at es (take k ps) ++ cons_option o []) stands

pub none_at : (es : Entries) (ps : List ℕ) (k d : ℕ) → k < length ps → policy_stood (slice_get es (get_or ps k d)) ≡ None → policies_at es (take (k + 1) ps) ≡ policies_at es (take k ps)
none_at es ps k d inside stands = more_at es ps k d inside ∙ ap (λ o. policies_at es (take k ps) ++ cons_option o []) stands ∙ append-nil (policies_at es (take k ps))

-- its id stands at none of the positions before
pub next_apart : (es : Entries) (ps : List ℕ) (k d : ℕ) (e : Text × Entry) → k < length ps → policy_stood (slice_get es (get_or ps k d)) ≡ Some e → IsDistinct same_text (keys_of (policies_at es ps))
    → is_member same_text (keys_of (policies_at es (take k ps))) e.0 ≡ false
next_apart es ps k d e inside stands apart =
    let seen = policies_at es (take k ps) in
    let more = policies_at es (take (k + 1) ps) in
    let rest = policies_at es (drop (k + 1) ps) in
    let all : keys_of (policies_at es ps) ≡ keys_of more ++ keys_of rest =
    ap (λ qs. keys_of (policies_at es qs)) (sym (take-append-drop (k + 1) ps))
    ∙ ap keys_of (filter_map-append (λ p. policy_stood (slice_get es p)) (take (k + 1) ps) (drop (k + 1) ps))
    ∙ map-append (λ x. x.0) more rest in
    let ids : keys_of more ≡ keys_of seen ++ e.0 ∷ [] = ap keys_of (next_at es ps k d e inside stands) ∙ map-append (λ x. x.0) seen (e ∷ []) in
    distinct_apart (keys_of seen) e.0 [] (subst (IsDistinct same_text) ids (front_apart (keys_of more) (keys_of rest) (subst (IsDistinct same_text) all apart)))
