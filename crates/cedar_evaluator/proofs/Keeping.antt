-- One more policy that is kept.
use Rattle.std.proofs.Common.{◌≡◌, ℕ, Bool, true, false, Option, Some, None, List, [], ◌∷◌, ◌++◌, refl, sym, ◌∙◌, ap, subst}
use Rattle.std.specs.List.{IsDistinct, filter_map, cons_option}
use Rattle.std.specs.Map.{keys_of}
use Rattle.std.specs.Set.{is_member}
use Rattle.std.proofs.lemmas.List.{append-nil, map-append}
use Rattle.std.proofs.lemmas.List.Elements.{filter_map-append}
use Rattle.cedar_language.specs.Answering.{Permit, Forbid}
use Rattle.cedar_language.specs.Order.{same_text}
use Rattle.cedar_language.specs.Uid.{Text}
use Rattle.cedar_entities.specs.declared.store.Entities.{Entities}
use Rattle.cedar_extensions.specs.Table.{Table}
use Rattle.cedar_extensions.specs.Answering.{FunctionAnswers}
use Rattle.cedar_evaluator.specs.Asking.{Inquiry}
use Rattle.cedar_interpreter.specs.declared.evaluator.Evaluator.{Evaluator}
use Rattle.cedar_policies.specs.Policies.{policy_id}
use Rattle.cedar_policies.specs.declared.policies.Policy.{Policy}
use Rattle.cedar_policy_set.specs.Bounds.{policy_seen}
use Rattle.cedar_policy_set.specs.Entries.{Entry, Entries, policies_of}
use Rattle.cedar_evaluator.specs.Authorizing.{RespondsWith}
use Rattle.cedar_evaluator.specs.Evaluations.{Found, Kept, IsKept, AreKept}
use Rattle.cedar_evaluator.specs.Grouping.{and_then, with_annotated, with_kept, kept_as, held_with, ids_of, Adds, ForEach, IsNew, Keeps, KeepsBy, KeepsEach}
use Rattle.cedar_evaluator.specs.Holding.{request_asked, holding_in}
use Rattle.cedar_evaluator.specs.Responses.{if_effect, satisfied_id, false_id, open_id, error_id, annotated, annotated_of, errors_of, holding_of}
use Rattle.cedar_evaluator.specs.declared.partial_response.PartialResponse.{PartialResponse}
use Rattle.cedar_evaluator.specs.declared.scopes.Scopes.{Scopes}
use Rattle.cedar_evaluator.proofs.Apart.{is_new}
use Rattle.cedar_evaluator.proofs.HeldIds.{left_apart}

one_pushed : {X : Type 0} (xs : List X) (o : Option X) → xs ++ cons_option o [] ≡ and_then xs o
one_pushed xs None = append-nil xs
one_pushed xs (Some x) = refl

pushed : {X : Type 0} (part : Kept → Option X) (ks : List Kept) (k : Kept) → filter_map part (ks ++ k ∷ []) ≡ and_then (filter_map part ks) (part k)
pushed part ks k = filter_map-append part ks (k ∷ []) ∙ one_pushed (filter_map part ks) (part k)

annotated_more : (ks : List Kept) (k : Kept) → annotated_of (ks ++ k ∷ []) ≡ with_annotated k (annotated_of ks)
annotated_more ks k = λ i. record {
  satisfied_permits = pushed (λ (j : Kept). if_effect Permit j.effect (annotated j (satisfied_id j.id j.found))) ks k i;
  false_permits = pushed (λ (j : Kept). if_effect Permit j.effect (annotated j (false_id j.id j.found))) ks k i;
  open_permits = pushed (λ (j : Kept). if_effect Permit j.effect (annotated j (open_id j.id j.found))) ks k i;
  satisfied_forbids = pushed (λ (j : Kept). if_effect Forbid j.effect (annotated j (satisfied_id j.id j.found))) ks k i;
  false_forbids = pushed (λ (j : Kept). if_effect Forbid j.effect (annotated j (false_id j.id j.found))) ks k i;
  open_forbids = pushed (λ (j : Kept). if_effect Forbid j.effect (annotated j (open_id j.id j.found))) ks k i;
}

pub errors_more : (ks : List Kept) (k : Kept) → errors_of (ks ++ k ∷ []) ≡ and_then (errors_of ks) (error_id k.id k.found)
errors_more ks k = pushed (λ (j : Kept). error_id j.id j.found) ks k

pub holding_more : (ks : List Kept) (k : Kept) → holding_of (ks ++ k ∷ []) ≡ with_kept k (holding_of ks)
holding_more ks k = λ i. record {
  satisfied_permits = pushed (λ (j : Kept). if_effect Permit j.effect (satisfied_id j.id j.found)) ks k i;
  false_permits = pushed (λ (j : Kept). if_effect Permit j.effect (false_id j.id j.found)) ks k i;
  open_permits = pushed (λ (j : Kept). if_effect Permit j.effect (open_id j.id j.found)) ks k i;
  satisfied_forbids = pushed (λ (j : Kept). if_effect Forbid j.effect (satisfied_id j.id j.found)) ks k i;
  false_forbids = pushed (λ (j : Kept). if_effect Forbid j.effect (false_id j.id j.found)) ks k i;
  open_forbids = pushed (λ (j : Kept). if_effect Forbid j.effect (open_id j.id j.found)) ks k i;
  errors = errors_more ks k i;
  annotated = annotated_more ks k i;
}

none_kept : (with_false : Bool) → held_with with_false (holding_of []) ≡ holding_of []
none_kept true = refl
none_kept false = refl

-- ---- of the policies of a set

module _ (with_false : Bool) (i : Inquiry) (store : Entities) (table : Table) (depth : ℕ) where
  each_more : (es : Entries) (ks : List Kept) (e : Text × Entry) (k : Kept) → AreKept i store table depth es ks
      → IsKept i store table depth e k → AreKept i store table depth (es ++ e ∷ []) (ks ++ k ∷ [])
  each_more [] [] e k each this = (this, tt)
  each_more [] (j ∷ ks) e k each this = absurd each
  each_more (d ∷ es) [] e k each this = absurd each
  each_more (d ∷ es) (j ∷ ks) e k each this = (each.0, each_more es ks e k each.1 this)

  ids_kept : (es : Entries) (ks : List Kept) → AreKept i store table depth es ks → ids_of ks ≡ keys_of es
  ids_kept [] [] each = refl
  ids_kept [] (k ∷ ks) each = absurd each
  ids_kept (e ∷ es) [] each = absurd each
  ids_kept (e ∷ es) (k ∷ ks) each = λ j. each.0.id j ∷ ids_kept es ks each.1 j

  ids_apart : (es : Entries) (r : PartialResponse) (keeps : Keeps with_false i store table depth es r)
      → IsDistinct same_text (keys_of es) → IsDistinct same_text (ids_of keeps.kept)
  ids_apart es r keeps apart = subst (IsDistinct same_text) (sym (ids_kept es keeps.kept keeps.each)) apart

  responds_with : (b : Bool) (es : Entries) (ks : List Kept) → AreKept i store table depth (policies_of es) ks → IsDistinct same_text (ids_of ks)
      → (r : PartialResponse) → holding_in r ≡ held_with b (holding_of ks) → request_asked r ≡ i.request → RespondsWith b i store table depth es r
  responds_with true es ks each apart r holds asked = record { kept = ks; each = each; holds = holds; asked = asked; apart = left_apart true r ks holds apart }
  responds_with false es ks each apart r holds asked = record { kept = ks; each = each; holds = holds; asked = asked; apart = left_apart false r ks holds apart }

  -- a response that keeps the policies of a set
  pub responds : (es : Entries) (r : PartialResponse) → Keeps with_false i store table depth (policies_of es) r
      → IsDistinct same_text (keys_of (policies_of es)) → request_asked r ≡ i.request → RespondsWith with_false i store table depth es r
  responds es r keeps apart asked = responds_with with_false es keeps.kept keeps.each (ids_apart (policies_of es) r keeps apart) r keeps.holds asked

-- ---- for each inquiry

module _ {F : Type 0} (answers : F → FunctionAnswers) (with_false : Bool) (ev : Evaluator F) (scopes : Scopes) where
  pub keeps_none : (r : PartialResponse) → holding_in r ≡ holding_of [] → KeepsEach answers with_false ev scopes [] r
  keeps_none r none = record { kept = []; ids = refl; each = λ i store table depth is by. tt; holds = none ∙ sym (none_kept with_false) }

  pub keeps_more : (es : Entries) (r h : PartialResponse) (p : Policy) (found : Found)
      → KeepsEach answers with_false ev scopes es r → Adds with_false (kept_as p found) r h
      → ForEach answers ev scopes (λ i store table depth. IsKept i store table depth (policy_seen p) (kept_as p found))
      → KeepsEach answers with_false ev scopes (es ++ policy_seen p ∷ []) h
  keeps_more es r h p found keeps more this =
      let k = kept_as p found in
      record {
        kept = keeps.kept ++ k ∷ [];
        ids =
            map-append (λ (j : Kept). j.id) keeps.kept (k ∷ [])
            ∙ ap (λ ids. ids ++ policy_id p ∷ []) keeps.ids
            ∙ sym (map-append (λ e. e.0) es (policy_seen p ∷ []));
        each = λ i store table depth is by.
            each_more with_false i store table depth es keeps.kept (policy_seen p) k
            (keeps.each i store table depth is by) (this i store table depth is by);
        holds = more keeps.kept keeps.holds;
      }

  pub keeps_by : (es : Entries) (r : PartialResponse) → KeepsEach answers with_false ev scopes es r → KeepsBy answers with_false ev scopes es r
  keeps_by es r keeps = λ i store table depth is by. record { kept = keeps.kept; each = keeps.each i store table depth is by; holds = keeps.holds }

  -- a policy whose id isn't among those of the policies so far is new
  pub next_new : (es : Entries) (r : PartialResponse) (p : Policy)
      → KeepsEach answers with_false ev scopes es r → is_member same_text (keys_of es) (policy_id p) ≡ false → IsNew p r
  next_new es r p keeps free = is_new p r with_false keeps.kept keeps.holds (ap (λ ids. is_member same_text ids (policy_id p)) keeps.ids ∙ free)
