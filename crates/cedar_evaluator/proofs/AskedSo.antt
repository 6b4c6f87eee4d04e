-- What is held of a request is what is held of the question that it asks, and its policies stand as in the question.
use Rattle.std.proofs.Common.{◌≡◌, ℕ, false, true, Option, Some, None, List, [], ◌∷◌, map, codes, refl, sym, ◌∙◌, ap}
use Rattle.std.specs.FinMap as finite
use Rattle.std.specs.FinMap.{get-empty}
use Rattle.std.specs.List.{AllByRecursion}
use Rattle.either.specs.declared.Either.{Either}
use Rattle.either.specs.declared.Either.TheVariants.{Left, Right}
use Rattle.cedar_language.specs.Facts.{Facts}
use Rattle.cedar_language.specs.Meaning.{slot_outcome}
use Rattle.cedar_language.specs.Order.{text_cmp}
use Rattle.cedar_language.specs.Tree.{Variable, Principal, Action, Resource, Context, Tree}
use Rattle.cedar_language.specs.Uid.{Text}
use Rattle.cedar_language.specs.Value.{Value, Kind}
use Rattle.cedar_partial_evaluation.specs.Early.{standing_of_answer, judged_early}
use Rattle.cedar_partial_evaluation.specs.MadeAgain.{HoldsMade}
use Rattle.cedar_partial_evaluation.specs.Partial.{Failed, LeafAnswers, answer_of, partial_in}
use Rattle.cedar_partial_evaluation.specs.Prompt.{IsPrompt}
use Rattle.cedar_partial_evaluation.specs.Question.{Part, Entries as Written, Question, Told, Extends, AreMadeTold, IsAccepted, part_held, name_held, variable_held, context_held, held_of}
use Rattle.cedar_policy_parts.specs.Bindings.{Bindings, binding_of}
use Rattle.cedar_entities.specs.declared.store.Entities.{Entities}
use Rattle.cedar_extensions.specs.Table.{Table}
use Rattle.cedar_evaluator.specs.Asking.{Inquiry, untold, context_asked, variable_asked, request_held}
use Rattle.cedar_policy_set.specs.Entries.{Entry, Entries}
use Rattle.cedar_policy_set.specs.Texts.{condition_in}
use Rattle.cedar_requests.specs.Holding.{RequestParts}
use Rattle.cedar_evaluator.specs.Evaluations.{bindings_in, Kept, IsKept, AreKept, IsServed}
use Rattle.cedar_evaluator.specs.Known.{policy_in, meets_limit}
use Rattle.cedar_evaluator.specs.Questions.{AsksContext, neither_given, both_given, Asks}
use Rattle.cedar_evaluator.specs.Responses.{errors_of}
use Rattle.cedar_evaluator.proofs.Accepting.{accepts_told}
use Rattle.cedar_evaluator.proofs.Erring.{settled_one}
use Rattle.cedar_evaluator.proofs.Standings.{judged, is_settled, stands_as_found}

-- ---- nothing is told

none_is_told : (n : Text) (v : Value) → finite.get {R = text_cmp} finite.empty n ≡ Some v → ⊥
none_is_told n v h = let no : ◌≡◌ {A = Option Value} None (Some v) = sym (get-empty text_cmp n) ∙ h in cc

pub extends_nothing : (told : Told) → Extends finite.empty told
extends_nothing told n v h = absurd (none_is_told n v h)

pub nothing_is_made : (facts : Facts) → AreMadeTold facts finite.empty
nothing_is_made facts n v h = absurd (none_is_told n v h)

-- ---- the request

pub asked_not_failed : (o : Option (Either Value Tree)) (k : Kind) → context_asked o ≡ Failed k → ⊥
asked_not_failed None k h = cc
asked_not_failed (Some (Left v)) k h = cc
asked_not_failed (Some (Right t)) k h = cc

module _ (facts : Facts) (q : Question) where
  -- what is held of an inquiry, by what stands for its variables and names
  pub held_so : (i : Inquiry) (told : Told) → ((v : Variable) → variable_asked i.request v ≡ variable_held facts q told v) → ((n : Text) → i.told n ≡ finite.get told n) → (slots : Bindings) →
      request_held i slots ≡ held_of facts q (binding_of slots) told
  held_so i told variables names slots = λ j. record {
    variable = λ v. variables v j;
    unknown = λ n ty. name_held (names n j) n ty;
    slot = λ s. answer_of (slot_outcome (binding_of slots s));
  }

  asked_part : (p s : Part) (n : Text) → p ≡ s → part_held p None n ≡ part_held s (finite.get {R = text_cmp} finite.empty n) n
  asked_part p s n e = ap (λ (p : Part). part_held p None n) e ∙ ap (λ (o : Option Value). part_held s o n) (sym (get-empty text_cmp n))

  asked_context : (c : Written) (o : Option (Either Value Tree)) → AsksContext facts c o → context_asked o ≡ context_held facts finite.empty c
  asked_context c o neither_given = ap (λ (o : Option Value). name_held o (codes "context") None) (sym (get-empty text_cmp (codes "context")))
  asked_context c o (both_given given is) = is

  module _ (r : RequestParts) (asks : Asks facts q r) where
    asked_so : (v : Variable) → variable_asked r v ≡ variable_held facts q finite.empty v
    asked_so Principal = asked_part r.principal q.principal (codes "principal") asks.principal
    asked_so Action = asked_part r.action q.action (codes "action") asks.action
    asked_so Resource = asked_part r.resource q.resource (codes "resource") asks.resource
    asked_so Context = asked_context q.context r.context asks.context

    pub asked_held : (slots : Bindings) → request_held (untold r) slots ≡ held_of facts q (binding_of slots) finite.empty
    asked_held = held_so (untold r) finite.empty asked_so (λ n. sym (get-empty text_cmp n))

    pub asked_accepted : IsPrompt → HoldsMade facts → IsAccepted facts finite.empty q.context
    asked_accepted prompt good = accepts_told prompt facts good finite.empty (nothing_is_made facts) q.context (λ k e. asked_not_failed r.context k (asked_so Context ∙ e))

  -- ---- the policies

  module _ (i : Inquiry) (store : Entities) (table : Table) (depth : ℕ) (told : Told) (holds : (slots : Bindings) → request_held i slots ≡ held_of facts q (binding_of slots) told) where
    stands_early : (e : Text × Entry) (k : Kept) → IsKept i store table depth e k → IsServed i store table depth facts (condition_in e.1) → is_settled k.found ≡ true → judged k ≡ judged_early facts q told (policy_in e)
    stands_early e k kept served settled = λ j. record {
      id = kept.id j;
      effect = kept.effect j;
      standing = (stands_as_found _ k.found settled (kept.found facts served) ∙ ap (λ (h : LeafAnswers). standing_of_answer (partial_in facts h (condition_in e.1))) (holds (bindings_in e.1))) j;
    }

    pub all_early : (es : Entries) (ks : List Kept) → AllByRecursion (λ e. IsServed i store table depth facts (condition_in e.1)) es → AreKept i store table depth es ks → meets_limit (errors_of ks) ≡ false →
        map judged ks ≡ map (judged_early facts q told) (map policy_in es)
    all_early [] [] served each within = refl
    all_early [] (k ∷ ks) served each within = absurd each
    all_early (e ∷ es) [] served each within = absurd each
    all_early (e ∷ es) (k ∷ ks) served each within =
        let (settled, more) = settled_one k.id k.found _ (errors_of ks) (each.0.found facts served.0) within in
        λ j. stands_early e k each.0 served.0 settled j ∷ all_early es ks served.1 each.1 more j
