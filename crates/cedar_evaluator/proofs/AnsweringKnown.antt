-- What a response says of a request that gives all that the conditions mention.
use Rattle.std.proofs.Common.{◌≡◌, ℕ, Bool, false, ◌||◌, List, [], ◌∷◌, map, refl, sym, ◌∙◌, ap, subst}
use Rattle.std.specs.List.{AllByRecursion, filter_map}
use Rattle.cedar_language.specs.Answering.{Effect, Judged, is_permit, is_residual, some, residual_permit, residual_forbid, Fills, Filled, nothing, a_policy, RulesAreExact}
use Rattle.cedar_language.specs.Authorization.{Known}
use Rattle.cedar_language.specs.Facts.{Facts}
use Rattle.cedar_language.specs.Uid.{Text}
use Rattle.cedar_partial_evaluation.specs.Leaves.{LeavesDontMatter}
use Rattle.cedar_partial_evaluation.specs.Partial.{KnownIsMeaning}
use Rattle.cedar_entities.specs.declared.store.Entities.{Entities}
use Rattle.cedar_extensions.specs.Failures.{OfKind, LimitMet, MemoryRanOut}
use Rattle.cedar_extensions.specs.Table.{Table}
use Rattle.cedar_evaluator.specs.Asking.{untold}
use Rattle.cedar_policy_set.specs.Entries.{Entries, policies_of}
use Rattle.cedar_requests.specs.Holding.{RequestParts}
use Rattle.cedar_evaluator.specs.Evaluations.{Found, Satisfied, Unsatisfied, Erred, Open, Kept}
use Rattle.cedar_evaluator.specs.Known.{HasGiven, judged_in, IsKnownPolicy, meets_limit, error_of}
use Rattle.cedar_evaluator.specs.Questions.{IsExactOf, KnownRequestsAreAnswered}
use Rattle.cedar_evaluator.specs.Responses.{Holding}
use Rattle.cedar_evaluator.specs.Holding.{holding_in}
use Rattle.cedar_evaluator.proofs.Answering.{Keeps, keeps}
use Rattle.cedar_evaluator.proofs.ByRules.{errors_are}
use Rattle.cedar_evaluator.proofs.Meant.{IsClosed, AreClosed, are_judged}
use Rattle.cedar_evaluator.proofs.Paired.{exact_of}
use Rattle.cedar_evaluator.proofs.Standings.{standing_found, judged}
use Rattle.std.proofs.lemmas.Bool.{and_right as and_false}

-- ---- policies of which nothing is left

fills_itself : (id : Text) (effect : Effect) (f : Found) → IsClosed f → let j : Judged = record { id = id; effect = effect; standing = standing_found f } in Fills j j
fills_itself id effect Satisfied c = record { id = refl; effect = refl; standing = refl; erring = tt; known = refl }
fills_itself id effect Unsatisfied c = record { id = refl; effect = refl; standing = tt; erring = tt; known = refl }
fills_itself id effect (Erred (OfKind k)) c = record { id = refl; effect = refl; standing = tt; erring = (k, refl); known = refl }
fills_itself id effect (Erred LimitMet) c = absurd (cc c.0)
fills_itself id effect (Erred MemoryRanOut) c = absurd (cc c.0)
fills_itself id effect (Open t) c = absurd (cc c.1)

fill_themselves : (ks : List Kept) → AreClosed ks → Filled (map judged ks) (map judged ks)
fill_themselves [] c = nothing
fill_themselves (k ∷ ks) c = a_policy (fills_itself k.id k.effect k.found c.0) (fill_themselves ks c.1)

not_residual : (f : Found) → IsClosed f → is_residual (standing_found f) ≡ false
not_residual Satisfied c = refl
not_residual Unsatisfied c = refl
not_residual (Erred (OfKind k)) c = refl
not_residual (Erred LimitMet) c = refl
not_residual (Erred MemoryRanOut) c = refl
not_residual (Open t) c = absurd (cc c.1)

none_residual : (test : Judged → Bool) → ((j : Judged) → is_residual j.standing ≡ false → test j ≡ false) → (ks : List Kept) → AreClosed ks → some test (map judged ks) ≡ false
none_residual test none [] c = refl
none_residual test none (k ∷ ks) c = λ i. none (judged k) (not_residual k.found c.0) i || none_residual test none ks c.1 i

module _ (rules : RulesAreExact) (law : LeavesDontMatter) (known : KnownIsMeaning) where
  exactly : (facts : Facts) (q : Known) (r : RequestParts) → HasGiven r q → (store : Entities) (table : Table) (depth : ℕ) (es : Entries) → AllByRecursion (IsKnownPolicy (untold r) store table depth facts) es →
      (h : Holding) → Keeps (untold r) store table depth es h → meets_limit h.errors ≡ false →
      IsExactOf h (map (judged_in facts q) es) × (h.errors ≡ filter_map (λ (j : Judged). error_of j.id j.standing) (map (judged_in facts q) es))
  exactly facts q r given store table depth es of h keeps within =
      let ks = keeps.kept in
      let (closed, same) = are_judged law known (untold r) store table depth facts q given es ks of keeps.each (ap meets_limit (sym keeps.errors) ∙ within) in
      let exact = rules (map judged ks) (map judged ks) (fill_themselves ks closed)
      (none_residual residual_permit (λ j h. and_false (is_permit j.effect) (is_residual j.standing) h) ks closed)
      (none_residual residual_forbid (λ j h. and_false _ (is_residual j.standing) h) ks closed) in
      subst (λ (js : List Judged). IsExactOf h js × (h.errors ≡ filter_map (λ (j : Judged). error_of j.id j.standing) js)) same
      (exact_of judged judged (λ k. refl) ks h keeps.alike exact, keeps.errors ∙ errors_are ks closed)

  pub known_answered : KnownRequestsAreAnswered
  known_answered = λ facts q r given store table depth es of with_false response responds within.
      exactly facts q r given store table depth (policies_of es) of (holding_in response) (keeps with_false (untold r) store table depth es response responds) within
