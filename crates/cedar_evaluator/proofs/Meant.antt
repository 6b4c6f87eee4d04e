-- Where a policy's condition mentions nothing unknown, what was found of it is how it stands by what the condition means.
use Rattle.std.proofs.Common.{◌≡◌, ℕ, Bool, true, false, List, [], ◌∷◌, map, refl, sym, ◌∙◌, ap}
use Rattle.std.specs.List.{AllByRecursion, cons_option}
use Rattle.cedar_language.specs.Authorization.{Known, request_at, standing_of}
use Rattle.cedar_language.specs.Facts.{Facts}
use Rattle.cedar_language.specs.Meaning.{Request, slot_outcome, meaning}
use Rattle.cedar_language.specs.Tree.{Boolean, Long, String, Entity, Tree}
use Rattle.cedar_language.specs.Uid.{Text}
use Rattle.cedar_language.specs.Value.{Value, Plain, SetOf, RecordOf, ExtensionOf, Outcome, Gives, Fails}
use Rattle.cedar_partial_evaluation.specs.Early.{standing_of_answer}
use Rattle.cedar_partial_evaluation.specs.Leaves.{is_left, AreKnown, AnswerAlike, LeavesDontMatter}
use Rattle.cedar_partial_evaluation.specs.Partial.{Answer, Evaluated, ResidualTree, Failed, answer_of, leaf_answers_of, partial_in, KnownIsMeaning}
use Rattle.cedar_policy_parts.specs.Bindings.{binding_of}
use Rattle.cedar_entities.specs.declared.store.Entities.{Entities}
use Rattle.cedar_extensions.specs.Failures.{Failure, OfKind, LimitMet, MemoryRanOut}
use Rattle.cedar_extensions.specs.Table.{Table}
use Rattle.cedar_evaluator.specs.Asking.{Inquiry, variable_asked, request_held}
use Rattle.cedar_interpreter.specs.Holding.{is_evaluated}
use Rattle.cedar_policy_set.specs.Entries.{Entry, Entries}
use Rattle.cedar_policy_set.specs.Texts.{condition_in}
use Rattle.cedar_evaluator.specs.Evaluations.{Found, Satisfied, Unsatisfied, Erred, Open, Finds, bindings_in, is_given, Kept, IsKept, AreKept}
use Rattle.cedar_evaluator.specs.Known.{HasGiven, judged_in, IsKnownPolicy, meets_limit}
use Rattle.cedar_evaluator.specs.Responses.{error_id, errors_of}
use Rattle.cedar_evaluator.proofs.Standings as standings
use Rattle.cedar_evaluator.proofs.Standings.{is_settled, stands_as_found}

-- ---- answers that are known

valued : (a : Answer) (w : Value) → is_evaluated a ≡ true → ((v : Value) → a ≡ Evaluated v → w ≡ v) → a ≡ Evaluated w
valued (Evaluated v) w h same = ap Evaluated (sym (same v refl))
valued (ResidualTree r) w h same = cc
valued (Failed k) w h same = cc

not_left : (a : Answer) → is_evaluated a ≡ true → is_left a ≡ false
not_left (Evaluated v) h = refl
not_left (ResidualTree r) h = cc
not_left (Failed k) h = refl

never_left : (o : Outcome) → is_left (answer_of o) ≡ false
never_left (Gives v) = refl
never_left (Fails k) = refl

-- a policy stands by what its condition means as by that answer
stands_alike : (o : Outcome) → standing_of_answer (answer_of o) ≡ standing_of o
stands_alike (Gives (Plain (Boolean true))) = refl
stands_alike (Gives (Plain (Boolean false))) = refl
stands_alike (Gives (Plain (Long n))) = refl
stands_alike (Gives (Plain (String t))) = refl
stands_alike (Gives (Plain (Entity u))) = refl
stands_alike (Gives (SetOf vs)) = refl
stands_alike (Gives (RecordOf ks vs)) = refl
stands_alike (Gives (ExtensionOf x)) = refl
stands_alike (Fails k) = refl

-- ---- what was found where nothing is left

abbrev pub is_open : Found → Bool
is_open (Open t) = true
is_open f = false

abbrev pub IsClosed : Found → Type 0
IsClosed f = (is_settled f ≡ true) × (is_open f ≡ false)

abbrev pub AreClosed : List Kept → Type 0
AreClosed ks = AllByRecursion (λ (k : Kept). IsClosed k.found) ks

no_residual : (o : Outcome) (b : Answer) (t : Tree) → b ≡ answer_of o → b ≡ ResidualTree t → true ≡ false
no_residual o b t is left = sym (ap is_left left) ∙ ap is_left is ∙ never_left o

closed_so : (id : Text) (f : Found) (b : Answer) (o : Outcome) (rest : List (Text × Failure)) → b ≡ answer_of o → Finds b f → meets_limit (cons_option (error_id id f) rest) ≡ false → IsClosed f × (meets_limit rest ≡ false)
closed_so id Satisfied b o rest is found within = ((refl, refl), within)
closed_so id Unsatisfied b o rest is found within = ((refl, refl), within)
closed_so id (Erred (OfKind k)) b o rest is found within = ((refl, refl), within)
closed_so id (Erred LimitMet) b o rest is found within = absurd (cc within)
closed_so id (Erred MemoryRanOut) b o rest is found within = absurd found
closed_so id (Open t) b o rest is found within = absurd (cc (no_residual o b t is found))

-- ---- of the policies of a set

module _ (law : LeavesDontMatter) (known : KnownIsMeaning) (i : Inquiry) (store : Entities) (table : Table) (depth : ℕ) (facts : Facts) (q : Known) (given : HasGiven i.request q) where
  abbrev request_for : Entry → Request
  request_for e = request_at q (binding_of (bindings_in e))

  module _ (e : Text × Entry) (of : IsKnownPolicy i store table depth facts e) where
    are_known : AreKnown (is_given i) true (request_held i (bindings_in e.1))
    are_known = record {
      variable = λ v h. not_left (variable_asked i.request v) h;
      slot = λ s h. never_left (slot_outcome (binding_of (bindings_in e.1) s));
    }

    are_alike : AnswerAlike (is_given i) true (request_held i (bindings_in e.1)) (leaf_answers_of (request_for e.1))
    are_alike = record {
      variable = λ v h. valued (variable_asked i.request v) ((request_for e.1).variable v) h (given v);
      slot = λ s h. refl;
    }

    answer_is : partial_in facts (request_held i (bindings_in e.1)) (condition_in e.1) ≡ answer_of (meaning facts (request_for e.1) (condition_in e.1))
    answer_is =
        law.answers facts (is_given i) true (request_held i (bindings_in e.1)) (leaf_answers_of (request_for e.1)) are_known are_alike (condition_in e.1) of.mentions
        ∙ known facts (request_for e.1) (condition_in e.1)

    module _ (k : Kept) (kept : IsKept i store table depth e k) where
      closed : (rest : List (Text × Failure)) → meets_limit (cons_option (error_id k.id k.found) rest) ≡ false → IsClosed k.found × (meets_limit rest ≡ false)
      closed rest = closed_so k.id k.found _ (meaning facts (request_for e.1) (condition_in e.1)) rest answer_is (kept.found facts of.served)

      judged_same : IsClosed k.found → standings.judged k ≡ judged_in facts q e
      judged_same c = λ j. record {
        id = kept.id j;
        effect = kept.effect j;
        standing = (stands_as_found _ k.found c.0 (kept.found facts of.served) ∙ ap standing_of_answer answer_is ∙ stands_alike (meaning facts (request_for e.1) (condition_in e.1))) j;
      }

  -- nothing is left of any, and each stands by what its condition means
  pub are_judged : (es : Entries) (ks : List Kept) → AllByRecursion (IsKnownPolicy i store table depth facts) es → AreKept i store table depth es ks → meets_limit (errors_of ks) ≡ false
      → AreClosed ks × (map standings.judged ks ≡ map (judged_in facts q) es)
  are_judged [] [] of each within = (tt, refl)
  are_judged [] (k ∷ ks) of each within = absurd each
  are_judged (e ∷ es) [] of each within = absurd each
  are_judged (e ∷ es) (k ∷ ks) of each within =
      let (here, more) = closed e of.0 k each.0 (errors_of ks) within in
      let (closed_rest, rest) = are_judged es ks of.1 each.1 more in
      ((here, closed_rest), λ j. judged_same e of.0 k each.0 here j ∷ rest j)
