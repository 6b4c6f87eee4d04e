-- What a response that is taken up again says of the question that its request asks.
use Rattle.std.proofs.Common.{◌≡◌, ◌⊎◌, inl, inr, ℕ, Bool, true, false, List, [], ◌∷◌, map, Contains, refl, sym, ◌∙◌, ap, subst}
use Rattle.std.specs.FinMap as finite
use Rattle.std.specs.List.{AllByRecursion}
use Rattle.std.specs.declared.alloc.Global.{Global}
use Rattle.std.specs.declared.rc.RcStr.{RcStr}
use Rattle.cedar_language.specs.Answering as answering
use Rattle.cedar_language.specs.Answering.{Judged, Standing, HasErred}
use Rattle.cedar_language.specs.Authorization.{Policy}
use Rattle.cedar_language.specs.Facts.{Facts}
use Rattle.cedar_language.specs.Uid.{Text}
use Rattle.cedar_language.specs.Value.{Value, Kind}
use Rattle.cedar_partial_evaluation.specs.Early.{judged_early, judged_filled, judged_settled}
use Rattle.cedar_partial_evaluation.specs.MadeAgain.{HoldsMade}
use Rattle.cedar_partial_evaluation.specs.Prompt.{IsPrompt}
use Rattle.cedar_partial_evaluation.specs.Question.{Question, Told, AreMadeTold, held_of}
use Rattle.cedar_partial_evaluation.specs.Partial.{partial_in}
use Rattle.cedar_policy_parts.specs.Bindings.{binding_of}
use Rattle.cedar_partial_evaluation.specs.Reauthorizing.{IsErring, condition_again, judged_again, ReauthorizingIsFair, ReauthorizingIsSharp, ErrorsAreNamed, ReauthorizingIsExact}
use Rattle.cedar_entities.specs.declared.store.Entities.{Entities}
use Rattle.cedar_extensions.specs.Failures.{Failure, OfKind}
use Rattle.cedar_extensions.specs.Table.{Table}
use Rattle.cedar_evaluator.specs.Asking.{Inquiry, untold}
use Rattle.cedar_interpreter.specs.Operating.{NamesNothing}
use Rattle.cedar_policy_set.specs.Entries.{Entry, Entries, policies_of}
use Rattle.cedar_policy_set.specs.Texts.{condition_in}
use Rattle.cedar_requests.specs.Holding.{RequestParts}
use Rattle.cedar_requests.specs.ToldContexts.{HoldTold, ToldContextsStay}
use Rattle.cedar_substitution.specs.Told.{told_for}
use Rattle.cedar_evaluator.specs.Concretizing.{IsConcreteRequest}
use Rattle.cedar_evaluator.specs.Evaluations.{bindings_in, Kept, IsKept, IsServed}
use Rattle.cedar_evaluator.specs.Holding.{holding_in}
use Rattle.cedar_evaluator.specs.Known.{policy_in, meets_limit}
use Rattle.cedar_evaluator.specs.Questions.{Asks, policies_asked, AreServed, TellsError, IsPlainContext, IsLeftServed, AnswersLater, LaterResponsesAnswerRequests}
use Rattle.cedar_evaluator.specs.Reauthorizing.{IsReauthorized}
use Rattle.cedar_evaluator.specs.Residuals.{residuals_with, is_any}
use Rattle.cedar_evaluator.specs.Responses.{Holding, errors_of, judged_held}
use Rattle.cedar_evaluator.specs.declared.partial_response.PartialResponse.{PartialResponse}
use Rattle.cedar_evaluator.proofs.Answering.{Keeps, keeps, request_is, erred_at}
use Rattle.cedar_evaluator.proofs.AskedAgain.{told_held, told_accepted, taken_up_as, out_again, stands_again}
use Rattle.cedar_evaluator.proofs.AskedSo.{extends_nothing, nothing_is_made, asked_held, asked_accepted}
use Rattle.cedar_evaluator.proofs.Counted.{counts, CountAlike}
use Rattle.cedar_evaluator.proofs.Erring.{errors_seen, errors_told, settled_among}
use Rattle.cedar_evaluator.proofs.Grouped.{all_count_alike}
use Rattle.cedar_evaluator.proofs.KeptOf.{kept_of, of_kept}
use Rattle.cedar_evaluator.proofs.Lists.{IsAmong, contained, contains, mapped, unmapped}
use Rattle.cedar_evaluator.proofs.Paired.{fair_of, sharp_of, exact_of}
use Rattle.cedar_evaluator.proofs.Standings.{judged}
use Rattle.cedar_evaluator.proofs.Taken.{clause_of, is_out, IsLeftOf, is_left, left_of}

-- what holds of each holds of one
all_at : {X : Type 0} (P : X → Type 0) (xs : List X) → AllByRecursion P xs → (x : X) → IsAmong x xs → P x
all_at P [] all x a = absurd a
all_at P (y ∷ xs) all x (inl e) = subst P e all.0
all_at P (y ∷ xs) all x (inr a) = all_at P xs all.1 x a

module _ (stay : ToldContextsStay) (facts : Facts) (good : HoldsMade facts) (q : Question) (r : RequestParts) (asks : Asks facts q r)
    (store : Entities) (table : Table) (depth : ℕ) (es : Entries) (served : AreServed (untold r) store table depth facts es)
    (first : PartialResponse) (of : Keeps (untold r) store table depth (policies_of es) (holding_in first)) (within : meets_limit (holding_in first).errors ≡ false)
    (entries : List (RcStr Global × Value)) (told : Told) (same : HoldTold entries told) (made : AreMadeTold facts told)
    (late_store : Entities) (late_table : Table) (late_depth : ℕ) (plain : IsPlainContext late_table q.context r.context) (left_served : IsLeftServed late_store late_table facts first)
    (again : PartialResponse) (re : IsReauthorized late_store late_table late_depth entries first again) (concrete : IsConcreteRequest late_table late_depth entries r re.request)
    (late_within : meets_limit (holding_in again).errors ≡ false) where
  abbrev inquiry : Inquiry
  inquiry = record { request = re.request; told = told_for entries }

  abbrev left : Entries
  left = residuals_with is_any first

  abbrev ks : List Kept
  ks = of.kept

  abbrev ls : List Kept
  ls = re.kept

  abbrev ps : List Policy
  ps = policies_asked es

  abbrev as_again : Policy → Judged
  as_again = judged_again facts q finite.empty told

  abbrev held : Holding
  held = holding_in again

  errors_are : held.errors ≡ errors_of ls
  errors_are = ap (λ (h : Holding). h.errors) re.holds

  first_served : (e : Text × Entry) → IsAmong e (policies_of es) → IsServed (untold r) store table depth facts (condition_in e.1)
  first_served e a = all_at (λ (e : Text × Entry). IsServed (untold r) store table depth facts (condition_in e.1)) (policies_of es) served e a

  later_served : (d : Text × Entry) → IsAmong d left → IsServed inquiry late_store late_table late_depth facts (condition_in d.1)
  later_served d a = record {
    entities = left_served.entities;
    functions = left_served.functions;
    names_nothing = all_at (λ (d : Text × Entry). NamesNothing late_table (condition_in d.1)) left left_served.names_nothing d a;
  }

  module _ (e : Text × Entry) (in_es : IsAmong e (policies_of es)) (k : Kept) (in_ks : IsAmong k ks) (k_kept : IsKept (untold r) store table depth e k) where
    taken : condition_again (partial_in facts (held_of facts q (binding_of (bindings_in e.1)) finite.empty) (condition_in e.1)) ≡ clause_of k.found
    taken =
        taken_up_as facts q finite.empty told e k (untold r) store table depth (asked_held facts q r asks) k_kept (first_served e in_es)
        (settled_among ks (ap meets_limit (sym of.errors) ∙ within) k in_ks _ (k_kept.found facts (first_served e in_es)))

    out : is_out k.found ≡ true → (as_again (policy_in e)).standing ≡ answering.Unsatisfied
    out = out_again facts q finite.empty told e k taken

    stands : (d : Text × Entry) → IsAmong d left → IsLeftOf k d → (l : Kept) → IsAmong l ls → IsKept inquiry late_store late_table late_depth d l → judged l ≡ as_again (policy_in e)
    stands d in_left left_is l in_ls l_kept =
        stands_again facts q finite.empty told e k taken inquiry late_store late_table late_depth
        (told_held stay facts good q r asks late_table late_depth left_served.functions entries told same made plain re.request concrete)
        l d l_kept (later_served d in_left)
        (settled_among ls (ap meets_limit (sym errors_are) ∙ late_within) l in_ls _ (l_kept.found facts (later_served d in_left)))
        left_is k_kept.id k_kept.effect

    -- it isn't satisfied, whatever is told, or something is left of it
    either_out : (b : Bool) → is_out k.found ≡ b → ((as_again (policy_in e)).standing ≡ answering.Unsatisfied) ⊎ IsAmong (as_again (policy_in e)) (map judged ls)
    either_out true is = inl (out is)
    either_out false is =
        let (d, in_left, left_is) = left_of ks first of.holds k is in_ks in
        let (l, in_ls, l_kept) = of_kept inquiry late_store late_table late_depth left ls re.each d in_left in
        inr (subst (λ (j : Judged). IsAmong j (map judged ls)) (stands d in_left left_is l in_ls l_kept) (mapped judged ls l in_ls))

  either : (p : Policy) → IsAmong p ps → ((as_again p).standing ≡ answering.Unsatisfied) ⊎ IsAmong (as_again p) (map judged ls)
  either p in_ps =
      let (e, in_es, is) = unmapped policy_in (policies_of es) p in_ps in
      let (k, in_ks, k_kept) = of_kept (untold r) store table depth (policies_of es) ks of.each e in_es in
      subst (λ (p : Policy). ((as_again p).standing ≡ answering.Unsatisfied) ⊎ IsAmong (as_again p) (map judged ls)) is (either_out e in_es k in_ks k_kept (is_out k.found) refl)

  back : (j : Judged) → IsAmong j (map judged ls) → IsAmong j (map as_again ps)
  back j a =
      let (l, in_ls, is) = unmapped judged ls j a in
      let (d, in_left, l_kept) = kept_of inquiry late_store late_table late_depth left ls re.each l in_ls in
      let (k, in_ks, left_is) = is_left ks first of.holds d in_left in
      let (e, in_es, k_kept) = kept_of (untold r) store table depth (policies_of es) ks of.each k in_ks in
      subst (λ (j : Judged). IsAmong j (map as_again ps)) (sym (stands e in_es k in_ks k_kept d in_left left_is l in_ls l_kept) ∙ is) (mapped as_again ps (policy_in e) (mapped policy_in (policies_of es) e in_es))

  not_counted : (s : Standing) (j : Judged) → s ≡ answering.Unsatisfied → j.standing ≡ s → counts j ≡ true → ⊥
  not_counted s j is same c = let no : false ≡ true = sym (ap (λ (x : Standing). counts (record j { standing = x })) (same ∙ is)) ∙ c in cc

  there : (j : Judged) → IsAmong j (map as_again ps) → counts j ≡ true → IsAmong j (map judged ls)
  there j a c =
      let (p, in_ps, is) = unmapped as_again ps j a in
      elim (either p in_ps) [
        | inl u ↦ absurd (not_counted (as_again p).standing j u (sym (ap (λ (j : Judged). j.standing) is)) c)
        | inr h ↦ subst (λ (j : Judged). IsAmong j (map judged ls)) is h
      ]

  kept_alike : CountAlike (judged_held held) (map judged ls)
  kept_alike = subst (λ (h : Holding). CountAlike (judged_held h) (map judged ls)) (sym re.holds) (all_count_alike ls)

  alike : CountAlike (judged_held held) (map as_again ps)
  alike = record { there = λ j a c. kept_alike.there j (there j a c) c; back = λ j a c. back j (kept_alike.back j a c) }

  -- ---- errors

  seen : (id : Text) (k : Kind) → TellsError held id k → HasErred (map as_again ps) id k
  seen id k c =
      let (j, in_ls, is, errs) = errors_seen ls id k (subst (λ (es : List (Text × Failure)). Contains es (id, OfKind k)) errors_are c) in
      (j, contains (map as_again ps) j (back j (contained (map judged ls) j in_ls)), is, errs)

  again_at : (p : Policy) → Contains ps p → (k : Kind) → (as_again p).standing ≡ answering.Erring k → TellsError held p.id k
  again_at p c k errs =
      elim (either p (contained ps p c)) [
        | inl u ↦ absurd (unsatisfied (sym u ∙ errs))
        | inr a ↦ subst (λ (es : List (Text × Failure)). Contains es (p.id, OfKind k)) (sym errors_are) (errors_told ls p.id k (as_again p, contains (map judged ls) (as_again p) a, refl, errs))
      ]
    where
      unsatisfied : answering.Unsatisfied ≡ answering.Erring k → ⊥
      unsatisfied e = cc

  named : (p : Policy) → Contains ps p → IsErring (judged_early facts q finite.empty p).standing ⊎ IsErring (as_again p).standing → (k : Kind) × (TellsError (holding_in first) p.id k ⊎ TellsError held p.id k)
  named p c (inl (k, errs)) = (k, inl (erred_at facts good q r asks store table depth es served (holding_in first) of within p c k errs))
  named p c (inr (k, errs)) = (k, inr (again_at p c k errs))

  pub answers_later : ReauthorizingIsFair → ReauthorizingIsSharp → ErrorsAreNamed → ReauthorizingIsExact → IsPrompt → AnswersLater facts q ps told (holding_in first) held
  answers_later fair sharp errors exact prompt =
      let nothing = nothing_is_made facts in
      let extends = extends_nothing told in
      let before = asked_accepted facts q r asks prompt good in
      let after = told_accepted stay facts good q r asks late_table late_depth left_served.functions entries told same made plain re.request concrete prompt in
      record {
        fair = λ filling known keeps fills gives.
            fair_of as_again (judged_filled facts known filling) (λ p. refl) ps held alike seen (fair facts good q finite.empty told filling known extends keeps nothing made fills ps gives);
        prompt = sharp_of as_again (judged_settled facts q told) (λ p. refl) ps held alike (sharp facts good q finite.empty told extends nothing made before after ps);
        erring = λ p c errs. named p c (errors facts good q finite.empty told extends nothing made before after p errs);
        known = λ request fills gives. exact_of as_again (judged_filled facts request told) (λ p. refl) ps held alike ((exact facts good q finite.empty told request extends nothing made fills).exact ps gives);
        known_erring = λ request fills p c gives errs. named p c ((exact facts good q finite.empty told request extends nothing made fills).erring p gives errs);
      }

pub later_responses_answer : ToldContextsStay → ReauthorizingIsFair → ReauthorizingIsSharp → ErrorsAreNamed → ReauthorizingIsExact → IsPrompt → LaterResponsesAnswerRequests
later_responses_answer stay fair sharp errors exact prompt = λ facts good q r asks store table depth es served with_false first responds within entries told same made late_store late_table late_depth plain left_served again re late_within.
    answers_later stay facts good q r asks store table depth es served first (keeps with_false (untold r) store table depth es first responds) within entries told same made late_store late_table late_depth plain left_served again re
    (subst (λ (x : RequestParts). IsConcreteRequest late_table late_depth entries x re.request) (request_is with_false (untold r) store table depth es first responds) re.concrete)
    late_within fair sharp errors exact prompt
