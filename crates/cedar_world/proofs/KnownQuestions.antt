-- The known answer is what the conditions of the policies in force mean.
use Rattle.std.proofs.Common.{◌≡◌, ◌↔◌, ◌⊎◌, inl, inr, Bool, true, false, cond, not, ◌&&◌, Option, Some, None, List, [], map, codes, refl, sym, ◌∙◌, ap, subst, true≢false}
use Rattle.std.proofs.lemmas.Bool.{and_parts, and_from, or_parts, false_from_ne_true}
use Rattle.std.specs.FinMap as finite
use Rattle.cedar_language.specs.Uid.{Text, Name, Uid}
use Rattle.cedar_language.specs.Tree.{Boolean, MakeRecord, Tree, Apply, Trees, ValueType}
use Rattle.cedar_language.specs.Value.{Value, Plain, Kind, Outcome, Gives}
use Rattle.cedar_language.specs.Facts.{Facts}
use Rattle.cedar_language.specs.Meaning.{Request, meaning}
use Rattle.cedar_language.specs.Answering.{Effect, Permit, Forbid, Allow, Deny, is_permit, is_satisfied, Judged, satisfied_permit, satisfied_forbid, some, known_decision, is_reason, ids_with}
use Rattle.cedar_language.specs.Authorization.{Known, request_at, standing_of}
use Rattle.cedar_grammar.specs.Syntax.{PolicySyntax, condition}
use Rattle.cedar_partial_evaluation.proofs.Passing.{of_data, data_passes}
use Rattle.cedar_partial_evaluation.proofs.Leaves.{one_meaning}
use Rattle.cedar_partial_evaluation.specs.Filling.{FillsPart, FillsContext, names_told}
use Rattle.cedar_world.specs.Answer.{Answer, ids_of}
use Rattle.cedar_world.specs.Answers.{judge, errors_of}
use Rattle.cedar_world.specs.Asking.{Part, Given, Missing, Entries, NoContext, WithEntries, Question}
use Rattle.cedar_world.specs.Bodies.{is_restricted, some_name, ask_body}
use Rattle.cedar_world.specs.Commands.{Ask, Answered}
use Rattle.cedar_world.specs.Fillings.{IsFilling}
use Rattle.cedar_world.specs.KnownQuestions.{Asks, IsSatisfied, SomeSatisfied, Errs, AnswersByMeaning, IsAnsweredByMeaning, KnownQuestionsAreAnswered}
use Rattle.cedar_world.specs.Orders.{text_eq}
use Rattle.cedar_world.specs.Question.{IsKnown, is_missing, has_name}
use Rattle.cedar_world.specs.RunText.{FrameStep}
use Rattle.cedar_world.specs.Session.{no_command}
use Rattle.cedar_world.specs.Setting.{Setting, BodiesAreOne, functions_alone}
use Rattle.cedar_world.specs.Step.{Step}
use Rattle.cedar_world.specs.World.{World, in_force, in_force_at, new_world}
use Rattle.cedar_world.proofs.Fillings.{data_same}
use Rattle.cedar_world.proofs.Names.{each_named}
use Rattle.cedar_world.proofs.Ids.{HasPassed, with_id, id_with, HasFailed, has_failed, error_with, answers_are_made}
use Rattle.cedar_world.proofs.Closed.{err_once}
use Rattle.cedar_world.proofs.InForce.{listed_in_force, in_force_listed}
use Rattle.cedar_world.proofs.Maps.{itself}
use Rattle.cedar_world.proofs.Lists.{IsAmong, mapped, unmapped, some_of, of_some}
use Rattle.cedar_world.proofs.Parts.{same_some}
use Rattle.cedar_world.proofs.RunSession.{reached_on}
use Rattle.cedar_world.proofs.Session.{by_the_rules}

-- ---- the context of a known question

-- data in which no name stands means the same whatever is asked
closed_means : (facts others : Facts) → ((name : Name) → facts.function name ≡ others.function name) → (r s : Request) (t : Tree) → is_restricted t ≡ true → ((n : Text) → some_name (text_eq n) t ≡ false) → meaning facts r t ≡ meaning others s t
closed_means facts others same r s t restricted none =
    let Never : Text → Option ValueType → Type 0 = λ n ty. ⊥ in
    data_same facts others same r t restricted
    ∙ one_meaning others (of_data Never) r s (λ v k. absurd k) (λ x k. absurd k) (λ n ty k. absurd k) t (data_passes Never t restricted (each_named Never t (λ n ty e. true≢false (sym e ∙ none n))))

given_part : (p : Part) (o : Option Value) (u : Uid) → FillsPart p o u → (is_missing p && true) ≡ false → p ≡ Given u
given_part (Given w) o u fills known = ap Given (sym fills)
given_part (Missing ty) o u fills known = cc

module _ (by : Setting) (q : Question) (request : Known) (facts : Facts) (same : (name : Name) → facts.function name ≡ (functions_alone by.functions).function name) (known : IsKnown q) where
  no_name : (n : Text) → has_name q.context n ≡ false
  no_name n =
      let behind = (or_parts (is_missing q.principal && text_eq n (codes "principal")) _ (known n)).1 in
      let later = (or_parts (is_missing q.action && text_eq n (codes "action")) _ behind).1 in
      (or_parts (is_missing q.resource && text_eq n (codes "resource")) _ later).1

  context_means : (c : Entries) → ((n : Text) → has_name c n ≡ false) → FillsContext (functions_alone by.functions) c finite.empty request.context
      → (keys : List Text) × (entries : Trees) × (c ≡ WithEntries keys entries)
      × (meaning facts (request_at request (λ s. None)) (Apply (MakeRecord keys) entries) ≡ Gives request.context)
  context_means NoContext none fills = absurd (true≢false (sym (itself (codes "context")) ∙ none (codes "context")))
  context_means (WithEntries ks ts) none (restricted, given, means) = (
    ks,
    ts,
    refl,
    closed_means facts (functions_alone by.functions) same (request_at request (λ s. None)) (names_told finite.empty) (Apply (MakeRecord ks) ts) restricted none ∙ means,
  )

  asks : IsFilling by q finite.empty request → Asks facts request q
  asks filling =
      let fills = filling.fills in
      let action = (or_parts (is_missing q.principal && false) _ (known (codes "action"))).1 in
      let resource = (or_parts (is_missing q.action && false) _ (or_parts (is_missing q.principal && false) _ (known (codes "resource"))).1).1 in
      let (keys, entries, is, means) = context_means q.context no_name fills.context in
      record {
        principal = given_part q.principal _ request.principal fills.principal (or_parts (is_missing q.principal && true) _ (known (codes "principal"))).0;
        action = given_part q.action _ request.action fills.action (or_parts (is_missing q.action && true) _ action).0;
        resource = given_part q.resource _ request.resource fills.resource (or_parts (is_missing q.resource && true) _ resource).0;
        keys = keys;
        entries = entries;
        context = is;
        means = means;
      }

-- ---- how a policy in force stands

satisfied_means : (o : Outcome) → is_satisfied (standing_of o) ≡ true → o ≡ Gives (Plain (Boolean true))
satisfied_means (Gives (Plain (Boolean true))) h = refl
satisfied_means _ h = cc

permits_only : (e : Effect) → is_permit e ≡ true → e ≡ Permit
permits_only Permit h = refl
permits_only Forbid h = cc

forbids_only : (e : Effect) → not (is_permit e) ≡ true → e ≡ Forbid
forbids_only Permit h = cc
forbids_only Forbid h = refl

-- the rules by whether a forbid and a permit are satisfied
decides : (f p : Bool) (F P : Type 0) → (f ≡ true → F) → (F → f ≡ true) → (p ≡ true → P) → (P → p ≡ true)
    → ((Some (cond f Deny (cond p Allow Deny)) ≡ Some Allow) ↔ (P × (F → ⊥))) × ((Some (cond f Deny (cond p Allow Deny)) ≡ Some Deny) ↔ (F ⊎ (P → ⊥)))
decides true p F P some_f f_some some_p p_some = ((λ e. cc, λ h. absurd (h.1 (some_f refl))), (λ e. inl (some_f refl), λ h. refl))
decides false true F P some_f f_some some_p p_some =
    ((λ e. (some_p refl, λ x. true≢false (sym (f_some x))), λ h. refl), (λ e. cc, λ h. elim h [ inl x ↦ absurd (true≢false (sym (f_some x))) | inr none ↦ absurd (none (some_p refl)) ]))
decides false false F P some_f f_some some_p p_some = ((λ e. cc, λ h. absurd (true≢false (sym (p_some h.0)))), (λ e. inr (λ x. true≢false (sym (p_some x))), λ h. refl))

module _ (world : World) (facts : Facts) (request : Known) where
  abbrev all : List Judged
  all = map (judge facts request) (in_force world.policies)

  abbrev means_so : PolicySyntax → Outcome
  means_so s = meaning facts (request_at request (λ s. None)) (condition s)

  listed : (id : Text) (s : PolicySyntax) → in_force_at world.policies id ≡ Some s → IsAmong (judge facts request (id, s)) all
  listed id s force = mapped (judge facts request) (in_force world.policies) (id, s) (in_force_listed world.policies id s force)

  module _ (is_of : Effect → Bool) (effect : Effect) (only : (e : Effect) → is_of e ≡ true → e ≡ effect) (own : is_of effect ≡ true) where
    abbrev test : Judged → Bool
    test j = is_of j.effect && is_satisfied j.standing

    satisfied : (id : Text) → HasPassed all test id → IsSatisfied facts request world.policies effect id
    satisfied id h =
        let (p, among, is) = unmapped (judge facts request) (in_force world.policies) h.policy h.among in
        let (of, holds) = and_parts (is_of p.1.effect) (is_satisfied (standing_of (means_so p.1))) (ap test is ∙ h.passes) in
        let at : p.0 ≡ id = ap (λ (j : Judged). j.id) is ∙ h.id_is in
        (p.1, subst (λ i. in_force_at world.policies i ≡ Some p.1) at (listed_in_force world.policies p.0 p.1 among), only p.1.effect of, satisfied_means (means_so p.1) holds)

    passing : (id : Text) → IsSatisfied facts request world.policies effect id → HasPassed all test id
    passing id (s, force, of, means) = record {
      policy = judge facts request (id, s);
      among = listed id s force;
      id_is = refl;
      passes = and_from (is_of s.effect) (is_satisfied (standing_of (means_so s))) (ap is_of of ∙ own) (ap (λ o. is_satisfied (standing_of o)) means);
    }

    some_satisfied : some test all ≡ true → SomeSatisfied facts request world.policies effect
    some_satisfied h = let (j, among, passes) = of_some test all h in (j.id, satisfied j.id (record { policy = j; among = among; id_is = refl; passes = passes }))

    satisfied_some : SomeSatisfied facts request world.policies effect → some test all ≡ true
    satisfied_some (id, s) = let h = passing id s in some_of test all h.policy h.among h.passes

  -- ---- the answer

  abbrev answer : Answer
  answer = record {
    decision = Some (known_decision all);
    must = ids_of (ids_with (is_reason all) all);
    may = ids_of (ids_with (is_reason all) all);
    erring = finite.from_entries (errors_of all);
  }

  abbrev forbid_satisfied : SomeSatisfied facts request world.policies Forbid → some satisfied_forbid all ≡ true
  forbid_satisfied = satisfied_some (λ e. not (is_permit e)) Forbid forbids_only refl

  decided : ((answer.decision ≡ Some Allow) ↔ (SomeSatisfied facts request world.policies Permit × (SomeSatisfied facts request world.policies Forbid → ⊥)))
      × ((answer.decision ≡ Some Deny) ↔ (SomeSatisfied facts request world.policies Forbid ⊎ (SomeSatisfied facts request world.policies Permit → ⊥)))
  decided =
      decides (some satisfied_forbid all) (some satisfied_permit all) (SomeSatisfied facts request world.policies Forbid) (SomeSatisfied facts request world.policies Permit)
      (some_satisfied (λ e. not (is_permit e)) Forbid forbids_only refl) forbid_satisfied (some_satisfied is_permit Permit permits_only refl) (satisfied_some is_permit Permit permits_only refl)

  abbrev IsReason : Text → Type 0
  IsReason id =
      ((answer.decision ≡ Some Allow) × IsSatisfied facts request world.policies Permit id) ⊎ ((answer.decision ≡ Some Deny) × IsSatisfied facts request world.policies Forbid id)

  abbrev by_forbid : Bool → Judged → Bool
  by_forbid b j = cond b (satisfied_forbid j) (satisfied_permit j)

  reason : (b : Bool) → some satisfied_forbid all ≡ b → (id : Text) → HasPassed all (is_reason all) id → IsReason id
  reason true e id h =
      let s = satisfied (λ e. not (is_permit e)) Forbid forbids_only refl id
      (record { policy = h.policy; among = h.among; id_is = h.id_is; passes = subst (λ b. by_forbid b h.policy ≡ true) e h.passes }) in
      inr (decided.1.1 (inl (id, s)), s)
  reason false e id h =
      let s = satisfied is_permit Permit permits_only refl id
      (record { policy = h.policy; among = h.among; id_is = h.id_is; passes = subst (λ b. by_forbid b h.policy ≡ true) e h.passes }) in
      inl (decided.0.1 ((id, s), λ f. true≢false (sym (forbid_satisfied f) ∙ e)), s)

  reason_passes : (id : Text) → IsReason id → HasPassed all (is_reason all) id
  reason_passes id (inl (allow, s)) =
      let none = (decided.0.0 allow).1 in
      let e : some satisfied_forbid all ≡ false =
      false_from_ne_true (some satisfied_forbid all) (λ h. none (some_satisfied (λ e. not (is_permit e)) Forbid forbids_only refl h)) in
      let h = passing is_permit Permit permits_only refl id s in
      record { policy = h.policy; among = h.among; id_is = h.id_is; passes = subst (λ b. by_forbid b h.policy ≡ true) (sym e) h.passes }
  reason_passes id (inr (deny, s)) =
      let h = passing (λ e. not (is_permit e)) Forbid forbids_only refl id s in
      record { policy = h.policy; among = h.among; id_is = h.id_is; passes = subst (λ b. by_forbid b h.policy ≡ true) (sym (forbid_satisfied (id, s))) h.passes }

  -- ---- errors

  failed_errs : (id : Text) (k : Kind) → HasFailed all id k → Errs facts request world.policies id k
  failed_errs id k h =
      let (p, among, is) = unmapped (judge facts request) (in_force world.policies) h.policy h.among in
      let at : p.0 ≡ id = ap (λ (j : Judged). j.id) is ∙ h.id_is in
      (p.1, subst (λ i. in_force_at world.policies i ≡ Some p.1) at (listed_in_force world.policies p.0 p.1 among), ap (λ (j : Judged). j.standing) is ∙ h.errs)

  errs_named : (id : Text) (k : Kind) → Errs facts request world.policies id k → finite.get answer.erring id ≡ Some k
  errs_named id k (s, force, errs) =
      ((answers_are_made all (err_once world facts request)).erring id k).1
      (has_failed all id k (record { policy = judge facts request (id, s); among = listed id s force; id_is = refl; errs = errs }))

  by_meaning : AnswersByMeaning facts request world.policies answer
  by_meaning = record {
    allows = decided.0;
    denies = decided.1;
    reasons = λ id. (λ h. reason (some satisfied_forbid all) refl id (id_with all (is_reason all) id h), λ r. with_id all (is_reason all) id (reason_passes id r));
    no_other = refl;
    erring = λ id k. (λ h. failed_errs id k (error_with all id k h), λ e. errs_named id k e);
  }

module _ (once : (by : Setting) → BodiesAreOne by) (by : Setting) where
  answered : (world new : World) (text : Text) (answer : Answer) → Step by world Ask text (Answered answer) new → IsAnsweredByMeaning by world text answer
  answered world new text reply (none, (tree, q, reads, states, (first, is))) other r again says known =
      let same : q ≡ r = same_some q r (sym states ∙ ap ask_body (once by text tree other reads again) ∙ says) in
      let (request, fills, whole) = first.known (subst IsKnown (sym same) known) in (
        whole.facts,
        request,
        whole.facts_are,
        subst (Asks whole.facts request) same (asks by q request whole.facts (λ name. whole.facts_are.function name) (subst IsKnown (sym same) known) fills),
        subst (AnswersByMeaning whole.facts request world.policies) (sym whole.is) (by_meaning world whole.facts request),
      )

  frame_answered : (world new : World) (text : Text) (answer : Answer) → FrameStep by world Ask text (Answered answer) new → IsAnsweredByMeaning by world text answer
  frame_answered world new text reply (inl h) = absurd (cc)
  frame_answered world new text reply (inr (inl h)) = absurd (cc)
  frame_answered world new text reply (inr (inr h)) = answered world new text reply h.1

pub known_questions_are_answered : ((by : Setting) → BodiesAreOne by) → KnownQuestionsAreAnswered
known_questions_are_answered once = record {
  after_commands = λ by commands replies world new text answer answers step.
      ((by_the_rules by commands replies world answers).reached, answered once by world new text answer step);
  in_runs = λ by commands replies world new text answer answers step.
      let first = (by_the_rules by [] [] new_world no_command).reached in
      (reached_on by [] [] new_world first commands replies world answers, frame_answered once by world new text answer step);
}
