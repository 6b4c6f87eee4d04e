-- The policies of a first response that are taken up again once values are told, and those that aren't satisfied whatever is told, are just those in
-- force, each as it stands then.
use Rattle.std.proofs.Common.{◌≡◌, ◌∙◌, ◌||◌, refl, ap, sym, subst, true≢false, ℕ, Bool, true, false, All, inl, inr, IsSome, List, [], ◌∷◌, ◌++◌, map, filter, Contains}
use Rattle.std.specs.FinMap as finite
use Rattle.std.specs.declared.alloc.Global.{Global}
use Rattle.std.specs.declared.rc.RcStr.{RcStr}
use Rattle.cedar_grammar.specs.Calls.{calls_only}
use Rattle.cedar_language.specs.Answering.{Effect, Permit, Forbid, Standing, Judged, is_satisfied, is_residual, HasErred}
use Rattle.cedar_language.specs.Facts.{Facts}
use Rattle.cedar_language.specs.Tree.{Tree}
use Rattle.cedar_language.specs.Uid.{Text}
use Rattle.cedar_language.specs.Value.{Value, Kind}
use Rattle.cedar_partial_evaluation.specs.Early.{standing_of_answer}
use Rattle.cedar_partial_evaluation.specs.Partial.{ResidualTree, LeafAnswers, partial_in}
use Rattle.cedar_partial_evaluation.specs.MadeAgain.{HoldsMade}
use Rattle.cedar_partial_evaluation.specs.Waiting.{IsUntoldIn, WhatIsLeftWaits}
use Rattle.cedar_world.specs.First.{IsData}
use Rattle.cedar_partial_evaluation.specs.Question.{held_of}
use Rattle.cedar_partial_evaluation.specs.ReadUnknowns.{calls_unknown}
use Rattle.cedar_world.specs.Again.{standing_again, StandsAgain}
use Rattle.cedar_world.specs.PlainAnswers.{PlainAnswers}
use Rattle.cedar_world.specs.Answer.{Answer}
use Rattle.cedar_world.specs.Asking.{Question}
use Rattle.cedar_world.specs.Setting.{Setting}
use Rattle.cedar_world.specs.Standing.{IsJudged, Judges, Says, ErrOnce, UnsatisfiedSayNothing}
use Rattle.cedar_world.specs.World.{World, in_force_at}
use Rattle.cedar_world.specs.WorldFacts.{AreFactsOf}
use Rattle.cedar_policy_parts.specs.Bindings.{binding_of, unbound}
use Rattle.cedar_entities.specs.declared.store.Entities.{Entities}
use Rattle.cedar_extensions.specs.Table.{Table}
use Rattle.cedar_evaluator.specs.Asking.{Inquiry, untold, request_held}
use Rattle.cedar_interpreter.specs.Operating.{HasFunctions}
use Rattle.cedar_operators.specs.Store.{HasFacts}
use Rattle.cedar_policy_set.specs.Entries.{Entry, bound_at, policies_of}
use Rattle.cedar_policy_set.specs.Texts.{syntax_in}
use Rattle.cedar_held.specs.PolicyWorlds.{FindsAsWorlds}
use Rattle.cedar_requests.specs.Holding.{RequestParts}
use Rattle.cedar_substitution.specs.Told.{told_for}
use Rattle.cedar_evaluator.specs.Evaluations.{Found, Satisfied, Unsatisfied, Erred, Open, Finds, bindings_in, condition_in, Kept, IsKept, AreKept}
use Rattle.cedar_evaluator.specs.Responses.{Holding, open_of}
use Rattle.cedar_extensions.specs.Failures.{OfKind, LimitMet, MemoryRanOut}
use Rattle.cedar_evaluator.specs.Holding.{holding_in}
use Rattle.cedar_evaluator.specs.Residuals.{residuals_with, is_any}
use Rattle.cedar_evaluator.specs.declared.partial_response.PartialResponse.{PartialResponse}
use Rattle.cedar_evaluator.proofs.Standings.{standing_found, judged, is_settled, stands_as_found}
use Rattle.cedar_asking.specs.Keeping.{IsFirstResponse}
use Rattle.cedar_telling.specs.Tells.{told_in}
use Rattle.cedar_asking.specs.Waiting.{LeftIsUntold}
use Rattle.cedar_evaluator.proofs.Counted.{counts, CountAlike}
use Rattle.cedar_evaluator.proofs.Grouped.{errs, open_there}
use Rattle.cedar_asking.proofs.ContextsTold.{empty_is_made}
use Rattle.cedar_evaluator.proofs.LeftStands.{clause_stands}
use Rattle.cedar_asking.proofs.Exactness.{clause_calls}
use Rattle.cedar_evaluator.proofs.KeptOf.{kept_of, of_kept}
use Rattle.cedar_asking.proofs.Firsts.{some_value, same_value, same_kind, effect_as_written, all_among, each_of}
use Rattle.cedar_asking.proofs.InForce.{written_entry, is_bound, is_there, is_in_force, is_held, written_by}
use Rattle.cedar_evaluator.proofs.Lists.{IsAmong, contained, contains, mapped, unmapped}
use Rattle.cedar_evaluator.proofs.Members.{among_left, among_right, among_either, filtered, unfiltered}
use Rattle.cedar_asking.proofs.Naming.{is_other, no_unknown}
use Rattle.cedar_asking.proofs.Rejudged.{binds_written, names_nothing, first_served, first_found, is_named, taken_up, clause_calls_nothing}
use Rattle.cedar_asking.proofs.Standings.{held_so, no_slots}
use Rattle.cedar_evaluator.proofs.Taken.{clause_of, is_out, out_clause, IsLeftOf, true_kept, is_left, left_of}

along : (w x y z : Text) → w ≡ x → x ≡ y → y ≡ z → w ≡ z
along w x y z e f g = e ∙ f ∙ g

-- ---- the policies that aren't satisfied whatever is told

abbrev again_out : Kept → Kept
again_out k = record { id = k.id; effect = k.effect; annotations = k.annotations; found = Unsatisfied }

abbrev pub all_out : List Kept → List Kept
all_out ks = map again_out (filter (λ (k : Kept). is_out k.found) ks)

-- they change nothing of what is said
module _ (law : UnsatisfiedSayNothing) (later : List Kept) (answer : Answer) (says : Says (map judged later) answer) where
  say_besides : (ks : List Kept) → Says (map judged (map again_out ks ++ later)) answer
  say_besides [] = says
  say_besides (k ∷ ks) = (law (judged (again_out k)) (map judged (map again_out ks ++ later)) answer refl).1 (say_besides ks)

  pub says_of_all : (ks : List Kept) → Says (map judged (all_out ks ++ later)) answer
  says_of_all ks = say_besides (filter (λ (k : Kept). is_out k.found) ks)

-- ---- each policy

module _ (law : PlainAnswers) (finds : FindsAsWorlds) (by : Setting) (world : World) (facts : Facts) (are : AreFactsOf by world facts) (q : Question) (first : PartialResponse) (response : IsFirstResponse by world q first)
    (told : List (RcStr Global × Value)) (more : RequestParts) (holds : request_held (record { request = more; told = told_for told }) unbound ≡ held_of facts q no_slots (told_in told))
    (store : Entities) (table : Table) (depth : ℕ) (has : HasFacts store facts) (served : HasFunctions table facts)
    (later : List Kept) (each : AreKept (record { request = more; told = told_for told }) store table depth (residuals_with is_any first) later) (settled : (k : Kept) → IsAmong k later → is_settled k.found ≡ true) where
  abbrev inquiry : Inquiry
  inquiry = record { request = more; told = told_for told }

  abbrev standing_of : Entry → Standing
  standing_of e = standing_again facts q (told_in told) (binding_of (bindings_in e)) (condition_in e)

  -- a policy that is kept again, by its entry in the set of the first response
  record IsAgain (l : Kept) : Type 0 where
    entry : Text × Entry
    in_set : IsAmong entry (policies_of response.policies)
    id : l.id ≡ entry.0
    effect : (written_entry entry.1).effect ≡ l.effect
    named : calls_only is_other (condition_in entry.1) ≡ true
    standing : standing_found l.found ≡ standing_of entry.1

  module _ (l : Kept) (in_later : IsAmong l later) (d : Text × Entry) (of_later : IsKept inquiry store table depth d l) (k : Kept) (in_ks : IsAmong k response.responds.kept) (left : IsLeftOf k d)
      (e : Text × Entry) (in_set : IsAmong e (policies_of response.policies)) (of : IsKept (untold response.request) response.store response.table response.depth e k) where
    left_calls : calls_unknown (condition_in d.1) ≡ false
    left_calls =
        ap (λ (x : Entry). calls_unknown (condition_in x)) left.policy ∙ clause_calls k.effect left.annotations (clause_of k.found)
        ∙ clause_calls_nothing law finds by world facts are q first response k in_ks e in_set of

    left_stands : standing_found l.found ≡ standing_of_answer (partial_in facts (request_held inquiry (bindings_in d.1)) (condition_in d.1))
    left_stands = stands_as_found _ l.found (settled l in_later) (of_later.found facts (record { entities = has; functions = served; names_nothing = names_nothing table (condition_in d.1) left_calls }))

    -- as what it was taken up as
    by_clause : standing_found l.found ≡ standing_of_answer (partial_in facts (held_of facts q no_slots (told_in told)) (clause_of k.found))
    by_clause =
        left_stands
        ∙ ap (λ (x : Entry). standing_of_answer (partial_in facts (request_held inquiry (bindings_in x)) (condition_in x))) left.policy
        ∙ clause_stands k.effect left.annotations facts (request_held inquiry unbound) (clause_of k.found)
        ∙ ap (λ (h : LeafAnswers). standing_of_answer (partial_in facts h (clause_of k.found))) holds

    stands_so : standing_found l.found ≡ standing_of e.1
    stands_so =
        by_clause
        ∙ ap (λ (c : Tree). standing_of_answer (partial_in facts (held_of facts q no_slots (told_in told)) c)) (sym (taken_up law finds by world facts are q first response k in_ks e in_set of))

    kept_again : IsAgain l
    kept_again = record {
      entry = e;
      in_set = in_set;
      id = of_later.id ∙ left.id ∙ of.id;
      effect = effect_as_written e.1 ∙ sym of.effect ∙ sym (ap (λ (x : Entry). (syntax_in x).effect) left.policy) ∙ sym of_later.effect;
      named = is_named law finds by world facts are q first response k in_ks e in_set of;
      standing = stands_so;
    }

  abbrev ks : List Kept
  ks = response.responds.kept

  abbrev all_later : List Kept
  all_later = all_out ks ++ later

  again_of : (l : Kept) → IsAmong l later → IsAgain l
  again_of l in_later =
      let (d, in_left, of_later) = kept_of inquiry store table depth (residuals_with is_any first) later each l in_later in
      let (k, in_ks, left) = is_left response.responds.kept first (true_kept response.responds.kept (holding_in first) response.responds.holds) d in_left in
      let (e, in_set, of) = kept_of (untold response.request) response.store response.table response.depth (policies_of response.policies) response.responds.kept response.responds.each k in_ks in
      kept_again l in_later d of_later k in_ks left e in_set of

  -- what wasn't satisfied is `false`, whatever is told
  out_stands : (k : Kept) → is_out k.found ≡ true → IsAmong k ks → (e : Text × Entry) → IsAmong e (policies_of response.policies) → IsKept (untold response.request) response.store response.table response.depth e k →
      standing_found Unsatisfied ≡ standing_of e.1
  out_stands k out in_ks e in_set of =
      sym (ap (λ (c : Tree). standing_of_answer (partial_in facts (held_of facts q no_slots (told_in told)) c)) (taken_up law finds by world facts are q first response k in_ks e in_set of ∙ out_clause k.found out))

  again_without : (k : Kept) → IsAmong k ks → is_out k.found ≡ true → IsAgain (again_out k)
  again_without k in_ks out =
      let (e, in_set, of) = kept_of (untold response.request) response.store response.table response.depth (policies_of response.policies) ks response.responds.each k in_ks in
      record {
        entry = e;
        in_set = in_set;
        id = of.id;
        effect = effect_as_written e.1 ∙ sym of.effect;
        named = is_named law finds by world facts are q first response k in_ks e in_set of;
        standing = out_stands k out in_ks e in_set of;
      }

  each_again : (l : Kept) → IsAmong l all_later → IsAgain l
  each_again l a =
      elim (among_either l (all_out ks) later a) [
        | inr h ↦ again_of l h
        | inl h ↦
            let (k, among, is) = unmapped again_out (filter (λ (k : Kept). is_out k.found) ks) l h in
            let (in_ks, out) = unfiltered (λ (k : Kept). is_out k.found) k ks among in
            subst IsAgain is (again_without k in_ks out)
      ]

  each_judged : (j : Judged) → IsAmong j (map judged all_later) → IsJudged world (StandsAgain world.policies facts q (told_in told)) j
  each_judged j a =
      let (l, in_later, is) = unmapped judged all_later j a in
      let x = each_again l in_later in
      let (at, policy) = is_bound response.policies response.whole x.entry x.in_set in
      let (own, held) = is_held response.policies response.whole response.of.slots finds world response.of.policies x.entry.0 x.entry.1 at in
      subst (IsJudged world (StandsAgain world.policies facts q (told_in told))) is (record {
        syntax = written_entry x.entry.1;
        in_force = ap (in_force_at world.policies) x.id ∙ is_in_force response.policies response.whole response.of.slots finds world response.of.policies x.entry.0 x.entry.1 at policy;
        effect = x.effect;
        standing = record {
          id = own;
          unbound = syntax_in x.entry.1;
          held = held;
          slots = binding_of (bindings_in x.entry.1);
          binds = binds_written x.entry.1;
          names_nothing = no_unknown is_other (condition_in x.entry.1) x.named;
          stands = x.standing;
        };
      })

  abbrev HasJudged : Text → Type 0
  HasJudged id = (j : Judged) × Contains (map judged all_later) j × (j.id ≡ id)

  has_judged : (id : Text) (k : Kept) → IsAmong k ks → k.id ≡ id → (out : Bool) → is_out k.found ≡ out → HasJudged id
  has_judged id k in_ks named true out =
      let there = among_left (again_out k) (all_out ks) later (mapped again_out (filter (λ (k : Kept). is_out k.found) ks) k (filtered (λ (k : Kept). is_out k.found) k ks in_ks out)) in
      (judged (again_out k), contains (map judged all_later) (judged (again_out k)) (mapped judged all_later (again_out k) there), named)
  has_judged id k in_ks named false out =
      let (d, in_left, left) = left_of ks first (true_kept ks (holding_in first) response.responds.holds) k out in_ks in
      let (l, in_later, again) = of_kept inquiry store table depth (residuals_with is_any first) later each d in_left in
      (judged l, contains (map judged all_later) (judged l) (mapped judged all_later l (among_right l (all_out ks) later in_later)), along l.id d.0 k.id id again.id left.id named)

  every_judged : (id : Text) → IsSome (in_force_at world.policies id) → HasJudged id
  every_judged id some =
      let (s, force) = some_value (in_force_at world.policies id) some in
      let (e, at, is, policy) = written_by response.policies response.whole response.of.slots finds world response.of.policies id s force in
      let (k, in_ks, kept) = of_kept (untold response.request) response.store response.table response.depth (policies_of response.policies) ks response.responds.each (id, e) (is_there response.policies response.whole id e at policy) in
      has_judged id k in_ks kept.id (is_out k.found) refl

  pub judges_again : Judges world (StandsAgain world.policies facts q (told_in told)) (map judged all_later)
  judges_again = record { each = all_among _ (map judged all_later) each_judged; every = every_judged }

  -- under one id one policy is kept, and it stands in one way
  pub once_again : ErrOnce (map judged later)
  once_again id k l (a, in_a, id_a, errs_a) (b, in_b, id_b, errs_b) =
      let (m, m_later, m_is) = unmapped judged later a (contained (map judged later) a in_a) in
      let (n, n_later, n_is) = unmapped judged later b (contained (map judged later) b in_b) in
      let x = again_of m m_later in
      let y = again_of n n_later in
      let ids : x.entry.0 ≡ y.entry.0 = sym x.id ∙ ap (λ (j : Judged). j.id) m_is ∙ id_a ∙ sym id_b ∙ sym (ap (λ (j : Judged). j.id) n_is) ∙ y.id in
      let same : x.entry.1 ≡ y.entry.1 =
      same_value x.entry.1 y.entry.1 (sym (is_bound response.policies response.whole x.entry x.in_set).0 ∙ ap (bound_at response.policies) ids ∙ (is_bound response.policies response.whole y.entry y.in_set).0) in
      same_kind k l
      (sym errs_a ∙ sym (ap (λ (j : Judged). j.standing) m_is) ∙ x.standing ∙ ap standing_of same ∙ sym y.standing ∙ ap (λ (j : Judged). j.standing) n_is ∙ errs_b)

  -- ---- while no name is told that stands in what is left of a policy, each that counts stands as it did

  module _ (waits : WhatIsLeftWaits) (good : HoldsMade facts) (is_data : IsData q.context) (still : LeftIsUntold (holding_in first) (told_in told)) where
    open_untold : (effect : Effect) (h : List (Text × Tree)) → h ≡ open_of effect ks → All (λ (x : Text × Tree). IsUntoldIn (told_in told) x.1) h →
        (k : Kept) (r : Tree) → IsAmong k ks → k.effect ≡ effect → k.found ≡ Open r → IsUntoldIn (told_in told) r
    open_untold effect h is all k r in_ks of found =
        each_of (λ (x : Text × Tree). IsUntoldIn (told_in told) x.1) h all (k.id, r) (subst (IsAmong (k.id, r)) (sym is) (open_there ks effect k r in_ks of found))

    left_untold : (k : Kept) (r : Tree) (effect : Effect) → IsAmong k ks → k.effect ≡ effect → k.found ≡ Open r → IsUntoldIn (told_in told) r
    left_untold k r Permit = open_untold Permit (holding_in first).open_permits (ap (λ (h : Holding). h.open_permits) response.responds.holds) still.0 k r
    left_untold k r Forbid = open_untold Forbid (holding_in first).open_forbids (ap (λ (h : Holding). h.open_forbids) response.responds.holds) still.1 k r

    -- what is left of it is left again
    clause_waits : (k : Kept) → IsAmong k ks → (e : Text × Entry) → IsAmong e (policies_of response.policies)
        → IsKept (untold response.request) response.store response.table response.depth e k → (f : Found) → k.found ≡ f → is_out f ≡ false
        → standing_of_answer (partial_in facts (held_of facts q no_slots (told_in told)) (clause_of f)) ≡ standing_found f
    clause_waits k in_ks e in_set of Satisfied is out = refl
    clause_waits k in_ks e in_set of Unsatisfied is out = cc
    clause_waits k in_ks e in_set of (Erred f) is out = cc
    clause_waits k in_ks e in_set of (Open r) is out =
        let found : Finds (partial_in facts (request_held (untold response.request) (bindings_in e.1)) (condition_in e.1)) (Open r) =
        subst (Finds (partial_in facts (request_held (untold response.request) (bindings_in e.1)) (condition_in e.1))) is
        (first_found law finds by world facts are q first response k in_ks e in_set of) in
        let left : partial_in facts (held_of facts q (binding_of (bindings_in e.1)) finite.empty) (condition_in e.1) ≡ ResidualTree r =
        ap (λ (h : LeafAnswers). partial_in facts h (condition_in e.1))
        (sym (held_so response.table q response.request response.is_request.holds facts (first_served law finds by world facts are q first response) (bindings_in e.1)))
        ∙ found in
        let (again, stays) = waits facts good q is_data (binding_of (bindings_in e.1)) no_slots finite.empty (told_in told) (empty_is_made facts) (condition_in e.1) r left
        (left_untold k r k.effect in_ks refl is) in
        ap standing_of_answer stays

    -- it was satisfied, or open
    counted_in : (f : Found) → (is_satisfied (standing_found f) || is_residual (standing_found f)) ≡ true → is_out f ≡ false
    counted_in Satisfied c = refl
    counted_in Unsatisfied c = cc
    counted_in (Erred (OfKind k)) c = cc
    counted_in (Erred LimitMet) c = cc
    counted_in (Erred MemoryRanOut) c = cc
    counted_in (Open r) c = refl

    not_erring : (f : Found) → is_out f ≡ false → errs (standing_found f) ≡ false
    not_erring Satisfied out = refl
    not_erring Unsatisfied out = cc
    not_erring (Erred f) out = cc
    not_erring (Open r) out = refl

    module _ (l : Kept) (in_later : IsAmong l later) (d : Text × Entry) (of_later : IsKept inquiry store table depth d l) (k : Kept) (in_ks : IsAmong k ks) (left : IsLeftOf k d) where
      found_first : (e : Text × Entry) × IsAmong e (policies_of response.policies) × IsKept (untold response.request) response.store response.table response.depth e k
      found_first = kept_of (untold response.request) response.store response.table response.depth (policies_of response.policies) ks response.responds.each k in_ks

      as_taken : standing_found l.found ≡ standing_of_answer (partial_in facts (held_of facts q no_slots (told_in told)) (clause_of k.found))
      as_taken = by_clause l in_later d of_later k in_ks left found_first.0 found_first.1 found_first.2

      as_found : is_out k.found ≡ false → standing_found l.found ≡ standing_found k.found
      as_found out = as_taken ∙ clause_waits k in_ks found_first.0 found_first.1 found_first.2 k.found refl out

      as_out : is_out k.found ≡ true → standing_found l.found ≡ standing_found Unsatisfied
      as_out out = as_taken ∙ ap (λ (c : Tree). standing_of_answer (partial_in facts (held_of facts q no_slots (told_in told)) c)) (out_clause k.found out)

      same_judged : is_out k.found ≡ false → judged k ≡ judged l
      same_judged out =
          let id : l.id ≡ k.id = of_later.id ∙ left.id in
          let effect : l.effect ≡ k.effect = of_later.effect ∙ ap (λ (x : Entry). (syntax_in x).effect) left.policy in
          λ i. record { id = sym id i; effect = sym effect i; standing = sym (as_found out) i }

      still_in : (b : Bool) → is_out k.found ≡ b → counts (judged l) ≡ true → is_out k.found ≡ false
      still_in false out c = out
      still_in true out c =
          let no : counts (judged l) ≡ false = ap (λ (s : Standing). is_satisfied s || is_residual s) (as_out out) in
          absurd (true≢false (sym c ∙ no))

      errs_not : (b : Bool) → is_out k.found ≡ b → errs (standing_found l.found) ≡ false
      errs_not false out = ap errs (as_found out) ∙ not_erring k.found out
      errs_not true out = ap errs (as_out out)

    -- a policy that is kept again, by what was kept of it
    kept_first : (l : Kept) → IsAmong l later → (d : Text × Entry) × IsKept inquiry store table depth d l × ((k : Kept) × IsAmong k ks × IsLeftOf k d)
    kept_first l in_later =
        let (d, in_left, of_later) = kept_of inquiry store table depth (residuals_with is_any first) later each l in_later in
        (d, of_later, is_left ks first (true_kept ks (holding_in first) response.responds.holds) d in_left)

    -- the same policies count
    pub alike_again : CountAlike (map judged ks) (map judged later)
    alike_again = record {
      there = λ j a c.
          let (l, in_later, is) = unmapped judged later j a in
          let (d, of_later, of_first) = kept_first l in_later in
          let (k, in_ks, left) = of_first in
          let out = still_in l in_later d of_later k in_ks left (is_out k.found) refl (ap counts is ∙ c) in
          subst (λ x. IsAmong x (map judged ks)) (same_judged l in_later d of_later k in_ks left out ∙ is) (mapped judged ks k in_ks);
      back = λ j a c.
          let (k, in_ks, is) = unmapped judged ks j a in
          let out = counted_in k.found (ap counts is ∙ c) in
          let (d, in_left, left) = left_of ks first (true_kept ks (holding_in first) response.responds.holds) k out in_ks in
          let (l, in_later, of_later) = of_kept inquiry store table depth (residuals_with is_any first) later each d in_left in
          subst (λ x. IsAmong x (map judged later)) (sym (same_judged l in_later d of_later k in_ks left out) ∙ is) (mapped judged later l in_later);
    }

    -- and none errs
    pub none_errs_again : (id : Text) (x : Kind) → HasErred (map judged later) id x → ⊥
    none_errs_again id x (j, c, is, e) =
        let (l, in_later, same) = unmapped judged later j (contained (map judged later) j c) in
        let (d, of_later, of_first) = kept_first l in_later in
        let (k, in_ks, left) = of_first in
        let no : errs (standing_found l.found) ≡ false = errs_not l in_later d of_later k in_ks left (is_out k.found) refl in
        let yes : errs (standing_found l.found) ≡ true = ap (λ (j : Judged). errs j.standing) same ∙ ap errs e in
        absurd (true≢false (sym yes ∙ no))
