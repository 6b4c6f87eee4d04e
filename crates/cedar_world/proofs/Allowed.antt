-- What the rules say of policies goes against nothing that is decided, now or once more is told; and they say all that is decided now.
use Rattle.std.proofs.Common.{◌≡◌, ◌≢◌, ◌⊎◌, inl, inr, Bool, true, false, cond, not, ◌&&◌, ◌||◌, List, Some, is_some, IsTrue, IsSome, refl, sym, ◌∙◌, ap, subst, true≢false}
use Rattle.std.proofs.lemmas.Bool.{or_cases, or_left, or_right}
use Rattle.std.specs.FinMap as finite
use Rattle.cedar_language.specs.Uid.{Text}
use Rattle.cedar_language.specs.Value.{Kind, Outcome}
use Rattle.cedar_language.specs.Facts.{Facts}
use Rattle.cedar_language.specs.Answering.{Effect, Permit, Forbid, Standing, Satisfied, Unsatisfied, Erring, Residual, is_permit, is_satisfied, is_residual, Judged, ComesTo, satisfied_forbid, satisfied_permit, residual_forbid, residual_permit, some, Allow, Deny, decision_by, in_must, in_may}
use Rattle.cedar_language.specs.Authorization.{standing_of}
use Rattle.cedar_grammar.specs.Syntax.{PolicySyntax, condition}
use Rattle.cedar_world.specs.Answer.{Answer, has_id}
use Rattle.cedar_world.specs.World.{World, in_force_at}
use Rattle.cedar_world.specs.Asking.{Question, Told}
use Rattle.cedar_world.specs.Setting.{Setting, Settles}
use Rattle.cedar_world.specs.Answers.{IsDecided, IsOut, AllOut, SomeHolds}
use Rattle.cedar_world.specs.Standing.{Judges, Says}
use Rattle.cedar_world.specs.Sound.{ErrsOrErred}
use Rattle.cedar_world.specs.Joined.{Allows}
use Rattle.cedar_world.proofs.Lists.{IsAmong, some_of, not_some}
use Rattle.cedar_world.proofs.Ids.{HasPassed, passed, has_passed, has_failed}
use Rattle.cedar_world.proofs.Beside.{judged, there, here}

-- ---- what the rules give

never_allows : (sf sp rp rf : Bool) → (sf || rf) ≡ true → decision_by sf sp rp rf ≡ Some Allow → ⊥
never_allows true sp rp rf h e = cc
never_allows false false false true h e = cc
never_allows false true rp true h e = cc
never_allows false false true true h e = cc
never_allows false sp rp false h e = cc

none_allows : (sf rp rf : Bool) → decision_by sf false rp rf ≡ Some Allow → ⊥
none_allows true rp rf e = cc
none_allows false false rf e = cc
none_allows false true true e = cc
none_allows false true false e = cc

never_denies : (sp rp rf : Bool) → (sp || rp) ≡ true → decision_by false sp rp rf ≡ Some Deny → ⊥
never_denies true rp true h e = cc
never_denies true rp false h e = cc
never_denies false true true h e = cc
never_denies false true false h e = cc
never_denies false false rf h e = cc

allows_by : (rp : Bool) → decision_by false true rp false ≡ Some Allow
allows_by true = refl
allows_by false = refl

denies_by : (sf rf : Bool) → decision_by sf false false rf ≡ Some Deny
denies_by true rf = refl
denies_by false rf = refl

-- what comes to be satisfied is so, or open
may_hold : (s : Standing) → ComesTo s Satisfied → (is_satisfied s || is_residual s) ≡ true
may_hold Unsatisfied h = absurd h
may_hold (Erring k) h = absurd h
may_hold _ h = refl

held : (s : Standing) → ComesTo s Satisfied → is_residual s ≡ false → is_satisfied s ≡ true
held Satisfied h c = refl
held Residual h c = cc
held _ h c = absurd h

not_held : (s t : Standing) → ComesTo s t → t ≢ Satisfied → is_satisfied s ≡ false
not_held Satisfied t h n = absurd (n (sym h))
not_held _ t h n = refl

-- a policy that is open or satisfied
forbids_by : (e : Effect) (a b : Bool) → e ≡ Forbid → (a || b) ≡ true → ((not (is_permit e) && a) || (not (is_permit e) && b)) ≡ true
forbids_by Forbid a b e h = h
forbids_by Permit a b e h = cc

permits_by : (e : Effect) (a b : Bool) → e ≡ Permit → (a || b) ≡ true → ((is_permit e && a) || (is_permit e && b)) ≡ true
permits_by Permit a b e h = h
permits_by Forbid a b e h = cc

no_forbid_by : (e : Effect) (a : Bool) → (e ≡ Forbid → a ≡ false) → (not (is_permit e) && a) ≡ false
no_forbid_by Forbid a h = h refl
no_forbid_by Permit a h = refl

no_permit_by : (e : Effect) (a : Bool) → (e ≡ Permit → a ≡ false) → (is_permit e && a) ≡ false
no_permit_by Permit a h = h refl
no_permit_by Forbid a h = refl

not_must : (b e : Bool) → cond b (not e && false) (e && false) ≡ false
not_must true true = refl
not_must true false = refl
not_must false true = refl
not_must false false = refl

never_may : (b e : Bool) → cond b ((not e && false) || (not e && false)) (((e && false) || (e && false)) || (not e && false)) ≡ false
never_may true true = refl
never_may true false = refl
never_may false true = refl
never_may false false = refl

module _ (js : List Judged) (j : Judged) (a : IsAmong j js) where
  some_counts : (f g : Judged → Bool) → (f j || g j) ≡ true → (some f js || some g js) ≡ true
  some_counts f g h =
      elim (or_cases (f j) (g j) h) [
        | inl e ↦ or_left (some f js) (some g js) (some_of f js j a e)
        | inr e ↦ or_right (some f js) (some g js) (some_of g js j a e)
      ]

  forbid_may : (satisfied_forbid j || residual_forbid j) ≡ true → in_may js j ≡ true
  forbid_may h = by_case (or_cases (satisfied_forbid j) (residual_forbid j) h)
    where
      by_open : (b : Bool) → residual_forbid j ≡ true → cond b (satisfied_forbid j || residual_forbid j) (satisfied_permit j || residual_permit j || residual_forbid j) ≡ true
      by_open true e = h
      by_open false e = or_right (satisfied_permit j || residual_permit j) (residual_forbid j) e

      by_case : (satisfied_forbid j ≡ true) ⊎ (residual_forbid j ≡ true) → in_may js j ≡ true
      by_case (inl e) = rw (some_of satisfied_forbid js j a e) h
      by_case (inr e) = by_open (some satisfied_forbid js) e

-- ---- policies as they are judged

module _ (by : Setting) (world : World) (facts : Facts) (q : Question) (told : Told) where
  -- what an answer says of what is decided; what erred first may have gone
  pub record SaysSo (Erred : PolicySyntax → Type 0) (a : Answer) : Type 0 where
    pub denies : SomeHolds by world facts q told Forbid → a.decision ≡ Some Deny
    pub denies_too : AllOut by world facts q told Permit → a.decision ≡ Some Deny
    pub allows : AllOut by world facts q told Forbid → SomeHolds by world facts q told Permit → a.decision ≡ Some Allow
    pub must_forbids : (id : Text) → IsDecided by world facts q told id Forbid Satisfied → IsTrue (has_id a.must id)
    pub must_permits : AllOut by world facts q told Forbid → (id : Text) → IsDecided by world facts q told id Permit Satisfied → IsTrue (has_id a.must id)
    pub may_not : (id : Text) (effect : Effect) → IsOut by world facts q told id effect → IsTrue (has_id a.may id) → ⊥
    pub may_forbids : SomeHolds by world facts q told Forbid → (id : Text) (s : PolicySyntax) → in_force_at world.policies id ≡ Some s → s.effect ≡ Permit → IsTrue (has_id a.may id) → ⊥
    pub erring : (id : Text) (effect : Effect) (k : Kind) → (d : IsDecided by world facts q told id effect (Erring k)) → IsSome (finite.get a.erring id) ⊎ Erred d.syntax

  -- what each policy comes to is what its condition settles to
  module _ (Stands : PolicySyntax → Standing → Type 0) (js : List Judged) (judges : Judges world Stands js)
      (carries : (id : Text) (s : PolicySyntax) → in_force_at world.policies id ≡ Some s → (result : Outcome) → Settles facts q told (condition s) result → (standing : Standing) → Stands s standing → ComesTo standing (standing_of result)) where
    abbrev Decided : Text → Effect → Standing → Type 0
    Decided id effect standing = IsDecided by world facts q told id effect standing

    -- what a policy that is decided is judged to be
    record IsSo (j : Judged) (effect : Effect) (standing : Standing) : Type 0 where
      effect_is : j.effect ≡ effect
      comes : ComesTo j.standing standing

    so : (j : Judged) → IsAmong j js → (id : Text) → j.id ≡ id → (effect : Effect) (standing : Standing) → Decided id effect standing → IsSo j effect standing
    so j a id is effect standing d =
        let h = here world Stands js judges j a id is d.syntax d.in_force in
        record { effect_is = h.effect_is ∙ d.effect_is; comes = subst (ComesTo j.standing) d.standing_is (carries id d.syntax d.in_force d.result d.settles j.standing h.stands) }

    out_unsatisfied : (j : Judged) → IsAmong j js → (id : Text) → j.id ≡ id → (effect : Effect) → IsOut by world facts q told id effect → is_satisfied j.standing ≡ false
    out_unsatisfied j a id is effect o = not_held j.standing o.0 (so j a id is effect o.0 o.2).comes o.1

    all_unsatisfied : (effect : Effect) → AllOut by world facts q told effect → (j : Judged) → IsAmong j js → j.effect ≡ effect → is_satisfied j.standing ≡ false
    all_unsatisfied effect out j a e = let h = judged world Stands js judges j a in out_unsatisfied j a j.id refl effect (out j.id h.syntax h.in_force (h.effect ∙ e))

    no_forbid : AllOut by world facts q told Forbid → some satisfied_forbid js ≡ false
    no_forbid out = not_some satisfied_forbid js (λ j a. no_forbid_by j.effect (is_satisfied j.standing) (all_unsatisfied Forbid out j a))

    no_permit : AllOut by world facts q told Permit → some satisfied_permit js ≡ false
    no_permit out = not_some satisfied_permit js (λ j a. no_permit_by j.effect (is_satisfied j.standing) (all_unsatisfied Permit out j a))

    member : (id : Text) (effect : Effect) (standing : Standing) → Decided id effect standing → (j : Judged) × IsAmong j js × (j.id ≡ id) × IsSo j effect standing
    member id effect standing d =
        let (j, a, is) = there world Stands js judges id d.syntax d.in_force in
        (j, a, is, so j a id is effect standing d)

    is_permit_too : (id : Text) (s : PolicySyntax) → in_force_at world.policies id ≡ Some s → s.effect ≡ Permit → (j : Judged) → IsAmong j js → j.id ≡ id → j.effect ≡ Permit
    is_permit_too id s force e j a is = (here world Stands js judges j a id is s force).effect_is ∙ e

    -- ---- nothing goes against what is decided

    may_forbid : (j : Judged) → IsSo j Forbid Satisfied → (satisfied_forbid j || residual_forbid j) ≡ true
    may_forbid j s = forbids_by j.effect (is_satisfied j.standing) (is_residual j.standing) s.effect_is (may_hold j.standing s.comes)

    may_permit : (j : Judged) → IsSo j Permit Satisfied → (satisfied_permit j || residual_permit j) ≡ true
    may_permit j s = permits_by j.effect (is_satisfied j.standing) (is_residual j.standing) s.effect_is (may_hold j.standing s.comes)

    some_may_forbid : SomeHolds by world facts q told Forbid → (some satisfied_forbid js || some residual_forbid js) ≡ true
    some_may_forbid (id, d) = let (j, a, is, s) = member id Forbid Satisfied d in some_counts js j a satisfied_forbid residual_forbid (may_forbid j s)

    some_may_permit : SomeHolds by world facts q told Permit → (some satisfied_permit js || some residual_permit js) ≡ true
    some_may_permit (id, d) = let (j, a, is, s) = member id Permit Satisfied d in some_counts js j a satisfied_permit residual_permit (may_permit j s)

    forbid_in_may : (id : Text) → Decided id Forbid Satisfied → HasPassed js (in_may js) id
    forbid_in_may id d = let (j, a, is, s) = member id Forbid Satisfied d in record { policy = j; among = a; id_is = is; passes = forbid_may js j a (may_forbid j s) }

    permit_in_may : AllOut by world facts q told Forbid → (id : Text) → Decided id Permit Satisfied → HasPassed js (in_may js) id
    permit_in_may out id d =
        let (j, a, is, s) = member id Permit Satisfied d in
        record { policy = j; among = a; id_is = is; passes = rw (no_forbid out) (or_left (satisfied_permit j || residual_permit j) (residual_forbid j) (may_permit j s)) }

    out_not_must : (id : Text) (effect : Effect) → IsOut by world facts q told id effect → HasPassed js (in_must js) id → ⊥
    out_not_must id effect o h =
        let none : in_must js h.policy ≡ false = rw (out_unsatisfied h.policy h.among id h.id_is effect o) (not_must (some satisfied_forbid js || some residual_forbid js) (is_permit h.policy.effect)) in
        true≢false (sym h.passes ∙ none)

    permit_not_must : SomeHolds by world facts q told Forbid → (id : Text) (s : PolicySyntax) → in_force_at world.policies id ≡ Some s → s.effect ≡ Permit → HasPassed js (in_must js) id → ⊥
    permit_not_must forbid id s force e h =
        let none : in_must js h.policy ≡ false = rw (some_may_forbid forbid, is_permit_too id s force e h.policy h.among h.id_is) refl in
        true≢false (sym h.passes ∙ none)

    pub allowed : (answer : Answer) → Says js answer → Allows by world facts q told answer
    allowed answer says = record {
      denies = λ h e. never_allows _ _ _ _ (some_may_forbid h) (sym says.decision ∙ e);
      denies_too = λ out e. none_allows _ _ _ (rw (no_permit out) at (sym says.decision ∙ e));
      allows = λ out h e. never_denies _ _ _ (some_may_permit h) (rw (no_forbid out) at (sym says.decision ∙ e));
      forbids_may = λ id d. (says.may id).1 (has_passed js (in_may js) id (forbid_in_may id d));
      permits_may = λ out id d. (says.may id).1 (has_passed js (in_may js) id (permit_in_may out id d));
      must_not = λ id effect o h. out_not_must id effect o (passed js (in_must js) id ((says.must id).0 h));
      forbids_must = λ forbid id s force e h. permit_not_must forbid id s force e (passed js (in_must js) id ((says.must id).0 h));
    }

    -- ---- all is said that is decided, where what is settled isn't left open

    module _ (Erred : PolicySyntax → Type 0)
        (sharp : (id : Text) (s : PolicySyntax) → in_force_at world.policies id ≡ Some s → (result : Outcome) → Settles facts q told (condition s) result → (standing : Standing) → Stands s standing
        → (is_residual standing ≡ false) × ((k : Kind) → standing_of result ≡ Erring k → ErrsOrErred standing (Erred s))) where
      closed : (j : Judged) → IsAmong j js → (id : Text) → j.id ≡ id → (effect : Effect) (standing : Standing) → Decided id effect standing → is_residual j.standing ≡ false
      closed j a id is effect standing d = (sharp id d.syntax d.in_force d.result d.settles j.standing (here world Stands js judges j a id is d.syntax d.in_force).stands).0

      all_closed : (effect : Effect) → AllOut by world facts q told effect → (j : Judged) → IsAmong j js → j.effect ≡ effect → is_residual j.standing ≡ false
      all_closed effect out j a e =
          let h = judged world Stands js judges j a in
          let o = out j.id h.syntax h.in_force (h.effect ∙ e) in
          closed j a j.id refl effect o.0 o.2

      closed_forbids : AllOut by world facts q told Forbid → some residual_forbid js ≡ false
      closed_forbids out = not_some residual_forbid js (λ j a. no_forbid_by j.effect (is_residual j.standing) (all_closed Forbid out j a))

      closed_permits : AllOut by world facts q told Permit → some residual_permit js ≡ false
      closed_permits out = not_some residual_permit js (λ j a. no_permit_by j.effect (is_residual j.standing) (all_closed Permit out j a))

      -- a policy that is decided to be satisfied is among them, and passes the test of its effect
      holding : (effect : Effect) (test : Judged → Bool) → ((j : Judged) → j.effect ≡ effect → is_satisfied j.standing ≡ true → test j ≡ true)
          → (id : Text) → Decided id effect Satisfied → HasPassed js test id
      holding effect test passes id d =
          let (j, a, is, s) = member id effect Satisfied d in
          record { policy = j; among = a; id_is = is; passes = passes j s.effect_is (held j.standing s.comes (closed j a id is effect Satisfied d)) }

      forbid_holding : (id : Text) → Decided id Forbid Satisfied → HasPassed js satisfied_forbid id
      forbid_holding = holding Forbid satisfied_forbid (λ j e h. rw (e, h) refl)

      permit_holding : (id : Text) → Decided id Permit Satisfied → HasPassed js satisfied_permit id
      permit_holding = holding Permit satisfied_permit (λ j e h. rw (e, h) refl)

      some_forbid : SomeHolds by world facts q told Forbid → some satisfied_forbid js ≡ true
      some_forbid (id, d) = let h = forbid_holding id d in some_of satisfied_forbid js h.policy h.among h.passes

      some_permit : SomeHolds by world facts q told Permit → some satisfied_permit js ≡ true
      some_permit (id, d) = let h = permit_holding id d in some_of satisfied_permit js h.policy h.among h.passes

      forbid_in_must : (id : Text) → Decided id Forbid Satisfied → HasPassed js (in_must js) id
      forbid_in_must id d =
          let h = forbid_holding id d in
          record { policy = h.policy; among = h.among; id_is = h.id_is; passes = rw (some_of satisfied_forbid js h.policy h.among h.passes) h.passes }

      permit_in_must : AllOut by world facts q told Forbid → (id : Text) → Decided id Permit Satisfied → HasPassed js (in_must js) id
      permit_in_must out id d =
          let h = permit_holding id d in
          record { policy = h.policy; among = h.among; id_is = h.id_is; passes = rw (no_forbid out, closed_forbids out) h.passes }

      out_not_may : (id : Text) (effect : Effect) → IsOut by world facts q told id effect → HasPassed js (in_may js) id → ⊥
      out_not_may id effect o h =
          let none : in_may js h.policy ≡ false =
          rw (out_unsatisfied h.policy h.among id h.id_is effect o, closed h.policy h.among id h.id_is effect o.0 o.2) (never_may (some satisfied_forbid js) (is_permit h.policy.effect)) in
          true≢false (sym h.passes ∙ none)

      permit_not_may : SomeHolds by world facts q told Forbid → (id : Text) (s : PolicySyntax) → in_force_at world.policies id ≡ Some s → s.effect ≡ Permit → HasPassed js (in_may js) id → ⊥
      permit_not_may forbid id s force e h =
          let none : in_may js h.policy ≡ false = rw (some_forbid forbid, is_permit_too id s force e h.policy h.among h.id_is) refl in
          true≢false (sym h.passes ∙ none)

      module _ (answer : Answer) (says : Says js answer) where
        errs : (id : Text) (effect : Effect) (k : Kind) → (d : Decided id effect (Erring k)) → IsSome (finite.get answer.erring id) ⊎ Erred d.syntax
        errs id effect k d =
            let (j, a, is, s) = member id effect (Erring k) d in
            let h = here world Stands js judges j a id is d.syntax d.in_force in
            elim ((sharp id d.syntax d.in_force d.result d.settles j.standing h.stands).1 k d.standing_is) [
              | inl e ↦ inl (ap is_some ((says.erring id e.0).1 (has_failed js id e.0 (record { policy = j; among = a; id_is = is; errs = e.1 }))))
              | inr e ↦ inr e
            ]

        pub says_so : SaysSo Erred answer
        says_so = record {
          denies = λ h. says.decision ∙ rw (some_forbid h) refl;
          denies_too = λ out. says.decision ∙ rw (no_permit out, closed_permits out) (denies_by (some satisfied_forbid js) (some residual_forbid js));
          allows = λ out h. says.decision ∙ rw (no_forbid out, closed_forbids out, some_permit h) (allows_by (some residual_permit js));
          must_forbids = λ id d. (says.must id).1 (has_passed js (in_must js) id (forbid_in_must id d));
          must_permits = λ out id d. (says.must id).1 (has_passed js (in_must js) id (permit_in_must out id d));
          may_not = λ id effect o h. out_not_may id effect o (passed js (in_may js) id ((says.may id).0 h));
          may_forbids = λ forbid id s force e h. permit_not_may forbid id s force e (passed js (in_may js) id ((says.may id).0 h));
          erring = errs;
        }
