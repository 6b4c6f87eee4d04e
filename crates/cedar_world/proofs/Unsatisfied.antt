-- Policies that are unsatisfied change nothing of what is said.
use Rattle.std.proofs.Common.{◌≡◌, ◌⊎◌, inl, inr, Bool, true, false, cond, not, ◌&&◌, ◌||◌, List, ◌∷◌, refl, sym, ◌∙◌, ap, true≢false}
use Rattle.std.proofs.lemmas.Bool.{and_right}
use Rattle.std.specs.Cmp.{both_ways}
use Rattle.cedar_language.specs.Uid.{Text}
use Rattle.cedar_language.specs.Value.{Kind}
use Rattle.cedar_language.specs.Answering.{Unsatisfied, Erring, is_permit, is_satisfied, is_residual, Judged, satisfied_forbid, satisfied_permit, residual_forbid, residual_permit, some, decision, in_must, in_may, HasId, HasErred}
use Rattle.cedar_world.specs.Answer.{Answer}
use Rattle.cedar_world.specs.Standing.{Says, UnsatisfiedSayNothing}
use Rattle.cedar_world.proofs.Lists.{IsAmong, some_of, of_some}
use Rattle.cedar_world.proofs.Ids.{passed, has_passed, failed, has_failed}

-- no unsatisfied policy passes the test
abbrev Fails : (Judged → Bool) → Type 0
Fails f = (j : Judged) → j.standing ≡ Unsatisfied → f j ≡ false

unsatisfied : (b : Bool) (j : Judged) → j.standing ≡ Unsatisfied → (b && is_satisfied j.standing) ≡ false
unsatisfied b j e = and_right b (is_satisfied j.standing) (ap is_satisfied e)

closed : (b : Bool) (j : Judged) → j.standing ≡ Unsatisfied → (b && is_residual j.standing) ≡ false
closed b j e = and_right b (is_residual j.standing) (ap is_residual e)

-- policies that are judged, and unsatisfied ones besides
module _ (js ks : List Judged) (there : (j : Judged) → IsAmong j js → IsAmong j ks) (back : (j : Judged) → IsAmong j ks → IsAmong j js ⊎ (j.standing ≡ Unsatisfied)) where
  kept : (f : Judged → Bool) → Fails f → (j : Judged) → IsAmong j ks → f j ≡ true → IsAmong j js
  kept f fails j a h = elim (back j a) [
    | inl b ↦ b
    | inr e ↦ absurd (true≢false (sym h ∙ fails j e))
  ]

  some_same : (f : Judged → Bool) → Fails f → some f js ≡ some f ks
  some_same f fails =
      both_ways (some f js) (some f ks)
      (λ h. let u = of_some f js h in some_of f ks u.0 (there u.0 u.1) u.2)
      (λ h. let u = of_some f ks h in some_of f js u.0 (kept f fails u.0 u.1 u.2) u.2)

  forbids : some satisfied_forbid js ≡ some satisfied_forbid ks
  forbids = some_same satisfied_forbid (λ j. unsatisfied (not (is_permit j.effect)) j)

  open_forbids : some residual_forbid js ≡ some residual_forbid ks
  open_forbids = some_same residual_forbid (λ j. closed (not (is_permit j.effect)) j)

  same_decision : decision js ≡ decision ks
  same_decision =
      rw (forbids, open_forbids, some_same satisfied_permit (λ j. unsatisfied (is_permit j.effect) j), some_same residual_permit (λ j. closed (is_permit j.effect) j)) refl

  same_must : (x : Judged) → in_must js x ≡ in_must ks x
  same_must x = rw (forbids, open_forbids) refl

  same_may : (x : Judged) → in_may js x ≡ in_may ks x
  same_may x = rw forbids refl

  no_must : Fails (in_must ks)
  no_must j e = rw (unsatisfied (not (is_permit j.effect)) j e, unsatisfied (is_permit j.effect) j e) (never (some satisfied_forbid ks || some residual_forbid ks))
    where
      never : (b : Bool) → cond b false false ≡ false
      never true = refl
      never false = refl

  no_may : Fails (in_may ks)
  no_may j e =
      rw (unsatisfied (not (is_permit j.effect)) j e, unsatisfied (is_permit j.effect) j e, closed (not (is_permit j.effect)) j e, closed (is_permit j.effect) j e) (never (some satisfied_forbid ks))
    where
      never : (b : Bool) → cond b (false || false) (false || false || false) ≡ false
      never true = refl
      never false = refl

  -- an id passes with them just where it passes without them
  module _ (f g : Judged → Bool) (same : (x : Judged) → f x ≡ g x) (fails : Fails g) where
    with_them : (id : Text) → HasId js f id → HasId ks g id
    with_them id h =
        let p = passed js f id h in
        has_passed ks g id (record { policy = p.policy; among = there p.policy p.among; id_is = p.id_is; passes = sym (same p.policy) ∙ p.passes })

    without : (id : Text) → HasId ks g id → HasId js f id
    without id h =
        let p = passed ks g id h in
        has_passed js f id (record { policy = p.policy; among = kept g fails p.policy p.among p.passes; id_is = p.id_is; passes = same p.policy ∙ p.passes })

  error_with_them : (id : Text) (k : Kind) → HasErred js id k → HasErred ks id k
  error_with_them id k h =
      let p = failed js id k h in
      has_failed ks id k (record { policy = p.policy; among = there p.policy p.among; id_is = p.id_is; errs = p.errs })

  error_without : (id : Text) (k : Kind) → HasErred ks id k → HasErred js id k
  error_without id k h =
      let p = failed ks id k h in
      let still : IsAmong p.policy js = elim (back p.policy p.among) [
        | inl b ↦ b
        | inr e ↦ let never : Erring k ≡ Unsatisfied = sym p.errs ∙ e in cc
      ] in
      has_failed js id k (record { policy = p.policy; among = still; id_is = p.id_is; errs = p.errs })

  pub said_with_them : (answer : Answer) → Says js answer → Says ks answer
  said_with_them answer says = record {
    decision = says.decision ∙ same_decision;
    must = λ id. (λ h. with_them (in_must js) (in_must ks) same_must no_must id ((says.must id).0 h), λ h. (says.must id).1 (without (in_must js) (in_must ks) same_must no_must id h));
    may = λ id. (λ h. with_them (in_may js) (in_may ks) same_may no_may id ((says.may id).0 h), λ h. (says.may id).1 (without (in_may js) (in_may ks) same_may no_may id h));
    erring = λ id k. (λ h. error_with_them id k ((says.erring id k).0 h), λ h. (says.erring id k).1 (error_without id k h));
  }

  pub said_without : (answer : Answer) → Says ks answer → Says js answer
  said_without answer says = record {
    decision = says.decision ∙ sym same_decision;
    must = λ id. (λ h. without (in_must js) (in_must ks) same_must no_must id ((says.must id).0 h), λ h. (says.must id).1 (with_them (in_must js) (in_must ks) same_must no_must id h));
    may = λ id. (λ h. without (in_may js) (in_may ks) same_may no_may id ((says.may id).0 h), λ h. (says.may id).1 (with_them (in_may js) (in_may ks) same_may no_may id h));
    erring = λ id k. (λ h. error_without id k ((says.erring id k).0 h), λ h. (says.erring id k).1 (error_with_them id k h));
  }

pub unsatisfied_say_nothing : UnsatisfiedSayNothing
unsatisfied_say_nothing j js answer out = (said_without js (j ∷ js) (λ k a. inr a) back answer, said_with_them js (j ∷ js) (λ k a. inr a) back answer)
  where
    back : (k : Judged) → IsAmong k (j ∷ js) → IsAmong k js ⊎ (k.standing ≡ Unsatisfied)
    back k (inl e) = inr (ap (λ (x : Judged). x.standing) (sym e) ∙ out)
    back k (inr a) = inl a
