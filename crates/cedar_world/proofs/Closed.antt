-- Policies of which none is open, as those in force are to a known question.
use Rattle.std.proofs.Common.{◌≡◌, ◌↔◌, Bool, true, false, cond, not, ◌&&◌, ◌||◌, List, Some, IsTrue, map, refl, sym, ◌∙◌, ap}
use Rattle.std.specs.FinMap as finite
use Rattle.cedar_language.specs.Uid.{Text}
use Rattle.cedar_language.specs.Value.{Kind}
use Rattle.cedar_language.specs.Facts.{Facts}
use Rattle.cedar_language.specs.Answering.{Erring, is_permit, is_residual, Judged, satisfied_forbid, satisfied_permit, residual_forbid, residual_permit, some, Allow, Deny, known_decision, is_reason, decision_by, decision, in_must, in_may, HasId}
use Rattle.cedar_language.specs.Authorization.{Known}
use Rattle.cedar_grammar.specs.Syntax.{condition}
use Rattle.cedar_world.specs.Answer.{Answer, Ids, has_id}
use Rattle.cedar_world.specs.World.{World, in_force, in_force_at}
use Rattle.cedar_world.specs.Setting.{means}
use Rattle.cedar_world.specs.Answers.{judge, answer_of}
use Rattle.cedar_world.specs.Standing.{ErrOnce, Says}
use Rattle.cedar_language.proofs.Booleans.{or_false}
use Rattle.cedar_world.proofs.Parts.{same_some}
use Rattle.cedar_world.proofs.Lists.{IsAmong, unmapped, not_some}
use Rattle.cedar_world.proofs.InForce.{listed_in_force}
use Rattle.cedar_world.proofs.Ids.{the_value, passed, has_passed, with_id, id_with, same_ids, failed, has_failed, with_error, error_with, same_kinds}
use Rattle.cedar_world.proofs.Standings.{not_residual}

decided_by : (sf sp : Bool) → decision_by sf sp false false ≡ Some (cond sf Deny (cond sp Allow Deny))
decided_by true sp = refl
decided_by false true = refl
decided_by false false = refl

may_by : (sf a b : Bool) → cond sf (a || false) (b || false || false) ≡ cond sf a b
may_by true a b = or_false a
may_by false a b = or_false (b || false) ∙ or_false b

module _ (js : List Judged) (closed : (j : Judged) → IsAmong j js → is_residual j.standing ≡ false) where
  no_open : (b : Bool) (j : Judged) → IsAmong j js → (b && is_residual j.standing) ≡ false
  no_open true j a = closed j a
  no_open false j a = refl

  no_open_forbid : some residual_forbid js ≡ false
  no_open_forbid = not_some residual_forbid js (λ j a. no_open (not (is_permit j.effect)) j a)

  pub decision_is : decision js ≡ Some (known_decision js)
  decision_is =
      rw (not_some residual_permit js (λ j a. no_open (is_permit j.effect) j a), no_open_forbid) (decided_by (some satisfied_forbid js) (some satisfied_permit js))

  pub must_is : (j : Judged) → in_must js j ≡ is_reason js j
  must_is j = rw (no_open_forbid, or_false (some satisfied_forbid js)) refl

  pub may_is : (j : Judged) → IsAmong j js → in_may js j ≡ is_reason js j
  may_is j a =
      let permit : residual_permit j ≡ false = no_open (is_permit j.effect) j a in
      let forbid : residual_forbid j ≡ false = no_open (not (is_permit j.effect)) j a in
      rw (permit, forbid) (may_by (some satisfied_forbid js) (satisfied_forbid j) (satisfied_permit j))

  -- ids of the policies that pass a test by which reasons are told
  reasons_are : (f : Judged → Bool) → ((j : Judged) → IsAmong j js → f j ≡ is_reason js j) → (ids : Ids) → ((id : Text) → IsTrue (has_id ids id) ↔ HasId js f id) → ids ≡ (answer_of js).must
  reasons_are f same ids by =
      same_ids ids (answer_of js).must
      (λ id h.
      let p = passed js f id ((by id).0 h) in
      with_id js (is_reason js) id (record { policy = p.policy; among = p.among; id_is = p.id_is; passes = sym (same p.policy p.among) ∙ p.passes }))
      (λ id h.
      let p = id_with js (is_reason js) id h in
      (by id).1 (has_passed js f id (record { policy = p.policy; among = p.among; id_is = p.id_is; passes = same p.policy p.among ∙ p.passes })))

  module _ (answer : Answer) (says : Says js answer) where
    error_named : (id : Text) (k : Kind) → finite.get answer.erring id ≡ Some k → finite.get (answer_of js).erring id ≡ Some k
    error_named id k h =
        let (l, is) = the_value (finite.get (answer_of js).erring id) (with_error js id k (failed js id k ((says.erring id k).0 h))) in
        let told : finite.get answer.erring id ≡ Some l = (says.erring id l).1 (has_failed js id l (error_with js id l is)) in
        is ∙ sym told ∙ h

    same_errors : answer.erring ≡ (answer_of js).erring
    same_errors = same_kinds answer.erring (answer_of js).erring error_named (λ id k h. (says.erring id k).1 (has_failed js id k (error_with js id k h)))

    -- what says so of them is their answer
    pub is_theirs : answer ≡ answer_of js
    is_theirs =
        let decided : answer.decision ≡ Some (known_decision js) = says.decision ∙ decision_is in
        let must : answer.must ≡ (answer_of js).must = reasons_are (in_must js) (λ j a. must_is j) answer.must says.must in
        let may : answer.may ≡ (answer_of js).may = reasons_are (in_may js) may_is answer.may says.may in
        λ i. record { decision = decided i; must = must i; may = may i; erring = same_errors i }

-- ---- the policies in force to a known question

module _ (world : World) (facts : Facts) (request : Known) where
  abbrev pub whole : List Judged
  whole = map (judge facts request) (in_force world.policies)

  pub whole_closed : (j : Judged) → IsAmong j whole → is_residual j.standing ≡ false
  whole_closed j a =
      let (p, among, is) = unmapped (judge facts request) (in_force world.policies) j a in
      ap (λ (x : Judged). is_residual x.standing) (sym is) ∙ not_residual (means facts request (condition p.1))

  one_policy : (x y : Judged) → IsAmong x whole → IsAmong y whole → x.id ≡ y.id → x ≡ y
  one_policy x y a b e =
      let (p, pa, p_is) = unmapped (judge facts request) (in_force world.policies) x a in
      let (r, ra, r_is) = unmapped (judge facts request) (in_force world.policies) y b in
      let ids : p.0 ≡ r.0 = ap (λ (j : Judged). j.id) p_is ∙ e ∙ sym (ap (λ (j : Judged). j.id) r_is) in
      let syntax : p.1 ≡ r.1 =
      same_some p.1 r.1 (sym (listed_in_force world.policies p.0 p.1 pa) ∙ ap (in_force_at world.policies) ids ∙ listed_in_force world.policies r.0 r.1 ra) in
      sym p_is ∙ ap (judge facts request) (λ i. (ids i, syntax i)) ∙ r_is

  pub err_once : ErrOnce whole
  err_once id k l h g =
      let x = failed whole id k h in
      let y = failed whole id l g in
      let same : x.policy ≡ y.policy = one_policy x.policy y.policy x.among y.among (x.id_is ∙ sym y.id_is) in
      let kinds : Erring k ≡ Erring l = sym x.errs ∙ ap (λ (j : Judged). j.standing) same ∙ y.errs in
      cc
