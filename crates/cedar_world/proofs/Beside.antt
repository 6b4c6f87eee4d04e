-- Policies that are judged to a question, beside what they come to under a filling.
use Rattle.std.proofs.Common.{◌≡◌, inl, inr, true, false, List, [], ◌∷◌, map, Option, Some, None, is_some, refl, sym, ◌∙◌, ap, subst}
use Rattle.std.proofs.lemmas.List.Elements.{All-contains}
use Rattle.std.specs.FinMap as finite
use Rattle.cedar_language.specs.Uid.{Text}
use Rattle.cedar_language.specs.Value.{Kind}
use Rattle.cedar_language.specs.Facts.{Facts}
use Rattle.cedar_language.specs.Answering.{Standing, Unsatisfied, is_residual, Judged, ComesTo, StillErrs, Fills, Filled, nothing, a_policy, At, at_first, at_later, satisfied_forbid, satisfied_permit, known_decision, is_reason, in_must, in_may, IsFair}
use Rattle.cedar_language.specs.Authorization.{Known, standing_of}
use Rattle.cedar_language.proofs.Answering.{rules_are_fair}
use Rattle.cedar_world.specs.Answer.{Answer}
use Rattle.cedar_grammar.specs.Syntax.{PolicySyntax, condition}
use Rattle.cedar_world.specs.World.{World, in_force, in_force_at}
use Rattle.cedar_world.specs.Setting.{Setting, means}
use Rattle.cedar_world.specs.Answers.{judge, HoldsOf, known_answer}
use Rattle.cedar_world.specs.Standing.{IsJudged, Judges, Says}
use Rattle.cedar_world.specs.Sound.{Becomes}
use Rattle.cedar_world.proofs.Parts.{same_some}
use Rattle.cedar_world.proofs.Lists.{IsAmong, contained, contains, mapped, unmapped, AreAlike, some_alike}
use Rattle.cedar_world.proofs.Ids.{the_value, HasPassed, passed, has_passed, with_id, id_with, HasFailed, failed, with_error}
use Rattle.cedar_world.proofs.InForce.{listed_in_force, in_force_listed}
use Rattle.cedar_world.proofs.Standings.{not_residual}
use Rattle.cedar_world.proofs.Closed.{whole}

-- ---- lists side by side

side_by_side : (f : Judged → Judged) (js : List Judged) → ((j : Judged) → IsAmong j js → Fills j (f j)) → Filled js (map f js)
side_by_side f [] h = nothing
side_by_side f (j ∷ js) h = a_policy (h j (inl refl)) (side_by_side f js (λ k a. h k (inr a)))

pub beside : (f : Judged → Judged) (js : List Judged) (j : Judged) → IsAmong j js → At js (map f js) j (f j)
beside f [] j a = absurd a
beside f (k ∷ js) j (inl e) = subst (λ x. At (k ∷ js) (map f (k ∷ js)) x (f x)) e at_first
beside f (k ∷ js) j (inr a) = at_later (beside f js j a)

-- ---- what the policies come to

pub same_syntax : (world : World) (id other : Text) (s t : PolicySyntax) → in_force_at world.policies id ≡ Some s → id ≡ other → in_force_at world.policies other ≡ Some t → s ≡ t
same_syntax world id other s t h is k = same_some s t (sym h ∙ ap (in_force_at world.policies) is ∙ k)

-- how a policy stands in another way
abbrev pub standing_at : (PolicySyntax → Standing) → Option PolicySyntax → Standing
standing_at standing None = Unsatisfied
standing_at standing (Some s) = standing s

abbrev pub stands_as : World → (PolicySyntax → Standing) → Judged → Judged
stands_as world standing j = record { id = j.id; effect = j.effect; standing = standing_at standing (in_force_at world.policies j.id) }

module _ (world : World) (Stands : PolicySyntax → Standing → Type 0) (js : List Judged) (judges : Judges world Stands js) where
  pub judged : (j : Judged) → IsAmong j js → IsJudged world Stands j
  judged j a = All-contains (IsJudged world Stands) js j judges.each (contains js j a)

  -- the policy in force under an id is among them
  pub there : (id : Text) (s : PolicySyntax) → in_force_at world.policies id ≡ Some s → (j : Judged) × IsAmong j js × (j.id ≡ id)
  there id s h = let u = judges.every id (ap is_some h) in (u.0, contained js u.0 u.1, u.2)

  -- a policy in force as it is judged
  pub record IsHere (id : Text) (s : PolicySyntax) (j : Judged) : Type 0 where
    pub effect_is : j.effect ≡ s.effect
    pub stands : Stands s j.standing

  pub here : (j : Judged) → IsAmong j js → (id : Text) → j.id ≡ id → (s : PolicySyntax) → in_force_at world.policies id ≡ Some s → IsHere id s j
  here j a id is s force =
      let h = judged j a in
      let syntax : h.syntax ≡ s = same_syntax world j.id id h.syntax s h.in_force is force in
      record { effect_is = sym h.effect ∙ ap (λ (x : PolicySyntax). x.effect) syntax; stands = subst (λ x. Stands x j.standing) syntax h.standing }

  -- the policies that are judged stand so too, in those that were judged in that way
  module _ (standing : PolicySyntax → Standing) (ks : List Judged) (each : (k : Judged) → IsAmong k ks → IsJudged world (λ s x. x ≡ standing s) k)
      (every : (id : Text) (s : PolicySyntax) → in_force_at world.policies id ≡ Some s → (k : Judged) × IsAmong k ks × (k.id ≡ id)) where
    same_as : (j k : Judged) → IsJudged world Stands j → IsJudged world (λ s x. x ≡ standing s) k → k.id ≡ j.id → k ≡ stands_as world standing j
    same_as j k h g e =
        let syntax : g.syntax ≡ h.syntax = same_syntax world k.id j.id g.syntax h.syntax g.in_force e h.in_force in
        let effect : k.effect ≡ j.effect = sym g.effect ∙ ap (λ (s : PolicySyntax). s.effect) syntax ∙ h.effect in
        let stands : k.standing ≡ standing_at standing (in_force_at world.policies j.id) = g.standing ∙ ap standing syntax ∙ ap (standing_at standing) (sym h.in_force) in
        λ i. record { id = e i; effect = effect i; standing = stands i }

    pub alike_as : AreAlike (map (stands_as world standing) js) ks
    alike_as = record {
      there = λ x a.
          let (j, b, is) = unmapped (stands_as world standing) js x a in
          let h = judged j b in
          let (k, c, e) = every j.id h.syntax h.in_force in
          subst (λ y. IsAmong y ks) (same_as j k h (each k c) e ∙ is) c;
      back = λ k c.
          let g = each k c in
          let (j, b, e) = there k.id g.syntax g.in_force in
          subst (λ y. IsAmong y (map (stands_as world standing) js)) (sym (same_as j k (judged j b) g (sym e))) (mapped (stands_as world standing) js j b);
    }

  module _ (facts : Facts) (request : Known) where
    abbrev known_standing : PolicySyntax → Standing
    known_standing s = standing_of (means facts request (condition s))

    abbrev known_as : Judged → Judged
    known_as = stands_as world known_standing

    abbrev all : List Judged
    all = map known_as js

    abbrev known : List Judged
    known = whole world facts request

    known_at : (o : Option PolicySyntax) → is_residual (standing_at known_standing o) ≡ false
    known_at None = refl
    known_at (Some s) = not_residual (means facts request (condition s))

    pub alike : AreAlike all known
    alike =
        alike_as known_standing known
        (λ k c.
        let (p, among, is) = unmapped (judge facts request) (in_force world.policies) k c in
        subst (IsJudged world (λ s x. x ≡ known_standing s)) is (record { syntax = p.1; in_force = listed_in_force world.policies p.0 p.1 among; effect = refl; standing = refl }))
        (λ id s force. (judge facts request (id, s), mapped (judge facts request) (in_force world.policies) (id, s) (in_force_listed world.policies id s force), refl))

    -- where each is judged to be as it stands to the known question, those are the policies
    pub alike_as_judged : ((id : Text) (s : PolicySyntax) → in_force_at world.policies id ≡ Some s → (standing : Standing) → Stands s standing → standing_of (means facts request (condition s)) ≡ standing) → AreAlike js known
    alike_as_judged exact = record {
      there = λ j a. subst (λ x. IsAmong x known) (as_judged j a) (alike.there (known_as j) (mapped known_as js j a));
      back = λ x a. let (j, b, is) = unmapped known_as js x (alike.back x a) in subst (λ y. IsAmong y js) (sym (as_judged j b) ∙ is) b;
    }
      where
        as_judged : (j : Judged) → IsAmong j js → known_as j ≡ j
        as_judged j a =
            let h = judged j a in
            let standing : (known_as j).standing ≡ j.standing = ap (standing_at known_standing) h.in_force ∙ exact j.id h.syntax h.in_force j.standing h.standing in
            λ i. record { id = j.id; effect = j.effect; standing = standing i }

    same_decision : known_decision all ≡ known_decision known
    same_decision = rw (some_alike all known alike satisfied_forbid, some_alike all known alike satisfied_permit) refl

    same_reason : (x : Judged) → is_reason all x ≡ is_reason known x
    same_reason x = rw (some_alike all known alike satisfied_forbid) refl

    module _ (comes : (id : Text) (s : PolicySyntax) → in_force_at world.policies id ≡ Some s → (standing : Standing) → Stands s standing → Becomes standing (standing_of (means facts request (condition s)))) where
      fills_one : (j : Judged) → IsAmong j js → Fills j (known_as j)
      fills_one j a =
          let h = judged j a in
          let becomes = comes j.id h.syntax h.in_force j.standing h.standing in
          record {
            id = refl;
            effect = refl;
            standing = subst (λ o. ComesTo j.standing (standing_at known_standing o)) (sym h.in_force) becomes.0;
            erring = subst (λ o. StillErrs j.standing (standing_at known_standing o)) (sym h.in_force) becomes.1;
            known = known_at (in_force_at world.policies j.id);
          }

      fairly : IsFair js all
      fairly = rules_are_fair js all (side_by_side known_as js fills_one)

      reason_holds : (id : Text) → HasPassed js (in_must js) id → HasPassed known (is_reason known) id
      reason_holds id h =
          let reason : is_reason all (known_as h.policy) ≡ true = fairly.must h.policy (known_as h.policy) (beside known_as js h.policy h.among) h.passes in
          record {
            policy = known_as h.policy;
            among = alike.there (known_as h.policy) (mapped known_as js h.policy h.among);
            id_is = h.id_is;
            passes = sym (same_reason (known_as h.policy)) ∙ reason;
          }

      may_hold : (id : Text) → HasPassed known (is_reason known) id → HasPassed js (in_may js) id
      may_hold id h =
          let (j, among, is) = unmapped known_as js h.policy (alike.back h.policy h.among) in
          let reason : is_reason all (known_as j) ≡ true = ap (is_reason all) is ∙ same_reason h.policy ∙ h.passes in
          record { policy = j; among = among; id_is = ap (λ (x : Judged). x.id) is ∙ h.id_is; passes = fairly.may j (known_as j) (beside known_as js j among) reason }

      still_errs : (id : Text) (k : Kind) → HasFailed js id k → (l : Kind) × HasFailed known id l
      still_errs id k h =
          let (l, is) = fairly.erring h.policy (known_as h.policy) (beside known_as js h.policy h.among) k h.errs in
          (l, record { policy = known_as h.policy; among = alike.there (known_as h.policy) (mapped known_as js h.policy h.among); id_is = h.id_is; errs = is })

      -- what the rules say of them holds under the filling
      pub holds : (by : Setting) (answer : Answer) → Says js answer → HoldsOf answer (known_answer by world facts request)
      holds by answer says = record {
        decision = λ d h. ap Some (sym same_decision ∙ fairly.decides d (sym says.decision ∙ h));
        must = λ id h. with_id known (is_reason known) id (reason_holds id (passed js (in_must js) id ((says.must id).0 h)));
        may = λ id h. (says.may id).1 (has_passed js (in_may js) id (may_hold id (id_with known (is_reason known) id h)));
        erring = λ id h.
            let (k, is) = the_value (finite.get answer.erring id) h in
            let (l, errs) = still_errs id k (failed js id k ((says.erring id k).0 is)) in
            with_error known id l errs;
      }
